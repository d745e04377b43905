-- What was read can be written, where each late field stands in the record at the place it is looked for.
use Rattle.std.specs.Prelude.{ℕ, ◌≡◌, List, ◌++◌}
use Rattle.vps_definition.specs.Syntax.{Syntax, ◌>>=◌, Token, numbers, run, skim, look}
use Rattle.vps_definition.specs.Syntax.Outcome.{accepted}
use Rattle.vps_laws.specs.Inversion.{run_reads, writes_emit}
use Rattle.vps_laws.specs.RoundTrip.{Coherent, reads_writes, Emits, reads_coherent, reads_skim, reads_look}

-- what was read is written from the numbers kept, in as many bits
pub run_emit : {A : Type 0} {a : A} {t : List Token} {next : ℕ} (m : Syntax A) (s : List ℕ) (at : ℕ) → run m s at ≡ accepted a t next
    → (r y : List ℕ) → Coherent m s at r (numbers t ++ y) → Emits m at a t next r y
run_emit m s at e r y h =
    let W = reads_writes (run_reads m s at e) r y h in
    record { bits = W.bits; emits = writes_emit W.writes; reaches = W.reaches }

pub coherent_bind : {A B : Type 0} {a : A} {t : List Token} {next : ℕ} (m : Syntax A) (f : A → Syntax B) (s : List ℕ) (at : ℕ) (r y : List ℕ) → run m s at ≡ accepted a t next
    → Coherent m s at r (numbers t ++ y) → Coherent (f a) s next r y → Coherent (m >>= f) s at r (numbers t ++ y)
coherent_bind m f s at r y e h g = reads_coherent (run_reads m s at e) f r y h g

-- the record's rest behind a table is what stands behind the numbers it kept
pub skim_run : {A : Type 0} {a : A} {t : List Token} {next : ℕ} (m : Syntax A) (s : List ℕ) (at : ℕ) (r y : List ℕ) → run m s at ≡ accepted a t next
    → Coherent m s at r (numbers t ++ y) → skim m r (numbers t ++ y) ≡ y
skim_run m s at r y e h = reads_skim (run_reads m s at e) r y h

-- what a table ended in is found again by looking through the numbers it kept
pub look_run : {A : Type 0} {a : A} {t : List Token} {next : ℕ} (d : A) (m : Syntax A) (s : List ℕ) (at : ℕ) (r y : List ℕ) → run m s at ≡ accepted a t next
    → Coherent m s at r (numbers t ++ y) → look d m r (numbers t ++ y) ≡ a
look_run d m s at r y e h = reads_look (run_reads m s at e) d r y h
