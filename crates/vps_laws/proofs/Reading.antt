-- Laws of reading, by induction over a reading that is accepted.
use Rattle.std.specs.Prelude.{ℕ, ◌*◌, ◌≤◌, ◌≡◌, List, ◌++◌, length}
use Rattle.std.proofs.Common.{arith, length-append}
use Rattle.bits.specs.FieldLaws.{agree_append}
use Rattle.vps_definition.specs.Syntax.{Syntax, Token, run, spans}
use Rattle.vps_definition.specs.Syntax.Outcome.{accepted}
use Rattle.vps_laws.specs.Inversion.{run_reads}
use Rattle.vps_laws.specs.Reading.{run_agree, Gapless, reads_gapless}

-- so no bytes behind it change it
pub run_append : {A : Type 0} {a : A} {t : List Token} {next : ℕ} (m : Syntax A) (s : List ℕ) (at : ℕ) → run m s at ≡ accepted a t next → next ≤ 8 * length s
    → (x : List ℕ) → run m (s ++ x) at ≡ accepted a t next
run_append {next} m s at e f x = run_agree m s at e (s ++ x) (agree_append s x next f) (omega (arith, length-append s x))

-- the bits taken are all bits from the place a reading starts at to the place it ends at
pub spans_gapless : {A : Type 0} {a : A} {t : List Token} {next : ℕ} (m : Syntax A) (s : List ℕ) (at : ℕ) → run m s at ≡ accepted a t next → Gapless at (spans m s at) next
spans_gapless m s at e = reads_gapless (run_reads m s at e)
