-- What was read can be written, where each late field stands in the record at the place it is looked for.
use Rattle.std.specs.Prelude.{ℕ, ◌+◌, ◌-◌, ◌≡◌, refl, List, [], ◌++◌, true, false, length, drop, replicate}
use Rattle.std.proofs.Common.{sym, ap, ◌∙◌, add-zero, arith, length-append}
use Rattle.std.proofs.Math.Path.{subst⁻¹}
use Rattle.std.proofs.lemmas.List.{length-replicate}
use Rattle.bits.specs.Bits.{field_at, bits_of, to_boundary}
use Rattle.bits.specs.Code.{code_at, code_of}
use Rattle.bits.specs.Code as Code
use Rattle.bits.specs.FieldLaws.{field_lt, bits_length}
use Rattle.bits.specs.CodeLaws.{Whole, code_whole}
use Rattle.vps_definition.specs.Syntax.{Syntax, ◌>>=◌, Token, numbers, emit, skim, look}
use Rattle.vps_definition.specs.Syntax.Syntax.{field, code, late, keep, mark, align, test, refuse, done}
use Rattle.vps_definition.specs.Syntax.Written.{wrote}
use Rattle.vps_laws.specs.Inversion.{Reads, Writes, emit_writes, write_late_as}
use Rattle.vps_laws.specs.Inversion.Reads.{read_field, read_code, read_late, read_keep, read_mark, pass_align, read_align, read_first, read_second, read_done}
use Rattle.vps_laws.specs.Inversion.Writes.{write_field, write_code, write_late, write_keep, write_mark, write_align, write_first, write_second, write_done}

-- along a reading, `find` gives each late field its value: r is the whole record, x its rest from here on
unfoldable pub Coherent : {A : Type 0} → Syntax A → List ℕ → ℕ → List ℕ → List ℕ → Type 0
Coherent (field w plus k) s at r x = Coherent (k (field_at s at w + plus)) s (at + w) r (drop 1 x)
Coherent (code plus k) s at r x =
    elim (code_at s at) [
      | Code.Taken.taken v next ↦ Coherent (k (v + plus)) s next r (drop 1 x)
      | Code.Taken.refused n ↦ Unit {0}
    ]
Coherent (late w find k) s at r x = (find r x ≡ field_at s at w) × Coherent (k (field_at s at w)) s (at + w) r x
Coherent (keep v m) s at r x = Coherent m s at r (drop 1 x)
Coherent (mark m) s at r x = Coherent m s at r x
Coherent (align n m) s at r x = Coherent m s (at + to_boundary at) r x
Coherent (test true m n) s at r x = Coherent m s at r x
Coherent (test false m n) s at r x = Coherent n s at r x
Coherent (refuse n) s at r x = Unit {0}
Coherent (done a) s at r x = Unit {0}

-- ── What was read is written ──────────────────────────────────────────
-- bits that write the numbers kept, with y behind them in the record, from a place up to another
pub record Rewrites {A : Type 0} (m : Syntax A) (at : ℕ) (a : A) (t : List Token) (next : ℕ) (r y : List ℕ) : Type 0 where
  pub bits : List ℕ
  pub writes : Writes m r (numbers t ++ y) at a t y bits
  pub reaches : at + length bits ≡ next

-- one step, which writes c, and then what follows it
step : {A : Type 0} {m n : Syntax A} {at behind : ℕ} {a : A} {t u : List Token} {next : ℕ} {r y : List ℕ} (c : List ℕ)
    → ((b : List ℕ) → Writes n r (numbers u ++ y) behind a u y b → Writes m r (numbers t ++ y) at a t y (c ++ b)) → at + length c ≡ behind
    → Rewrites n behind a u next r y → Rewrites m at a t next r y
step c k e I = record { bits = c ++ I.bits; writes = k I.bits I.writes; reaches = omega (arith, length-append c I.bits, I.reaches) }

pub reads_writes : {A : Type 0} {m : Syntax A} {s : List ℕ} {at : ℕ} {a : A} {t : List Token} {next : ℕ} → Reads m s at a t next
    → (r y : List ℕ) → Coherent m s at r (numbers t ++ y) → Rewrites m at a t next r y
unfolding Coherent numbers
reads_writes (read_field {w} {plus} {s} {at} R) r y h =
    let v : ℕ = field_at s at w + plus in
    let l = field_lt s at w in
    step (bits_of w (v - plus)) (λ b W. write_field {v = v} (omega arith) (omega arith) W) (ap (λ (n : ℕ). at + n) (bits_length w (v - plus))) (reads_writes R r y h)
reads_writes (read_code {plus} {k} {s} {at} {v} {behind} {a} {t} {next} e R) r y h =
    let W : Whole s at v behind = code_whole s at v behind e in
    let z : v + plus - plus ≡ v = omega arith in
    let p : at + length (code_of (v + plus - plus)) ≡ behind = ap (λ (n : ℕ). at + length (code_of n)) z ∙ sym W.behind in
    step (code_of (v + plus - plus))
    (λ b I. write_code {v = v + plus} (omega arith) (omega (arith, W.small)) (subst⁻¹ (λ (n : ℕ). Writes (k (v + plus)) r (numbers t ++ y) n a t y b) p I)) p
    (reads_writes R r y (rw (e, Coherent) at h))
reads_writes (read_late {w} {s} {at} R) r y h =
    let v : ℕ = field_at s at w in
    step (bits_of w v) (λ b W. write_late_as h.0 (field_lt s at w) W) (ap (λ (n : ℕ). at + n) (bits_length w v)) (reads_writes R r y h.1)
reads_writes (read_keep {at} R) r y h = step [] (λ b W. write_keep W) (add-zero at) (reads_writes R r y h)
reads_writes (read_mark {at} R) r y h = step [] (λ b W. write_mark W) (add-zero at) (reads_writes R r y h)
reads_writes (pass_align {at} R) r y h =
    step (replicate (to_boundary at) 0) (λ b W. write_align W) (ap (λ (n : ℕ). at + n) (length-replicate (to_boundary at) 0)) (reads_writes R r y h)
reads_writes (read_align {at} z R) r y h =
    step (replicate (to_boundary at) 0) (λ b W. write_align W) (ap (λ (n : ℕ). at + n) (length-replicate (to_boundary at) 0)) (reads_writes R r y h)
reads_writes (read_first {at} R) r y h = step [] (λ b W. write_first W) (add-zero at) (reads_writes R r y h)
reads_writes (read_second {at} R) r y h = step [] (λ b W. write_second W) (add-zero at) (reads_writes R r y h)
reads_writes (read_done {at}) r y h = record { bits = []; writes = write_done; reaches = add-zero at }

pub record Emits {A : Type 0} (m : Syntax A) (at : ℕ) (a : A) (t : List Token) (next : ℕ) (r y : List ℕ) : Type 0 where
  pub bits : List ℕ
  pub emits : emit m r (numbers t ++ y) at ≡ wrote a t y bits
  pub reaches : at + length bits ≡ next

-- ── Two tables in a row ───────────────────────────────────────────────
pub reads_coherent : {A B : Type 0} {m : Syntax A} {s : List ℕ} {at : ℕ} {a : A} {t : List Token} {next : ℕ} → Reads m s at a t next → (f : A → Syntax B) (r y : List ℕ)
    → Coherent m s at r (numbers t ++ y) → Coherent (f a) s next r y → Coherent (m >>= f) s at r (numbers t ++ y)
unfolding Coherent numbers ◌>>=◌
reads_coherent (read_field R) f r y h g = reads_coherent R f r y h g
reads_coherent (read_code e R) f r y h g = rw (e, Coherent) (reads_coherent R f r y (rw (e, Coherent) at h) g)
reads_coherent (read_late R) f r y h g = (h.0, reads_coherent R f r y h.1 g)
reads_coherent (read_keep R) f r y h g = reads_coherent R f r y h g
reads_coherent (read_mark R) f r y h g = reads_coherent R f r y h g
reads_coherent (pass_align R) f r y h g = reads_coherent R f r y h g
reads_coherent (read_align z R) f r y h g = reads_coherent R f r y h g
reads_coherent (read_first R) f r y h g = reads_coherent R f r y h g
reads_coherent (read_second R) f r y h g = reads_coherent R f r y h g
reads_coherent read_done f r y h g = g

-- ── Looking past a table ──────────────────────────────────────────────
pub reads_skim : {A : Type 0} {m : Syntax A} {s : List ℕ} {at : ℕ} {a : A} {t : List Token} {next : ℕ} → Reads m s at a t next → (r y : List ℕ)
    → Coherent m s at r (numbers t ++ y) → skim m r (numbers t ++ y) ≡ y
unfolding Coherent numbers skim
reads_skim (read_field R) r y h = reads_skim R r y h
reads_skim (read_code e R) r y h = reads_skim R r y (rw (e, Coherent) at h)
reads_skim (read_late {k} {t} R) r y h = ap (λ (v : ℕ). skim (k v) r (numbers t ++ y)) h.0 ∙ reads_skim R r y h.1
reads_skim (read_keep R) r y h = reads_skim R r y h
reads_skim (read_mark R) r y h = reads_skim R r y h
reads_skim (pass_align R) r y h = reads_skim R r y h
reads_skim (read_align z R) r y h = reads_skim R r y h
reads_skim (read_first R) r y h = reads_skim R r y h
reads_skim (read_second R) r y h = reads_skim R r y h
reads_skim read_done r y h = refl

pub reads_look : {A : Type 0} {m : Syntax A} {s : List ℕ} {at : ℕ} {a : A} {t : List Token} {next : ℕ} → Reads m s at a t next → (d : A) (r y : List ℕ)
    → Coherent m s at r (numbers t ++ y) → look d m r (numbers t ++ y) ≡ a
unfolding Coherent numbers look
reads_look (read_field R) d r y h = reads_look R d r y h
reads_look (read_code e R) d r y h = reads_look R d r y (rw (e, Coherent) at h)
reads_look (read_late {k} {t} R) d r y h = ap (λ (v : ℕ). look d (k v) r (numbers t ++ y)) h.0 ∙ reads_look R d r y h.1
reads_look (read_keep R) d r y h = reads_look R d r y h
reads_look (read_mark R) d r y h = reads_look R d r y h
reads_look (pass_align R) d r y h = reads_look R d r y h
reads_look (read_align z R) d r y h = reads_look R d r y h
reads_look (read_first R) d r y h = reads_look R d r y h
reads_look (read_second R) d r y h = reads_look R d r y h
reads_look read_done d r y h = refl

-- ── Looking through a record that is written ──────────────────────────
writes_look : {A : Type 0} {m : Syntax A} {r x : List ℕ} {at : ℕ} {a : A} {t : List Token} {y b : List ℕ} → Writes m r x at a t y b → (d : A) → (look d m r x ≡ a) × (skim m r x ≡ y)
unfolding look skim
writes_look (write_field l h W) d = writes_look W d
writes_look (write_code l h W) d = writes_look W d
writes_look (write_late h W) d = writes_look W d
writes_look (write_keep W) d = writes_look W d
writes_look (write_mark W) d = writes_look W d
writes_look (write_align W) d = writes_look W d
writes_look (write_first W) d = writes_look W d
writes_look (write_second W) d = writes_look W d
writes_look write_done d = (refl, refl)

-- what the writer's table ends in is what looking finds
pub look_emit : {A : Type 0} {a : A} {t : List Token} {y b : List ℕ} (d : A) (m : Syntax A) (r x : List ℕ) (at : ℕ) → emit m r x at ≡ wrote a t y b → (look d m r x ≡ a) × (skim m r x ≡ y)
look_emit d m r x at e = writes_look (emit_writes m r x at e) d
