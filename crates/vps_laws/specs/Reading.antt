-- Laws of reading, by induction over a reading that is accepted.
use Rattle.std.specs.Prelude.{ℕ, ◌+◌, ◌*◌, ◌≤◌, ◌≡◌, refl, List, [], ◌∷◌, ◌++◌, length}
use Rattle.std.proofs.Common.{sym, ap, ◌∙◌, arith}
use Rattle.std.proofs.Math.Path.{subst⁻¹}
use Rattle.bits.specs.Bits.{to_boundary}
use Rattle.bits.specs.Code.{code_at, code_of}
use Rattle.bits.specs.Code.Taken.{taken}
use Rattle.bits.specs.FieldLaws.{Agree, field_agree, bits_agree}
use Rattle.bits.specs.CodeLaws.{Whole, code_whole, code_near}
use Rattle.bits.proofs.CodeLaws.{code_bits}
use Rattle.vps_definition.specs.Syntax.{Syntax, Token, run, Span, spans}
use Rattle.vps_definition.specs.Syntax.Outcome.{accepted}
use Rattle.vps_laws.specs.Inversion.{Reads, run_reads, reads_run, read_field_as, read_late_as}
use Rattle.vps_laws.specs.Inversion.Reads.{read_field, read_code, read_late, read_keep, read_mark, pass_align, read_align, read_first, read_second, read_done}

-- ── The place never falls ─────────────────────────────────────────────
pub reads_grows : {A : Type 0} {m : Syntax A} {s : List ℕ} {at : ℕ} {a : A} {t : List Token} {next : ℕ} → Reads m s at a t next → at ≤ next
reads_grows (read_field R) = omega (arith, reads_grows R)
reads_grows (read_code {s} {at} {v} {behind} e R) = omega (arith, reads_grows R, code_near s at v behind e)
reads_grows (read_late R) = omega (arith, reads_grows R)
reads_grows (read_keep R) = reads_grows R
reads_grows (read_mark R) = reads_grows R
reads_grows (pass_align R) = omega (arith, reads_grows R)
reads_grows (read_align z R) = omega (arith, reads_grows R)
reads_grows (read_first R) = reads_grows R
reads_grows (read_second R) = reads_grows R
reads_grows read_done = omega arith

pub run_grows : {A : Type 0} {a : A} {t : List Token} {next : ℕ} (m : Syntax A) (s : List ℕ) (at : ℕ) → run m s at ≡ accepted a t next → at ≤ next
run_grows m s at e = reads_grows (run_reads m s at e)

-- ── Only the bits before its end count ────────────────────────────────
reads_agree : {A : Type 0} {m : Syntax A} {s : List ℕ} {at : ℕ} {a : A} {t : List Token} {next : ℕ} → Reads m s at a t next
    → (s' : List ℕ) → Agree s s' next → next ≤ 8 * length s' → Reads m s' at a t next
reads_agree (read_field {w} {plus} {s} {at} {next} R) s' h g =
    read_field_as (ap (λ (n : ℕ). n + plus) (sym (field_agree s s' at w next h (reads_grows R)))) (reads_agree R s' h g)
reads_agree (read_code {s} {at} {v} {behind} {next} e R) s' h g =
    let l = reads_grows R in
    let W : Whole s at v behind = code_whole s at v behind e in
    let b = W.behind in
    let i : code_at s' at ≡ taken v (at + length (code_of v)) = code_bits s' at v W.small (omega arith) (bits_agree s s' at next (code_of v) h (omega arith) W.stands) in
    read_code (i ∙ ap (taken v) (sym b)) (reads_agree R s' h g)
reads_agree (read_late {w} {s} {at} {next} R) s' h g = read_late_as (sym (field_agree s s' at w next h (reads_grows R))) (reads_agree R s' h g)
reads_agree (read_keep R) s' h g = read_keep (reads_agree R s' h g)
reads_agree (read_mark R) s' h g = read_mark (reads_agree R s' h g)
reads_agree (pass_align R) s' h g = pass_align (reads_agree R s' h g)
reads_agree (read_align {s} {at} {next} z R) s' h g = read_align (sym (field_agree s s' at (to_boundary at) next h (reads_grows R)) ∙ z) (reads_agree R s' h g)
reads_agree (read_first R) s' h g = read_first (reads_agree R s' h g)
reads_agree (read_second R) s' h g = read_second (reads_agree R s' h g)
reads_agree read_done s' h g = read_done

-- a reading goes by the bits before its end alone
pub run_agree : {A : Type 0} {a : A} {t : List Token} {next : ℕ} (m : Syntax A) (s : List ℕ) (at : ℕ) → run m s at ≡ accepted a t next
    → (s' : List ℕ) → Agree s s' next → next ≤ 8 * length s' → run m s' at ≡ accepted a t next
run_agree m s at e s' h g = reads_run (reads_agree (run_reads m s at e) s' h g)

-- ── The bits taken ────────────────────────────────────────────────────
-- of each element of a list
abbrev pub Each : {A : Type 0} → (A → Type 0) → List A → Type 0
Each P [] = Unit {0}
Each P (x ∷ l) = P x × Each P l

pub each_join : {A : Type 0} (P : A → Type 0) (x y : List A) → Each P x → Each P y → Each P (x ++ y)
each_join P [] y h g = g
each_join P (a ∷ x) y h g = (h.0, each_join P x y h.1 g)

-- a span from a place on and up to another
abbrev pub Within : ℕ → ℕ → Span → Type 0
Within at next p = (at ≤ p.from) × (p.from ≤ p.to) × (p.to ≤ next)

-- spans one behind the other, from a place up to another
abbrev pub Gapless : ℕ → List Span → ℕ → Type 0
Gapless at [] next = at ≡ next
Gapless at (p ∷ l) next = (p.from ≡ at) × ((at ≤ p.to) × Gapless p.to l next)

pub reads_gapless : {A : Type 0} {m : Syntax A} {s : List ℕ} {at : ℕ} {a : A} {t : List Token} {next : ℕ} → Reads m s at a t next → Gapless at (spans m s at) next
unfolding spans
reads_gapless (read_field R) = (refl, (omega arith, reads_gapless R))
reads_gapless (read_code {s} {at} {v} {behind} e R) = let n = code_near s at v behind e in rw (e, spans) (refl, (omega arith, reads_gapless R))
reads_gapless (read_late R) = (refl, (omega arith, reads_gapless R))
reads_gapless (read_keep R) = reads_gapless R
reads_gapless (read_mark R) = reads_gapless R
reads_gapless (pass_align R) = (refl, (omega arith, reads_gapless R))
reads_gapless (read_align z R) = (refl, (omega arith, reads_gapless R))
reads_gapless (read_first R) = reads_gapless R
reads_gapless (read_second R) = reads_gapless R
reads_gapless read_done = refl

pub gapless_join : (at middle next : ℕ) (x y : List Span) → Gapless at x middle → Gapless middle y next → Gapless at (x ++ y) next
gapless_join at middle next [] y e g = subst⁻¹ (λ (k : ℕ). Gapless k y next) e g
gapless_join at middle next (p ∷ x) y h g = (h.0, (h.1.0, gapless_join p.to middle next x y h.1.1 g))

gapless_grows : (at next : ℕ) (l : List Span) → Gapless at l next → at ≤ next
gapless_grows at next [] e = omega (arith, e)
gapless_grows at next (p ∷ l) h = omega (arith, h.1.0, gapless_grows p.to next l h.1.1)

-- so none is taken before the one or past the other
pub gapless_inside : (least at next : ℕ) (l : List Span) → least ≤ at → Gapless at l next → Each (Within least next) l
gapless_inside least at next [] k h = tt
gapless_inside least at next (p ∷ l) k h =
    let e = h.0 in
    let f = h.1.0 in
    ((omega (arith, e, k), omega (arith, e, f), gapless_grows p.to next l h.1.1), gapless_inside least p.to next l (omega (arith, f, k)) h.1.1)
