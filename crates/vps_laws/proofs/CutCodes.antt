-- Codes that the end cuts: a reading beside that of the rule of before.
use Rattle.std.specs.Prelude.{ℕ, zero, suc, ◌+◌, ◌*◌, ◌-◌, ◌^◌, ◌≤◌, ◌<◌, ◌≡◌, refl, List, [], Bool, true, false, cond, ltb, leb, eqb, length, get_or}
use Rattle.std.proofs.Common.{arith, ltb-false, leb-true, le-ltb}
use Rattle.std.proofs.lemmas.Bool.{leb-false}
use Rattle.std.proofs.Math.Path.{subst⁻¹}
use Rattle.refusals.specs.Answer.{Answer}
use Rattle.refusals.specs.Answer.Answer.{refusal}
use Rattle.refusals.specs.Number.{unit_too_short, rbsp_too_long, sublayers_reserved, code_too_long, timing_index, stop_bit_missing, alignment_bit_one, code_past_end}
use Rattle.bits.specs.Bits.{field_at, to_boundary}
use Rattle.bits.specs.Code.{Taken, zeros_at, code_behind, code_at}
use Rattle.bits.specs.Code as Code
use Rattle.bits.specs.Reading.{trailing_at}
use Rattle.vps_definition.specs.Rules.{Rules}
use Rattle.vps_definition.specs.Syntax.{Syntax, Token, Outcome, keeping, run}
use Rattle.vps_definition.specs.Syntax.Syntax.{field, code, late, keep, mark, align, test, refuse, done}
use Rattle.vps_definition.specs.Syntax.Token.{number, section}
use Rattle.vps_definition.specs.Syntax.Outcome.{accepted, refused}
use Rattle.vps_definition.specs.Vps.{vps_under}
use Rattle.vps_definition.specs.Record.{record_of}
use Rattle.vps_definition.specs.Reading.{Reading, bits_at, extension_bits, ended, closed, read_rbsp_under, read_unit_under}
use Rattle.vps_definition.specs.Reading.Reading.{refuses}
use Rattle.vps_laws.specs.Codes.{run_with, read_rbsp_with}
use Rattle.vps_laws.specs.Compared.{unit_both}
use Rattle.vps_laws.specs.CutCodes.{code_behind_before, code_at_before, unit_with_cut_codes}
use Rattle.vps_laws.specs.Says.{Among, TableSaid, TakenSays, ReadingSays, unit_says}
use Rattle.vps_laws.proofs.Says.{with_says}

-- ── A code ────────────────────────────────────────────────────────────
-- a code beside that of before: the same, or cut, and then its end lay at the end of the bytes or past it
data CodeMoved (s : List ℕ) : (now before : Taken) → Type 0 where
  code_same : (c : Taken) → CodeMoved s c c
  code_cut : {v next : ℕ} → 8 * length s ≤ next → CodeMoved s (Code.Taken.refused code_past_end) (Code.Taken.taken v next)

code_moved : (s : List ℕ) (at : ℕ) → CodeMoved s (code_at s at) (code_at_before s at)
unfolding code_at code_behind code_at_before code_behind_before
code_moved s at = go (ltb k 32) (leb (at + k + 1 + k) (8 * length s)) refl (ltb (at + k) (8 * length s)) refl
  where
    k : ℕ
    k = zeros_at s at 32

    x : Taken
    x = Code.Taken.taken (2 ^ k - 1 + field_at s (at + k + 1) k) (at + k + 1 + k)

    go : (a b : Bool) → leb (at + k + 1 + k) (8 * length s) ≡ b → (c : Bool) → ltb (at + k) (8 * length s) ≡ c
        → CodeMoved s (cond a (cond b x (Code.Taken.refused code_past_end)) (Code.Taken.refused code_too_long)) (cond a (cond c x (Code.Taken.taken (2 ^ k - 1) (at + k + k))) (Code.Taken.refused code_too_long))
    go false b f c g = code_same _
    go true true f true g = code_same _
    go true true f false g = absurd (omega (arith, leb-true (at + k + 1 + k) (8 * length s) f, ltb-false (at + k) (8 * length s) g))
    go true false f true g = code_cut {next = at + k + 1 + k} (omega (arith, leb-false (at + k + 1 + k) (8 * length s) f))
    go true false f false g = code_cut {next = at + k + k} (omega (arith, ltb-false (at + k) (8 * length s) g))

-- the place never fell
before_grows : (s : List ℕ) (at v next : ℕ) → code_at_before s at ≡ Code.Taken.taken v next → at ≤ next
unfolding code_at_before code_behind_before
before_grows s at v next e = go (ltb k 32) (ltb (at + k) (8 * length s)) e
  where
    k : ℕ
    k = zeros_at s at 32

    go : (a b : Bool) → cond a (cond b (Code.Taken.taken (2 ^ k - 1 + field_at s (at + k + 1) k) (at + k + 1 + k)) (Code.Taken.taken (2 ^ k - 1) (at + k + k))) (Code.Taken.refused code_too_long) ≡ Code.Taken.taken v next → at ≤ next
    go true true h = let y : at + k + 1 + k ≡ next = cc in omega arith
    go true false h = let y : at + k + k ≡ next = cc in omega arith
    go false b h = absurd (let n : ◌≡◌ {A = ℕ} 0 1 = cc in omega arith)

-- ── A table ───────────────────────────────────────────────────────────
-- refused, or accepted with nothing left
abbrev NothingLeft : {A : Type 0} → List ℕ → Outcome A → Type 0
NothingLeft s (accepted a t next) = 8 * length s ≤ next
NothingLeft s (refused n t) = Unit {0}

left_keeping : {A : Type 0} (s : List ℕ) (u : Token) (R : Outcome A) → NothingLeft s R → NothingLeft s (keeping u R)
unfolding keeping
left_keeping s u (accepted a t next) h = h
left_keeping s u (refused n t) h = tt

-- past the end there is nothing left
past_end : {A : Type 0} (m : Syntax A) (s : List ℕ) (at : ℕ) → 8 * length s ≤ at → NothingLeft s (run_with code_at_before m s at)
unfolding run_with
past_end (field w plus k) s at h = let v : ℕ = field_at s at w + plus in left_keeping s (number v) (run_with code_at_before (k v) s (at + w)) (past_end (k v) s (at + w) (omega arith))
past_end {A} (code plus k) s at h = go (λ v next. past_end (k v) s next) (code_at_before s at) refl
  where
    go : ((v next : ℕ) → 8 * length s ≤ next → NothingLeft s (run_with code_at_before (k v) s next)) → (c : Taken) → code_at_before s at ≡ c
        → NothingLeft {A = A} s (elim c as (λ d. Outcome A) [ Code.Taken.taken v next ↦ keeping (number (v + plus)) (run_with code_at_before (k (v + plus)) s next) | Code.Taken.refused n ↦ refused n [] ])
    go f (Code.Taken.taken v next) e = left_keeping s (number (v + plus)) (run_with code_at_before (k (v + plus)) s next) (f (v + plus) next (omega (arith, h, before_grows s at v next e)))
    go f (Code.Taken.refused n) e = tt
past_end (late w find k) s at h = past_end (k (field_at s at w)) s (at + w) (omega arith)
past_end (keep v m) s at h = left_keeping s (number v) (run_with code_at_before m s at) (past_end m s at h)
past_end (mark m) s at h = left_keeping s section (run_with code_at_before m s at) (past_end m s at h)
past_end (align zero m) s at h = past_end m s (at + to_boundary at) (omega arith)
past_end {A} (align (suc n) m) s at h = go (run_with code_at_before m s (at + to_boundary at)) (past_end m s (at + to_boundary at) (omega arith)) (eqb (field_at s at (to_boundary at)) 0)
  where
    go : (R : Outcome A) → NothingLeft s R → (c : Bool) → NothingLeft {A = A} s (elim c as (λ d. Outcome A) [ true ↦ R | false ↦ refused (suc n) [] ])
    go R f true = f
    go R f false = tt
past_end (test true m n) s at h = past_end m s at h
past_end (test false m n) s at h = past_end n s at h
past_end (refuse n) s at h = tt
past_end (done a) s at h = h

-- a reading beside that of before: the same, or a cut code is refused, and then the one before was refused too or left nothing
data Moved {A : Type 0} (s : List ℕ) : (now before : Outcome A) → Type 0 where
  same : {R : Outcome A} → Moved s R R
  cut : {l : List Token} {R : Outcome A} → NothingLeft s R → Moved s (refused code_past_end l) R

moved_keeping : {A : Type 0} {s : List ℕ} {R S : Outcome A} (u : Token) → Moved s R S → Moved s (keeping u R) (keeping u S)
unfolding keeping
moved_keeping u same = same
moved_keeping {s} u (cut {R} h) = cut (left_keeping s u R h)

moved : {A : Type 0} (m : Syntax A) (s : List ℕ) (at : ℕ) → Moved s (run m s at) (run_with code_at_before m s at)
unfolding run run_with
moved (field w plus k) s at = moved_keeping (number (field_at s at w + plus)) (moved (k (field_at s at w + plus)) s (at + w))
moved {A} (code plus k) s at = go (λ v next. moved (k v) s next) (code_moved s at)
  where
    go : ((v next : ℕ) → Moved s (run (k v) s next) (run_with code_at_before (k v) s next)) → {c d : Taken} → CodeMoved s c d
        → Moved {A = A} s (elim c as (λ e. Outcome A) [ Code.Taken.taken v next ↦ keeping (number (v + plus)) (run (k (v + plus)) s next) | Code.Taken.refused n ↦ refused n [] ])
        (elim d as (λ e. Outcome A) [ Code.Taken.taken v next ↦ keeping (number (v + plus)) (run_with code_at_before (k (v + plus)) s next) | Code.Taken.refused n ↦ refused n [] ])
    go f (code_same (Code.Taken.taken v next)) = moved_keeping (number (v + plus)) (f (v + plus) next)
    go f (code_same (Code.Taken.refused n)) = same
    go f (code_cut {v} {next} h) = cut (left_keeping s (number (v + plus)) (run_with code_at_before (k (v + plus)) s next) (past_end (k (v + plus)) s next h))
moved (late w find k) s at = moved (k (field_at s at w)) s (at + w)
moved (keep v m) s at = moved_keeping (number v) (moved m s at)
moved (mark m) s at = moved_keeping section (moved m s at)
moved (align zero m) s at = moved m s (at + to_boundary at)
moved {A} (align (suc n) m) s at = go (moved m s (at + to_boundary at)) (eqb (field_at s at (to_boundary at)) 0)
  where
    go : {R S : Outcome A} → Moved s R S → (c : Bool) → Moved {A = A} s (elim c as (λ d. Outcome A) [ true ↦ R | false ↦ refused (suc n) [] ]) (elim c as (λ d. Outcome A) [ true ↦ S | false ↦ refused (suc n) [] ])
    go h true = h
    go h false = same
moved (test true m n) s at = moved m s at
moved (test false m n) s at = moved n s at
moved (refuse n) s at = same
moved (done a) s at = same

-- ── A unit ────────────────────────────────────────────────────────────
-- the answer beside that of before: the same, or 35 for a refusal
pub data AnswerMoved : (now before : Reading) → Type 0 where
  answer_same : {R : Reading} → AnswerMoved R R
  answer_cut : {n : ℕ} → AnswerMoved (refuses code_past_end) (refuses n)

-- where nothing is left there are no trailing bits
no_trailing : (s : List ℕ) (at : ℕ) → 8 * length s ≤ at → trailing_at s at ≡ refusal stop_bit_missing
unfolding trailing_at
no_trailing s at h = rw (le-ltb at (8 * length s) h) refl

closed_moved : (s : List ℕ) {R S : Outcome (List ℕ)} → Moved s R S → AnswerMoved (closed s R) (closed s S)
unfolding closed ended
closed_moved s same = answer_same
closed_moved s (cut {R} h) = go R h
  where
    go : (R : Outcome (List ℕ)) → NothingLeft s R → AnswerMoved (refuses code_past_end) (closed s R)
    go (accepted general t at) h =
        let e : trailing_at s (at + extension_bits (get_or general 8 0) s at) ≡ refusal stop_bit_missing = no_trailing s _ (omega arith) in
        subst⁻¹ (λ (A : Answer ℕ). AnswerMoved (refuses code_past_end) (ended (record_of general t (bits_at s at (extension_bits (get_or general 8 0) s at))) A)) e answer_cut
    go (refused n t) h = answer_cut

pub answer_moved : (rules : Rules) (u : List ℕ) → AnswerMoved (read_unit_under rules u) (unit_with_cut_codes rules u)
unfolding read_rbsp_under read_rbsp_with
answer_moved rules u = unit_both (λ s now before. AnswerMoved now before) (λ s R. answer_same) (read_rbsp_under rules) (read_rbsp_with code_at_before rules) (λ s. closed_moved s (moved (vps_under rules) s 0)) u

-- ── 35 was no answer ──────────────────────────────────────────────────
abbrev pub Another : ℕ → Type 0
Another k = k ≡ code_past_end → ⊥

others : (first last : ℕ) → last < code_past_end → Among Another first last
others first last l = record { each = λ k e f. record { is = λ q. omega (arith, q, l, leb-true k last f) } }

code_other : (s : List ℕ) (at : ℕ) → TakenSays Another (code_at_before s at)
unfolding code_at_before code_behind_before
code_other s at = go (ltb (zeros_at s at 32) 32) _ (either (ltb (at + zeros_at s at 32) (8 * length s)) _ _ tt tt)
  where
    either : (b : Bool) (x y : Taken) → TakenSays Another x → TakenSays Another y → TakenSays Another (cond b x y)
    either true x y h g = h
    either false x y h g = g

    go : (b : Bool) (x : Taken) → TakenSays Another x → TakenSays Another (cond b x (Code.Taken.refused code_too_long))
    go b x h = either b x (Code.Taken.refused code_too_long) h (record { is = λ q. omega (arith, q) })

table_others : (rules : Rules) → TableSaid Another rules
table_others rules = record { table = others sublayers_reserved timing_index (omega arith); id = λ e. record { is = λ q. omega (arith, q) } }

pub unit_other : (rules : Rules) (u : List ℕ) → ReadingSays Another (unit_with_cut_codes rules u)
unit_other rules =
    unit_says Another (read_rbsp_with code_at_before rules) (others unit_too_short rbsp_too_long (omega arith))
    (with_says Another code_at_before code_other rules (table_others rules) (others stop_bit_missing alignment_bit_one (omega arith)))
