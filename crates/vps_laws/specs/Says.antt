-- Which numbers a reading can be refused with, whatever the bytes are: those that stand in the table, those of the codes, and those of
-- the end.
use Prim.Native.Nat.{ℕ, zero, suc, ◌+◌, ◌*◌, ◌/◌}
use Rattle.std.specs.Prelude.{◌≡◌, refl, Bool, cond, ltb, leb, eqb, length}
use mathlib.Core.List.{List, [], ◌∷◌}
use Rattle.std.proofs.Math.Bool.{true, false}
use Rattle.std.proofs.Common.{arith, leb-true, le-leb}
use Rattle.refusals.specs.Answer.{Answer}
use Rattle.refusals.specs.Answer.Answer.{success, refusal}
use Rattle.refusals.specs.Number.{unit_too_short, rbsp_too_long, sublayers_reserved, ptl_alignment, code_too_long, timing_index, stop_bit_missing, alignment_bit_one, id_zero, code_past_end}
use Rattle.stuffing.specs.Stuffing.{unstuff}
use Rattle.bits.specs.Bits.{bit_at, field_at, to_boundary}
use Rattle.bits.specs.Code.{Taken, zeros_at, code_behind, code_at}
use Rattle.bits.specs.Code as Code
use Rattle.bits.specs.Reading.{trailing_at}
use Rattle.vps_definition.specs.Rules.{Rules}
use Rattle.vps_definition.specs.Syntax.{Syntax, ◌>>=◌, Token, Outcome, keeping}
use Rattle.vps_definition.specs.Syntax.Syntax.{field, code, late, keep, mark, align, test, refuse, done}
use Rattle.vps_definition.specs.Syntax.Outcome.{accepted, refused}
use Rattle.vps_definition.specs.Words.{u, u_minus1, ue, ue_minus1, inferred, u_if, ue_if, general, general_if, check, ruled, nothing, when, aligned, keeps, loop, repeat}
use Rattle.vps_definition.specs.ProfileTierLevel.{falling, ahead}
use Rattle.vps_definition.specs.Reading.{Reading, most_rbsp_bytes, limited_by, vps_nut, unit_by}
use Rattle.vps_definition.specs.Reading.Reading.{accepts, refuses}

-- ── A set of numbers ──────────────────────────────────────────────────
-- k is one of those that are meant
pub record Said (ok : ℕ → Type 0) (k : ℕ) : Type 0 where
  pub is : ok k

-- and so is each from the first to the last
pub record Among (ok : ℕ → Type 0) (first last : ℕ) : Type 0 where
  pub each : (k : ℕ) → leb first k ≡ true → leb k last ≡ true → Said ok k

pub among_part : {ok : ℕ → Type 0} {a b : ℕ} → Among ok a b → (c d : ℕ) → leb a c ≡ true → leb d b ≡ true → Among ok c d
among_part {ok} {a} {b} S c d e f = record {
  each = λ k g h. S.each k (le-leb a k (omega (arith, leb-true a c e, leb-true c k g))) (le-leb k b (omega (arith, leb-true k d h, leb-true d b f)));
}

-- ── The numbers that stand in a table ─────────────────────────────────
unfoldable pub Refusals : {A : Type 0} → (ℕ → Type 0) → Syntax A → Type 0
Refusals ok (field w plus k) = (v : ℕ) → Refusals ok (k v)
Refusals ok (code plus k) = (v : ℕ) → Refusals ok (k v)
Refusals ok (late w find k) = (v : ℕ) → Refusals ok (k v)
Refusals ok (keep v m) = Refusals ok m
Refusals ok (mark m) = Refusals ok m
Refusals ok (align zero m) = Refusals ok m
Refusals ok (align (suc n) m) = Said ok (suc n) × Refusals ok m
Refusals ok (test b m n) = Refusals ok m × Refusals ok n
Refusals ok (refuse n) = Said ok n
Refusals ok (done a) = Unit {0}

-- a table of such numbers alone
pub record Says {A : Type 0} (ok : ℕ → Type 0) (m : Syntax A) : Type 0 where
  pub all : Refusals ok m

-- ── The steps of a table ──────────────────────────────────────────────
pub says_done : {ok : ℕ → Type 0} {A : Type 0} {a : A} → Says ok (done a)
unfolding Refusals
says_done = record { all = tt }

says_refuse : {ok : ℕ → Type 0} {A : Type 0} {k : ℕ} → Said ok k → Says {A = A} ok (refuse k)
unfolding Refusals
says_refuse e = record { all = e }

pub says_field : {ok : ℕ → Type 0} {A : Type 0} {w plus : ℕ} {k : ℕ → Syntax A} → ((v : ℕ) → Says ok (k v)) → Says ok (field w plus k)
unfolding Refusals
says_field K = record { all = λ v. (K v).all }

says_code : {ok : ℕ → Type 0} {A : Type 0} {plus : ℕ} {k : ℕ → Syntax A} → ((v : ℕ) → Says ok (k v)) → Says ok (code plus k)
unfolding Refusals
says_code K = record { all = λ v. (K v).all }

pub says_late : {ok : ℕ → Type 0} {A : Type 0} {w : ℕ} {find : List ℕ → List ℕ → ℕ} {k : ℕ → Syntax A} → ((v : ℕ) → Says ok (k v)) → Says ok (late w find k)
unfolding Refusals
says_late K = record { all = λ v. (K v).all }

pub says_keep : {ok : ℕ → Type 0} {A : Type 0} {v : ℕ} {m : Syntax A} → Says ok m → Says ok (keep v m)
unfolding Refusals
says_keep M = record { all = M.all }

pub says_mark : {ok : ℕ → Type 0} {A : Type 0} {m : Syntax A} → Says ok m → Says ok (mark m)
unfolding Refusals
says_mark M = record { all = M.all }

-- bits to the boundary that are not looked at; or a one among them is refused
says_passed : {ok : ℕ → Type 0} {A : Type 0} {m : Syntax A} → Says ok m → Says ok (align 0 m)
unfolding Refusals
says_passed M = record { all = M.all }

says_align : {ok : ℕ → Type 0} {A : Type 0} {k : ℕ} {m : Syntax A} → Said ok (suc k) → Says ok m → Says ok (align (suc k) m)
unfolding Refusals
says_align e M = record { all = (e, M.all) }

pub says_test : {ok : ℕ → Type 0} {A : Type 0} (b : Bool) {m n : Syntax A} → Says ok m → Says ok n → Says ok (test b m n)
unfolding Refusals
says_test b M N = record { all = (M.all, N.all) }

-- ── Tables in a row ───────────────────────────────────────────────────
pub says_bind : {ok : ℕ → Type 0} {A B : Type 0} {m : Syntax A} {f : A → Syntax B} → Says ok m → ((a : A) → Says ok (f a)) → Says ok (m >>= f)
unfolding Refusals ◌>>=◌
says_bind {ok} {A} {B} {m} {f} M F = record { all = go m M.all }
  where
    go : (m : Syntax A) → Refusals ok m → Refusals ok (m >>= f)
    go (field w plus k) h = λ v. go (k v) (h v)
    go (code plus k) h = λ v. go (k v) (h v)
    go (late w find k) h = λ v. go (k v) (h v)
    go (keep v m) h = go m h
    go (mark m) h = go m h
    go (align zero m) h = go m h
    go (align (suc n) m) h = (h.0, go m h.1)
    go (test b m n) h = (go m h.0, go n h.1)
    go (refuse n) h = h
    go (done a) h = (F a).all

pub says_loop : {ok : ℕ → Type 0} {A : Type 0} {f : ℕ → A → Syntax A} (n i : ℕ) (x : A) → ((i : ℕ) (x : A) → Says ok (f i x)) → Says ok (loop f n i x)
unfolding loop
says_loop zero i x F = says_done
says_loop (suc n) i x F = says_bind (F i x) (λ y. says_loop n (i + 1) y F)

-- ── The words of a table ──────────────────────────────────────────────
pub says_u : {ok : ℕ → Type 0} (w : ℕ) → Says ok (u w)
unfolding u
says_u w = says_field (λ v. says_done)

pub says_u_minus1 : {ok : ℕ → Type 0} (w : ℕ) → Says ok (u_minus1 w)
unfolding u_minus1
says_u_minus1 w = says_field (λ v. says_done)

pub says_ue : {ok : ℕ → Type 0} → Says ok ue
unfolding ue
says_ue = says_code (λ v. says_done)

pub says_ue_minus1 : {ok : ℕ → Type 0} → Says ok ue_minus1
unfolding ue_minus1
says_ue_minus1 = says_code (λ v. says_done)

pub says_inferred : {ok : ℕ → Type 0} (v : ℕ) → Says ok (inferred v)
unfolding inferred
says_inferred v = says_keep says_done

pub says_u_if : {ok : ℕ → Type 0} (b : Bool) (w v : ℕ) → Says ok (u_if b w v)
unfolding u_if
says_u_if b w v = says_test b (says_u w) (says_inferred v)

pub says_ue_if : {ok : ℕ → Type 0} (b : Bool) (v : ℕ) → Says ok (ue_if b v)
unfolding ue_if
says_ue_if b v = says_test b says_ue (says_inferred v)

pub says_general : {ok : ℕ → Type 0} (i w : ℕ) → Says ok (general i w)
unfolding general
says_general i w = says_late (λ v. says_done)

pub says_general_if : {ok : ℕ → Type 0} (b : Bool) (i w v : ℕ) → Says ok (general_if b i w v)
unfolding general_if
says_general_if b i w v = says_test b (says_general i w) says_done

pub says_check : {ok : ℕ → Type 0} (b : Bool) (k : ℕ) → Said ok k → Says ok (check b k)
unfolding check
says_check b k e = says_test b says_done (says_refuse e)

-- a rule's number is said where the rule is in force
pub says_ruled : {ok : ℕ → Type 0} {A : Type 0} (rule b : Bool) (k : ℕ) {m : Syntax A} → (rule ≡ true → Said ok k) → Says ok m → Says ok (ruled rule b k m)
unfolding ruled
says_ruled true b k e M = says_bind (says_check b k (e refl)) (λ c. M)
says_ruled false b k e M = M

pub says_nothing : {ok : ℕ → Type 0} → Says ok nothing
unfolding nothing
says_nothing = says_done

pub says_when : {ok : ℕ → Type 0} (flag : ℕ) {m : Syntax (Unit {0})} → Says ok m → Says ok (when flag m)
unfolding when
says_when flag M = says_test (eqb flag 0) says_nothing M

pub says_aligned : {ok : ℕ → Type 0} → Says ok (aligned 0)
unfolding aligned
says_aligned = says_passed says_nothing

pub says_keeps : {ok : ℕ → Type 0} (l : List ℕ) → Says ok (keeps l)
unfolding keeps
says_keeps [] = says_nothing
says_keeps (v ∷ l) = says_keep (says_keeps l)

pub says_repeat : {ok : ℕ → Type 0} (n : ℕ) {m : Syntax (Unit {0})} → Says ok m → Says ok (repeat n m)
unfolding repeat
says_repeat n M = says_loop n 0 tt (λ i x. M)

pub ruleset words = (
  says_bind,
  says_u,
  says_u_minus1,
  says_ue,
  says_ue_minus1,
  says_inferred,
  says_u_if,
  says_ue_if,
  says_general,
  says_general_if,
  says_check,
  says_nothing,
  says_when,
  says_aligned,
  says_keeps,
  says_repeat,
  says_loop,
  says_done,
  says_mark,
  says_keep,
  says_field,
  says_late,
  says_test,
)

-- ── Profile, tier, level ──────────────────────────────────────────────
pub says_falling : {ok : ℕ → Type 0} (n w : ℕ) → Says ok (falling n w)
unfolding falling
says_falling zero w = says_done
says_falling (suc n) w = says_late (λ v. says_bind (says_falling n w) (λ l. says_done))

pub says_ahead : {ok : ℕ → Type 0} (n i : ℕ) → Says ok (ahead n i)
unfolding ahead
says_ahead zero i = says_done
says_ahead (suc n) i = says_late (λ v. says_bind (says_ahead n (i + 1)) (λ l. says_done))

pub says_ptl_alignment : {ok : ℕ → Type 0} → Said ok ptl_alignment → Says ok (aligned ptl_alignment)
unfolding aligned
says_ptl_alignment e = says_align e says_nothing

-- ── The whole ─────────────────────────────────────────────────────────
-- the numbers of the table, and those of the rules in force
pub record TableSaid (ok : ℕ → Type 0) (rules : Rules) : Type 0 where
  pub table : Among ok sublayers_reserved timing_index
  pub id : rules.id_zero_refused ≡ true → Said ok id_zero

-- ── A reading ─────────────────────────────────────────────────────────
-- of an outcome, a code, an answer and a reading: if it is a refusal, then with such a number
abbrev pub OutcomeSays : {A : Type 0} → (ℕ → Type 0) → Outcome A → Type 0
OutcomeSays ok (accepted a t next) = Unit {0}
OutcomeSays ok (refused k t) = Said ok k

abbrev pub TakenSays : (ℕ → Type 0) → Taken → Type 0
TakenSays ok (Code.Taken.taken v next) = Unit {0}
TakenSays ok (Code.Taken.refused k) = Said ok k

abbrev pub AnswerSays : (ℕ → Type 0) → Answer ℕ → Type 0
AnswerSays ok (success n) = Unit {0}
AnswerSays ok (refusal k) = Said ok k

abbrev pub ReadingSays : (ℕ → Type 0) → Reading → Type 0
ReadingSays ok (accepts r n) = Unit {0}
ReadingSays ok (refuses k) = Said ok k

pub keeping_says : (ok : ℕ → Type 0) {A : Type 0} (t : Token) (R : Outcome A) → OutcomeSays ok R → OutcomeSays ok (keeping t R)
unfolding keeping
keeping_says ok t (accepted a l next) h = tt
keeping_says ok t (refused k l) h = h

pub trailing_says : (ok : ℕ → Type 0) → Among ok stop_bit_missing alignment_bit_one → (s : List ℕ) (at : ℕ) → AnswerSays ok (trailing_at s at)
unfolding trailing_at
trailing_says ok S s at =
    go (ltb at (8 * length s)) _ _
    (go (eqb (bit_at s at) 1) _ _
    (go (eqb (field_at s (at + 1) (to_boundary (at + 1))) 0) _ _ tt (S.each _ refl refl))
    (S.each _ refl refl))
    (S.each _ refl refl)
  where
    go : (b : Bool) (x y : Answer ℕ) → AnswerSays ok x → AnswerSays ok y → AnswerSays ok (cond b x y)
    go true x y h g = h
    go false x y h g = g

-- by the definition's rule of codes
pub code_says : (ok : ℕ → Type 0) → Said ok code_too_long → Said ok code_past_end → (s : List ℕ) (at : ℕ) → TakenSays ok (code_at s at)
unfolding code_at code_behind
code_says ok e f s at = go (ltb (zeros_at s at 32) 32) _ _ (go (leb (at + zeros_at s at 32 + 1 + zeros_at s at 32) (8 * length s)) _ _ tt f) e
  where
    go : (b : Bool) (x y : Taken) → TakenSays ok x → TakenSays ok y → TakenSays ok (cond b x y)
    go true x y h g = h
    go false x y h g = g

-- ── A unit ────────────────────────────────────────────────────────────
-- a unit is refused with a number of the first checks, or as its RBSP is
pub unit_says : (ok : ℕ → Type 0) (f : List ℕ → Reading) → Among ok unit_too_short rbsp_too_long → ((s : List ℕ) → ReadingSays ok (f s)) → (u : List ℕ) → ReadingSays ok (unit_by f u)
unfolding unit_by limited_by
unit_says ok f H R [] = H.each _ refl refl
unit_says ok f H R (a ∷ []) = H.each _ refl refl
unit_says ok f H R (a ∷ b ∷ s) = go (eqb (b / 8) vps_nut) _ _ (go (leb (length (unstuff s)) most_rbsp_bytes) _ _ (R (unstuff s)) (H.each _ refl refl)) (H.each _ refl refl)
  where
    go : (c : Bool) (k : ℕ) (x : Reading) → ReadingSays ok x → Said ok k → ReadingSays ok (elim c as (λ d. Reading) [ true ↦ x | false ↦ refuses k ])
    go true k x h g = h
    go false k x h g = g
