-- How far a reading can go, whatever the bytes are: counted in words, each of at most 64 bits and one number of the record.
use Rattle.std.specs.Prelude.{ℕ, zero, suc, ◌+◌, ◌*◌, ◌-◌, ◌≤◌, ◌<◌, ◌≡◌, refl, List, [], ◌∷◌, Bool, true, false, leb, length}
use Rattle.std.proofs.Common.{subst, arith, leb-true, le-leb}
use Rattle.vps_definition.specs.Syntax.{Syntax, ◌>>=◌}
use Rattle.vps_definition.specs.Words.{u, ue, ue_minus1, inferred, u_if, ue_if, general, general_if, check, ruled, nothing, keeps, loop, repeat}
use Rattle.read_bounds.specs.Within.{Within, Any, within_so, within_field, within_code, within_late, within_keep, within_test, within_done, within_end, within_bind, within_nothing, within_check, within_passed}

-- the second gets what the first leaves
pub within_after : {A B : Type 0} {Q : A → Type 0} {R : B → Type 0} (b : ℕ) {c : ℕ} {m : Syntax A} {g : A → Syntax B} → leb b c ≡ true → Within Q b m → ((a : A) → Q a → Within R (c - b) (g a)) → Within R c (m >>= g)
within_after b {c} l M G = within_so (within_bind M G) (omega (arith, leb-true b c l))

-- where the first takes no word, or one
pub within_none : {A B : Type 0} {R : B → Type 0} {c : ℕ} {m : Syntax A} {g : A → Syntax B} → Within Any 0 m → ((a : A) → Within R c (g a)) → Within R c (m >>= g)
within_none M G = within_so (within_bind M (λ a q. G a)) (omega arith)

pub within_one : {A B : Type 0} {R : B → Type 0} {c : ℕ} {m : Syntax A} {g : A → Syntax B} → leb 1 c ≡ true → Within Any 1 m → ((a : A) → Within R (c - 1) (g a)) → Within R c (m >>= g)
within_one l M G = within_after 1 l M (λ a q. G a)

-- ── The words of a table ──────────────────────────────────────────────
pub within_u : (w : ℕ) → leb w 64 ≡ true → Within Any 1 (u w)
unfolding u
within_u w l = within_field l refl (λ v h. within_end)

pub within_ue : Within Any 1 ue
unfolding ue
within_ue = within_code refl (λ v. within_end)

pub within_ue_minus1 : Within Any 1 ue_minus1
unfolding ue_minus1
within_ue_minus1 = within_code refl (λ v. within_end)

pub within_inferred : (v : ℕ) → Within Any 1 (inferred v)
unfolding inferred
within_inferred v = within_keep refl within_end

pub within_u_if : (b : Bool) (w v : ℕ) → leb w 64 ≡ true → Within Any 1 (u_if b w v)
unfolding u_if
within_u_if b w v l = within_test b (within_u w l) (within_inferred v)

pub within_ue_if : (b : Bool) (v : ℕ) → Within Any 1 (ue_if b v)
unfolding ue_if
within_ue_if b v = within_test b within_ue (within_inferred v)

pub within_general : (i w : ℕ) → leb w 64 ≡ true → Within Any 1 (general i w)
unfolding general
within_general i w l = within_late l refl (λ v h. within_end)

pub within_general_if : (b : Bool) (i w v : ℕ) → leb w 64 ≡ true → Within Any 1 (general_if b i w v)
unfolding general_if
within_general_if b i w v l = within_test b (within_general i w l) within_end

pub within_checked : {B : Type 0} {R : B → Type 0} {c : ℕ} (b : Bool) (r : ℕ) {g : Unit {0} → Syntax B} → ((o : Unit {0}) → b ≡ true → Within R c (g o)) → Within R c (check b r >>= g)
within_checked b r G = within_so (within_bind (within_check b r) G) (omega arith)

-- behind a rule's check, or where the rule is not in force
pub within_ruled : {A : Type 0} {Q : A → Type 0} {c : ℕ} (rule b : Bool) (r : ℕ) {m : Syntax A} → Within Q c m → Within Q c (ruled rule b r m)
unfolding ruled
within_ruled true b r M = within_none (within_passed b r) (λ o. M)
within_ruled false b r M = M

pub within_keeps : (l : List ℕ) → Within Any (length l) (keeps l)
unfolding keeps nothing
within_keeps [] = within_end
within_keeps (v ∷ l) = within_keep (le-leb 1 (suc (length l)) (omega arith)) (within_so (within_keeps l) (omega arith))

-- ── Loops ─────────────────────────────────────────────────────────────
-- at most so many turns of c words; I, of the index and the state, holds at first, and each turn keeps it
pub within_loop : {A : Type 0} {c : ℕ} {f : ℕ → A → Syntax A} (I : ℕ → A → Type 0) (most n i : ℕ) (x : A) → n ≤ most → I i x → ((j : ℕ) (y : A) → j < i + n → I j y → Within (I (j + 1)) c (f j y))
    → Within (I (i + n)) (most * c) (loop f n i x)
unfolding loop
within_loop I most zero i x l h F = within_done (let e : i ≡ i + 0 = omega arith in subst (λ (k : ℕ). I k x) e h)
within_loop I zero (suc n) i x l h F = absurd (omega arith)
within_loop {c = c} {f = f} I (suc most) (suc n) i x l h F =
    let e : i + 1 + n ≡ i + suc n = omega arith in
    subst (λ (k : ℕ). Within (I k) (suc most * c) (loop f (suc n) i x)) e
    (within_so (within_bind (F i x (omega arith) h) (λ y g. within_loop I most n (i + 1) y (omega arith) g (λ j z k o. F j z (omega arith) o))) (omega arith))

pub within_turns : {A : Type 0} {c : ℕ} {f : ℕ → A → Syntax A} (most n i : ℕ) (x : A) → n ≤ most → ((j : ℕ) (y : A) → j < i + n → Within Any c (f j y)) → Within Any (most * c) (loop f n i x)
within_turns most n i x l F = within_loop (λ j y. Unit {0}) most n i x l tt (λ j y k o. F j y k)

pub within_repeat : {c : ℕ} {m : Syntax (Unit {0})} (most n : ℕ) → n ≤ most → Within Any c m → Within Any (most * c) (repeat n m)
unfolding repeat
within_repeat most n l M = within_turns most n 0 tt l (λ j y k. M)

-- a table of such words, by `search words depth 40`
pub ruleset words = (within_none, within_one, within_end, within_u, within_ue, within_u_if, within_ue_if, within_nothing, within_passed)
