-- How `skim` goes over the words of a table: behind each, the result and the record's rest.
use Rattle.std.specs.Prelude.{ℕ, zero, suc, ◌+◌, ◌-◌, ◌≤◌, ◌≡◌, refl, List, [], ◌∷◌, ◌++◌, Bool, true, false, length, get_or, drop}
use Rattle.std.proofs.Common.{sym, ap, ◌∙◌, subst, zero-add, add-one, arith}
use Rattle.vps_definition.specs.Syntax.{Syntax, ◌>>=◌, skim}
use Rattle.vps_definition.specs.Syntax.Syntax.{field, code, late, keep, mark, align, test, refuse, done}
use Rattle.vps_definition.specs.Words.{u, inferred, nothing, aligned, keeps, loop, repeat}
use Rattle.vps_definition.specs.ProfileTierLevel.{falling, reversed, ahead}
use Rattle.vps_laws.specs.Loops.{bind_assoc, bind_unit}
use Rattle.ptl_slots.specs.Standing.{standing, length_standing, standing_last}

-- whatever follows a table is looked through by the result a, from the rest y on
pub record Skims {A : Type 0} (m : Syntax A) (r x : List ℕ) (a : A) (y : List ℕ) : Type 0 where
  pub over : (f : A → Syntax (Unit {0})) → skim (m >>= f) r x ≡ skim (f a) r y

-- ── Tables in a row ───────────────────────────────────────────────────
pub skims_then : {A B : Type 0} (m : Syntax A) (f : A → Syntax B) {r x y z : List ℕ} {a : A} {b : B} → Skims m r x a y → Skims (f a) r y b z → Skims (m >>= f) r x b z
skims_then m f {r} {x} M N = record { over = λ g. ap (λ (s : Syntax (Unit {0})). skim s r x) (bind_assoc m f g) ∙ M.over (λ a. f a >>= g) ∙ N.over g }

pub skims_all : {m : Syntax (Unit {0})} {r x y : List ℕ} → Skims m r x tt y → skim m r x ≡ y
unfolding skim
skims_all {m} {r} {x} M = ap (λ (s : Syntax (Unit {0})). skim s r x) (sym (bind_unit m)) ∙ M.over done

pub skims_to : {A : Type 0} {m : Syntax A} {r x y z : List ℕ} {a : A} → y ≡ z → Skims m r x a y → Skims m r x a z
skims_to {m = m} {r = r} {x = x} {a = a} e M = subst (Skims m r x a) e M

-- behind the record's end there is nothing
skim_end : {A : Type 0} (m : Syntax A) (r : List ℕ) → skim m r [] ≡ []
unfolding skim
skim_end (field w plus k) r = refl
skim_end (code plus k) r = refl
skim_end (late w find k) r = skim_end (k (find r [])) r
skim_end (keep v m) r = refl
skim_end (mark m) r = skim_end m r
skim_end (align n m) r = skim_end m r
skim_end (test true m n) r = skim_end m r
skim_end (test false m n) r = skim_end n r
skim_end (refuse n) r = refl
skim_end (done a) r = refl

-- ── What is left ──────────────────────────────────────────────────────
-- numbers that others end in
pub record EndsIn (x y : List ℕ) : Type 0 where
  pub shorter : length y ≤ length x
  pub is : drop (length x - length y) x ≡ y

ends_all : (x : List ℕ) → EndsIn x x
ends_all x =
    let n : length x - length x ≡ 0 = omega arith in
    record { shorter = omega arith; is = ap (λ (k : ℕ). drop k x) n }

ends_more : (v : ℕ) {x y : List ℕ} → EndsIn x y → EndsIn (v ∷ x) y
ends_more v {x} {y} E =
    let n : length (v ∷ x) - length y ≡ suc (length x - length y) = omega (arith, E.shorter) in
    record { shorter = omega (arith, E.shorter); is = ap (λ (k : ℕ). drop k (v ∷ x)) n ∙ E.is }

pub ends_in : {A : Type 0} (m : Syntax A) (r x : List ℕ) → EndsIn x (skim m r x)
unfolding skim
ends_in (field w plus k) r [] = ends_all []
ends_in (field w plus k) r (v ∷ x) = ends_more v (ends_in (k v) r x)
ends_in (code plus k) r [] = ends_all []
ends_in (code plus k) r (v ∷ x) = ends_more v (ends_in (k v) r x)
ends_in (late w find k) r x = ends_in (k (find r x)) r x
ends_in (keep v m) r [] = ends_all []
ends_in (keep v m) r (u ∷ x) = ends_more u (ends_in m r x)
ends_in (mark m) r x = ends_in m r x
ends_in (align n m) r x = ends_in m r x
ends_in (test true m n) r x = ends_in m r x
ends_in (test false m n) r x = ends_in n r x
ends_in (refuse n) r x = ends_all x
ends_in (done a) r x = ends_all x

-- ── Words ─────────────────────────────────────────────────────────────
pub skims_done : {A : Type 0} {a : A} {r x : List ℕ} → Skims (done a) r x a x
unfolding ◌>>=◌
skims_done = record { over = λ f. refl }

pub skims_nothing : {r x : List ℕ} → Skims nothing r x tt x
unfolding nothing
skims_nothing = skims_done

skims_field : {A : Type 0} {w plus : ℕ} {k : ℕ → Syntax A} {r x y : List ℕ} {a : A} → Skims (k (get_or x 0 0)) r (drop 1 x) a y → Skims (field w plus k) r x a y
unfolding skim ◌>>=◌
skims_field {k = k} {r = r} {x = []} M = record { over = λ f. sym (skim_end (k 0 >>= f) r) ∙ M.over f }
skims_field {x = v ∷ x} M = record { over = λ f. M.over f }

skims_keep : {A : Type 0} {v : ℕ} {m : Syntax A} {r x y : List ℕ} {a : A} → Skims m r (drop 1 x) a y → Skims (keep v m) r x a y
unfolding skim ◌>>=◌
skims_keep {m = m} {r = r} {x = []} M = record { over = λ f. sym (skim_end (m >>= f) r) ∙ M.over f }
skims_keep {x = v ∷ x} M = record { over = λ f. M.over f }

skims_late : {A : Type 0} {w : ℕ} {find : List ℕ → List ℕ → ℕ} {k : ℕ → Syntax A} {r x y : List ℕ} {a : A} → Skims (k (find r x)) r x a y → Skims (late w find k) r x a y
unfolding skim ◌>>=◌
skims_late M = record { over = λ f. M.over f }

pub skims_yes : {A : Type 0} {b : Bool} {m n : Syntax A} {r x y : List ℕ} {a : A} → b ≡ true → Skims m r x a y → Skims (test b m n) r x a y
unfolding skim ◌>>=◌
skims_yes {m = m} {n = n} {r = r} {x = x} {y = y} {a = a} e M = subst (λ (b : Bool). Skims (test b m n) r x a y) (sym e) (record { over = λ f. M.over f })

pub skims_no : {A : Type 0} {b : Bool} {m n : Syntax A} {r x y : List ℕ} {a : A} → b ≡ false → Skims n r x a y → Skims (test b m n) r x a y
unfolding skim ◌>>=◌
skims_no {m = m} {n = n} {r = r} {x = x} {y = y} {a = a} e M = subst (λ (b : Bool). Skims (test b m n) r x a y) (sym e) (record { over = λ f. M.over f })

pub skims_u : (w : ℕ) {r x : List ℕ} → Skims (u w) r x (get_or x 0 0) (drop 1 x)
unfolding u
skims_u w = skims_field skims_done

pub skims_inferred : (v : ℕ) {r x : List ℕ} → Skims (inferred v) r x v (drop 1 x)
unfolding inferred
skims_inferred v = skims_keep skims_done

pub skims_keep_nothing : {v : ℕ} {r x : List ℕ} → Skims (keep v nothing) r x tt (drop 1 x)
skims_keep_nothing = skims_keep skims_nothing

pub skims_aligned : (n : ℕ) {r x : List ℕ} → Skims (aligned n) r x tt x
unfolding aligned nothing skim ◌>>=◌
skims_aligned n = record { over = λ f. refl }

-- ── Words that take several numbers ───────────────────────────────────
-- one number, and then the others
drop_first : (n : ℕ) (x : List ℕ) → drop n (drop 1 x) ≡ drop (suc n) x
drop_first zero [] = refl
drop_first (suc n) [] = refl
drop_first n (v ∷ x) = refl

skims_keeps : (l : List ℕ) {r x : List ℕ} → Skims (keeps l) r x tt (drop (length l) x)
unfolding keeps
skims_keeps [] = skims_nothing
skims_keeps (v ∷ l) {x = x} = skims_keep (skims_to (drop_first (length l) x) (skims_keeps l))

pub skims_standing : (n i : ℕ) (z : List ℕ) {r x : List ℕ} → Skims (keeps (standing n i z)) r x tt (drop n x)
skims_standing n i z {x = x} = skims_to (ap (λ (k : ℕ). drop k x) (length_standing n i z)) (skims_keeps (standing n i z))

pub skims_fields : (n w : ℕ) {r x : List ℕ} → Skims (repeat n (field w 0 λ v. nothing)) r x tt (drop n x)
unfolding repeat loop
skims_fields n w = turns n 0
  where
    turns : (n i : ℕ) {r x : List ℕ} → Skims (loop (λ i x. field w 0 λ v. nothing) n i tt) r x tt (drop n x)
    turns zero i = skims_done
    turns (suc n) i {x = x} = skims_then _ _ (skims_field skims_nothing) (skims_to (drop_first n x) (turns n (i + 1)))

skims_falling : (n w : ℕ) {r x : List ℕ} → Skims (falling n w) r x (standing n 0 x) x
unfolding falling standing
skims_falling zero w = skims_done
skims_falling (suc n) w {r} {x} =
    let e : standing (suc n) 0 x ≡ standing n 0 x ++ (get_or x n 0 ∷ []) = ap (λ (k : ℕ). standing k 0 x) (sym (add-one n)) ∙ standing_last n 0 x ∙ ap (λ (k : ℕ). standing n 0 x ++ (get_or x k 0 ∷ [])) (zero-add n) in
    subst (λ (l : List ℕ). Skims (falling (suc n) w) r x l x) (sym e) (skims_late (skims_then _ _ (skims_falling n w) skims_done))

pub skims_ahead : (n i : ℕ) {r x : List ℕ} → Skims (ahead n i) r x (standing n i x) x
unfolding ahead standing
skims_ahead zero i = skims_done
skims_ahead (suc n) i = skims_late (skims_then _ _ (skims_ahead n (i + 1)) skims_done)

pub skims_reversed : (n w : ℕ) {r x : List ℕ} → Skims (reversed n w) r x (standing n 0 x) (drop n x)
unfolding reversed
skims_reversed n w {x = x} = skims_then _ _ (skims_falling n w) (skims_then _ _ (skims_standing n 0 x) skims_done)
