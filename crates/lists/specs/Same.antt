-- Whether two lists are the same, number by number.
use Rattle.std.specs.Prelude.{ℕ, ◌≡◌, refl, List, [], ◌∷◌, Bool, true, false, eqb}
use Rattle.std.proofs.Common.{ap, ◌∙◌, arith, eqb-true, eq-eqb}

unfoldable pub same : List ℕ → List ℕ → Bool
same [] [] = true
same [] (y ∷ ys) = false
same (x ∷ xs) [] = false
same (x ∷ xs) (y ∷ ys) = elim (eqb x y) [ true ↦ same xs ys | false ↦ false ]

pub same_true : (x y : List ℕ) → same x y ≡ true → x ≡ y
unfolding same
same_true [] [] e = refl
same_true [] (b ∷ y) e = absurd (let n : ◌≡◌ {A = ℕ} 0 1 = cc in omega arith)
same_true (a ∷ x) [] e = absurd (let n : ◌≡◌ {A = ℕ} 0 1 = cc in omega arith)
same_true (a ∷ x) (b ∷ y) e = go (same_true x y) (eqb a b) refl e
  where
    go : (same x y ≡ true → x ≡ y) → (c : Bool) → eqb a b ≡ c → elim c as (λ d. Bool) [ true ↦ same x y | false ↦ false ] ≡ true → a ∷ x ≡ b ∷ y
    go h true f g = ap (λ (n : ℕ). n ∷ x) (eqb-true a b f) ∙ ap (λ (l : List ℕ). b ∷ l) (h g)
    go h false f g = absurd (let n : ◌≡◌ {A = ℕ} 0 1 = cc in omega arith)

pub same_refl : (x : List ℕ) → same x x ≡ true
unfolding same
same_refl [] = refl
same_refl (a ∷ x) = rw (eq-eqb a a refl, same) (same_refl x)
