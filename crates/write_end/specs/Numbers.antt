-- Whether numbers begin with given ones.
use Rattle.std.specs.Prelude.{ℕ, ◌<◌, ◌≡◌, refl, List, Bool, true, false, length, take}
use Rattle.std.specs.Bool.{Decides}
use Rattle.std.proofs.Common.{sym, ap, ◌∙◌, subst, arith, length-take}

-- the first of the numbers x, as many as there are in the list l, are the list
abbrev pub Stands : (x l : List ℕ) → Type 0
Stands x l = take (length l) x ≡ l

abbrev pub Has : (x l : List ℕ) → Bool → Type 0
Has x l true = Stands x l
Has x l false = Stands x l → ⊥

pub stands : (x l : List ℕ) (b : Bool) → Has x l b → b ≡ true → Stands x l
stands x l b h e = subst (Has x l) e h

pub stands_not : (x l : List ℕ) (b : Bool) → Has x l b → b ≡ false → Stands x l → ⊥
stands_not x l b h e = subst (Has x l) e h

-- they were compared with the list
not_true : ◌≡◌ {A = Bool} false true → ⊥
not_true f = let n : ◌≡◌ {A = ℕ} 0 1 = cc in omega arith

pub has_decided : (x : List ℕ) {l first : List ℕ} (b : Bool) → first ≡ take (length l) x → Decides b (first ≡ l) → Has x l b
has_decided x true e D = sym e ∙ D.0 refl
has_decided x false e D = λ h. not_true (D.1 (e ∙ h))

pub too_few : (x l : List ℕ) → length x < length l → Stands x l → ⊥
too_few x l h s = omega (arith, ap length s, length-take (length l) x)
