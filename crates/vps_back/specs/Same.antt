-- What `==` says of two byte strings is whether they are the same, byte by byte.
use Rattle.std.specs.Prelude.{ℕ, ◌≡◌, refl, List, [], ◌∷◌, Bool, true, false, eqb}
use lib.Pointwise.{pointwise}
use Rattle.lists.specs.Same.{same}

pub same_said : (x y : List ℕ) → pointwise eqb x y ≡ same x y
unfolding same
same_said [] [] = refl
same_said [] (b ∷ y) = refl
same_said (a ∷ x) [] = refl
same_said (a ∷ x) (b ∷ y) = go (eqb a b) refl (same_said x y)
  where
    go : (d : Bool) → eqb a b ≡ d → pointwise eqb x y ≡ same x y → pointwise eqb (a ∷ x) (b ∷ y) ≡ same (a ∷ x) (b ∷ y)
    go true e h = rw (e, same) h
    go false e h = rw (e, same) refl
