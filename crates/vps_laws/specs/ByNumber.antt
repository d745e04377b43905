-- References and sets by number: the flags that the tables end in stand at fixed places of their sections.
use Rattle.std.specs.Prelude.{ℕ, ◌+◌, ◌≡◌, drop}
use Rattle.std.proofs.Common.{◌∙◌}
use Rattle.std.proofs.Math.Path.{ap}
use mathlib.Core.List.{List, [], ◌∷◌, ◌++◌, append_assoc}
use Rattle.vps_definition.specs.Syntax.{Token, numbers}
use Rattle.vps_definition.specs.Words.{u}
use Rattle.vps_definition.specs.Vps.{Layers}
use Rattle.vps_definition.specs.Layout.{entry_length, flags_in}
use Rattle.vps_laws.specs.Keeps.{numbers_append}

pub apart : (t u : List Token) (z : List ℕ) → numbers (t ++ u) ++ z ≡ numbers t ++ (numbers u ++ z)
apart t u z = ap (λ (x : List ℕ). x ++ z) (numbers_append t u) ∙ append_assoc (numbers t) (numbers u) z

-- a layer: its flags, and the length of its entry
pub record LayerKept (i : ℕ) (x y : Layers) (t : List Token) (z : List ℕ) : Type 0 where
  pub refs : y.refs ≡ x.refs ++ (flags_in i (numbers t ++ z) ∷ [])
  pub behind : drop (entry_length i (numbers t ++ z)) (numbers t ++ z) ≡ z
