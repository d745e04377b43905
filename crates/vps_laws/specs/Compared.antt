-- Two readings of an RBSP beside each other: a fact of their answers is one of a unit's. So a rule is compared with the one of before
-- by their RBSPs alone.
use Rattle.std.specs.Prelude.{ℕ, ◌/◌, List, [], ◌∷◌, Bool, true, false, leb, eqb, length, drop}
use Rattle.refusals.specs.Number.{rbsp_too_long, not_a_vps}
use Rattle.stuffing.specs.Stuffing.{unstuff}
use Rattle.vps_definition.specs.Reading.{Reading, most_rbsp_bytes, limited_by, vps_nut, unit_by}
use Rattle.vps_definition.specs.Reading.Reading.{refuses}

guard_both : (P : Reading → Reading → Type 0) (c : Bool) (n : ℕ) (R S : Reading) → P (refuses n) (refuses n) → P R S
    → P (elim c as (λ d. Reading) [ true ↦ R | false ↦ refuses n ]) (elim c as (λ d. Reading) [ true ↦ S | false ↦ refuses n ])
guard_both P true n R S h e = e
guard_both P false n R S h e = h

-- what holds of the same answer twice, and of what both readings give for each RBSP, holds of what they give for each unit
pub unit_both : (P : List ℕ → Reading → Reading → Type 0) → ((s : List ℕ) (R : Reading) → P s R R) → (f g : List ℕ → Reading)
    → ((s : List ℕ) → P s (f s) (g s)) → (u : List ℕ) → P (unstuff (drop 2 u)) (unit_by f u) (unit_by g u)
unfolding unit_by limited_by
unit_both P h f g e [] = h _ _
unit_both P h f g e (a ∷ []) = h _ _
unit_both P h f g e (a ∷ b ∷ s) =
    let x : List ℕ = unstuff s in
    guard_both (P x) (eqb (b / 8) vps_nut) not_a_vps _ _ (h x _) (guard_both (P x) (leb (length x) most_rbsp_bytes) rbsp_too_long (f x) (g x) (h x _) (e x))
