-- A unit that is longer than every accepted one has the reading of its beginning.
use Rattle.std.specs.Prelude.{ℕ, ◌-◌, ◌/◌, ◌≤◌, ◌≡◌, refl, List, [], ◌∷◌, Bool, true, false, eqb, length, take}
use Rattle.std.proofs.Common.{sym, ◌∙◌, arith, length-take}
use Rattle.refusals.specs.Number.{not_a_vps}
use Rattle.stuffing.specs.Stuffing.{unstuff}
use Rattle.vps_definition.specs.Reading.{Reading, read_rbsp, read_unit, limited_by, vps_nut, unit_by}
use Rattle.vps_definition.specs.Reading.Reading.{refuses}
use Rattle.vps_laws.specs.Longest.{unit_bytes, too_long}

pub read_beginning : (u : List ℕ) → unit_bytes ≤ length u → read_unit (take unit_bytes u) ≡ read_unit u
unfolding unit_by
read_beginning [] h = absurd (omega (arith, h))
read_beginning (a ∷ []) h = absurd (omega (arith, h))
read_beginning (a ∷ b ∷ s) h =
    let first = too_long (take (unit_bytes - 2) s) (omega (arith, length-take (unit_bytes - 2) s, h)) in
    let all = too_long s (omega (arith, h)) in
    go (eqb (b / 8) vps_nut) (first ∙ sym all)
  where
    go : (t : Bool) → limited_by read_rbsp (unstuff (take (unit_bytes - 2) s)) ≡ limited_by read_rbsp (unstuff s)
        → ◌≡◌ {A = Reading} (elim t as (λ d. Reading) [ true ↦ limited_by read_rbsp (unstuff (take (unit_bytes - 2) s)) | false ↦ refuses not_a_vps ]) (elim t as (λ d. Reading) [ true ↦ limited_by read_rbsp (unstuff s) | false ↦ refuses not_a_vps ])
    go true e = e
    go false e = refl
