-- No unit of so many bytes is accepted, whatever stands in them.
use Rattle.std.specs.Prelude.{ℕ, ◌+◌, ◌≤◌, ◌<◌, ◌≡◌, refl, List, length}
use Rattle.std.proofs.Common.{arith}
use Rattle.std.proofs.lemmas.Bool.{lt-leb}
use Rattle.refusals.specs.Number.{rbsp_too_long}
use Rattle.stuffing.specs.Stuffing.{unstuff}
use Rattle.stuffing.specs.Laws.{unstuff_least}
use Rattle.vps_definition.specs.Reading.{read_rbsp, most_rbsp_bytes, limited_by}
use Rattle.vps_definition.specs.Reading.Reading.{refuses}

-- one byte more than the longest unit that can be accepted
abbrev pub unit_bytes : ℕ
unit_bytes = 98305

pub too_long : (s : List ℕ) → unit_bytes ≤ length s + 2 → limited_by read_rbsp (unstuff s) ≡ refuses rbsp_too_long
unfolding limited_by
too_long s h = let l : most_rbsp_bytes < length (unstuff s) = omega (arith, h, unstuff_least s) in rw (lt-leb (length (unstuff s)) most_rbsp_bytes l, limited_by) refl
