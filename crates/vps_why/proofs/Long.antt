-- A unit that is longer than every accepted one has the line of its beginning.
use Rattle.std.specs.Prelude.{◌≤◌, ◌≡◌, ℕ, List, length, take}
use Rattle.std.proofs.Common.{ap}
use Rattle.vps_laws.specs.Longest.{unit_bytes}
use Rattle.vps_laws.proofs.Longest.{read_beginning}
use Rattle.vps_why.specs.Why.{line, why}

pub why_beginning : (u : List ℕ) → unit_bytes ≤ length u → why (take unit_bytes u) ≡ why u
unfolding why
why_beginning u h = ap line (read_beginning u h)
