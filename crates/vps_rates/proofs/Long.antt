-- A unit that is longer than every accepted one has the text of its beginning.
use Rattle.std.specs.Prelude.{ℕ, ◌≤◌, ◌≡◌, List, length, take}
use Rattle.std.proofs.Common.{ap}
use Rattle.vps_laws.specs.Longest.{unit_bytes}
use Rattle.vps_laws.proofs.Longest.{read_beginning}
use Rattle.vps_rates.specs.Printed.{reading_text, rates_text}

pub rates_beginning : (u : List ℕ) → unit_bytes ≤ length u → rates_text (take unit_bytes u) ≡ rates_text u
unfolding rates_text
rates_beginning u h = ap reading_text (read_beginning u h)
