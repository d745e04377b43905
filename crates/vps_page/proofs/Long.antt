-- A unit that is longer than every accepted one has the text of its beginning.
use Rattle.std.specs.Prelude.{ℕ, ◌≤◌, ◌≡◌, List, length, take}
use Rattle.std.proofs.Common.{ap}
use Rattle.vps_laws.specs.Longest.{unit_bytes}
use Rattle.vps_laws.proofs.Longest.{read_beginning}
use Rattle.vps_page.specs.Printed.{reading_page, printed, unit_page, page_text}

pub page_beginning : (u : List ℕ) → unit_bytes ≤ length u → page_text (take unit_bytes u) ≡ page_text u
unfolding unit_page page_text
page_beginning u h = ap (λ x. printed (reading_page x)) (read_beginning u h)
