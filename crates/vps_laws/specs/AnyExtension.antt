-- The extension bits of a well-formed record may be any: with others in their place it is well formed.
use Rattle.std.specs.Prelude.{ℕ, ◌+◌, ◌≤◌, ◌≡◌, List, ◌++◌, length}
use Rattle.std.proofs.Common.{ap, arith, length-drop}
use Rattle.std.proofs.Math.ListN.{length-append}
use Rattle.vps_definition.specs.Syntax.{Token, numbers}
use Rattle.vps_definition.specs.Record.{record_of, start_of}
use Rattle.vps_definition.specs.Layout.{from_section}
use Rattle.vps_laws.specs.Accepted.{closing, record_parts}

-- they stand behind the number at the extension's start
pub starts_behind : (g : List ℕ) (t : List Token) (e : List ℕ) → from_section (record_of g t e) 7 ≡ closing g t e → start_of (record_of g t e) 7 ≤ length (record_of g t e)
    → start_of (record_of g t e) 7 ≡ length g + length (numbers t)
unfolding from_section
starts_behind g t e h l =
    omega (arith, l, ap length h, length-drop (start_of (record_of g t e) 7) (record_of g t e), ap length (record_parts g t e), length-append g (numbers t ++ closing g t e), length-append (numbers t) (closing g t e))
