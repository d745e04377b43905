-- Codes that the end cuts, by the rule of before: such a code was read on, with zeros for what is missing.
use Rattle.std.specs.Prelude.{ℕ, ◌+◌, ◌*◌, ◌-◌, ◌^◌, List, cond, ltb, length}
use Rattle.refusals.specs.Number.{code_too_long}
use Rattle.bits.specs.Bits.{field_at}
use Rattle.bits.specs.Code.{Taken, zeros_at}
use Rattle.bits.specs.Code.Taken.{taken, refused}
use Rattle.vps_definition.specs.Rules.{Rules}
use Rattle.vps_definition.specs.Reading.{Reading, unit_by}
use Rattle.vps_laws.specs.Codes.{read_rbsp_with}

-- behind k zeros: a one and k bits of suffix, which are 0 past the end; or the end, where the suffix counts as 0 and the place still
-- moves k on
unfoldable pub code_behind_before : List ℕ → ℕ → ℕ → Taken
code_behind_before s at k =
    cond (ltb (at + k) (8 * length s))
    (taken (2 ^ k - 1 + field_at s (at + k + 1) k) (at + k + 1 + k))
    (taken (2 ^ k - 1) (at + k + k))

unfoldable pub code_at_before : List ℕ → ℕ → Taken
code_at_before s at = cond (ltb (zeros_at s at 32) 32) (code_behind_before s at (zeros_at s at 32)) (refused code_too_long)

-- a unit, with the codes of before
abbrev pub unit_with_cut_codes : Rules → List ℕ → Reading
unit_with_cut_codes rules = unit_by (read_rbsp_with code_at_before rules)
