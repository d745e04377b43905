-- The rule of before a change, computed at worked units: where the answer changed, it is the one that was recorded then.
use Rattle.std.specs.Prelude.{◌≡◌, refl, [], ◌∷◌, ◌++◌, map}
use Rattle.bits.specs.Code.Taken.{taken}
use Rattle.vps_definition.specs.Rules.{today}
use Rattle.vps_definition.specs.Reading.{read_unit}
use Rattle.vps_definition.specs.Reading.Reading.{refuses}
use Rattle.vps_definition.specs.Open.{opened}
use Rattle.vps_definition.specs.Cases.{unit}
use Rattle.vps_definition.specs.CutCases.{cut_units, over_limit, whole_at_end}
use Rattle.vps_laws.specs.Codes.{run_with, read_rbsp_with}
use Rattle.vps_laws.specs.CutCodes.{code_behind_before, code_at_before, unit_with_cut_codes}
use Rattle.vps_laws.specs.LongerExtension.{more_data_before, data_bits_before, extension_bits_before, closed_before, rbsp_with_shorter_extension, unit_with_shorter_extension}

-- ── Extension bits run up to the last one-bit ─────────────────────────
-- P12: bits 1 0. And the bit 0 alone; bits that end in 00; a one and zeros up to the next byte
pub bits_before_the_stop_bit : (unit_with_shorter_extension today (unit 0xd0) ≡ refuses 28) × (unit_with_shorter_extension today (unit 0xa0) ≡ refuses 28)
    × (unit_with_shorter_extension today (unit 0xc8) ≡ refuses 28) × (unit_with_shorter_extension today (unit 0xc0 ++ (0x80 ∷ [])) ≡ refuses 28)
unfolding opened unit more_data_before data_bits_before extension_bits_before closed_before rbsp_with_shorter_extension
bits_before_the_stop_bit = (refl, refl, refl, refl)

-- P11: the bit 1. And no bit; ones, and whole zero bytes behind them; nothing but zeros
pub bits_that_stay : (unit_with_shorter_extension today (unit 0xe0) ≡ read_unit (unit 0xe0)) × (unit_with_shorter_extension today (unit 0xc0) ≡ read_unit (unit 0xc0))
    × (unit_with_shorter_extension today (unit 0xff ++ (0 ∷ 0 ∷ [])) ≡ read_unit (unit 0xff ++ (0 ∷ 0 ∷ []))) × (unit_with_shorter_extension today (unit 0x80) ≡ refuses 28)
unfolding opened unit more_data_before data_bits_before extension_bits_before closed_before rbsp_with_shorter_extension
bits_that_stay = (refl, refl, refl, refl)

-- ── Codes that the end cuts ───────────────────────────────────────────
-- P3 and P4
pub codes_past_the_end : (code_at_before [] 0 ≡ taken 0 0) × (code_at_before (0b11111100 ∷ []) 6 ≡ taken 3 10)
unfolding opened code_at_before code_behind_before
codes_past_the_end = (refl, refl)

-- each code of the table, with nothing left, among its zeros, and in its suffix: by the limit of a value that nobody sent, or at the end
pub cut_codes : map (unit_with_cut_codes today) cut_units ≡ map refuses (
    27 ∷ 13 ∷ 13 ∷ 27 ∷ 15 ∷ 15 ∷ 27 ∷ 17 ∷ 27
    ∷ 27 ∷ 18 ∷ 18 ∷ 27 ∷ 27 ∷ 27 ∷ 27 ∷ 27 ∷ 27
    ∷ 27 ∷ 27 ∷ 27 ∷ 27 ∷ 19 ∷ 27 ∷ 27 ∷ 20 ∷ 27
    ∷ 27 ∷ 27 ∷ 27 ∷ 27 ∷ 23 ∷ 23 ∷ 27 ∷ 27 ∷ 27
    ∷ 27 ∷ 27 ∷ 27 ∷ 27 ∷ 27 ∷ 27 ∷ 27 ∷ 27 ∷ 27
    ∷ 27 ∷ 27 ∷ 27 ∷ 27 ∷ 27 ∷ 26 ∷ [])
unfolding opened code_at_before code_behind_before run_with read_rbsp_with cut_units
cut_codes = refl

-- whole codes over their limits and at the very end have the answer of before
pub whole_codes : (map (unit_with_cut_codes today) over_limit ≡ map read_unit over_limit) × (map (unit_with_cut_codes today) whole_at_end ≡ map read_unit whole_at_end)
unfolding opened code_at_before code_behind_before run_with read_rbsp_with over_limit whole_at_end
whole_codes = (refl, refl)
