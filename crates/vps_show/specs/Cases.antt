-- What vps-show prints for the unit U, byte for byte, and for U with id 0.
use Rattle.std.specs.Prelude.{ℕ, ◌≡◌, refl, List, [], ◌∷◌}
use Rattle.vps_definition.specs.Open.{opened}
use Rattle.vps_reader.specs.Parse.{parse_of, record_after, parse_rbsp, parse_payload, parse_unit}
use Rattle.text_numbers.specs.Decimal.{decimal_in}
use Rattle.vps_show.specs.Shown.{spaced, first_lines, last_lines, ok_text, record_text, refused_text, shown, shown_unit, shown_input}

pub unit : List ℕ
unit = 0 ∷ 0x71 ∷ 0x10 ∷ 0 ∷ 0 ∷ 3 ∷ 2 ∷ 0x33 ∷ 0 ∷ 0 ∷ 0x40 ∷ []

pub text : List ℕ
text =
    -- ok 38
    111 ∷ 107 ∷ 32 ∷ 51 ∷ 56 ∷ 10
    -- general 1 1 0 1 1 1 2 0 0
    ∷ 103 ∷ 101 ∷ 110 ∷ 101 ∷ 114 ∷ 97 ∷ 108 ∷ 32 ∷ 49 ∷ 32 ∷ 49 ∷ 32 ∷ 48 ∷ 32 ∷ 49 ∷ 32 ∷ 49 ∷ 32 ∷ 49 ∷ 32 ∷ 50 ∷ 32 ∷ 48 ∷ 32 ∷ 48 ∷ 10
    -- layers 0 1 0
    ∷ 108 ∷ 97 ∷ 121 ∷ 101 ∷ 114 ∷ 115 ∷ 32 ∷ 48 ∷ 32 ∷ 49 ∷ 32 ∷ 48 ∷ 10
    -- rows 0
    ∷ 114 ∷ 111 ∷ 119 ∷ 115 ∷ 32 ∷ 48 ∷ 10
    -- ptls 1 1 0 1 0 51 0 0 0 0 0
    ∷ 112 ∷ 116 ∷ 108 ∷ 115 ∷ 32 ∷ 49 ∷ 32 ∷ 49 ∷ 32 ∷ 48 ∷ 32 ∷ 49 ∷ 32 ∷ 48 ∷ 32 ∷ 53 ∷ 49 ∷ 32 ∷ 48 ∷ 32 ∷ 48 ∷ 32 ∷ 48 ∷ 32 ∷ 48 ∷ 32 ∷ 48 ∷ 10
    -- ols 1 0
    ∷ 111 ∷ 108 ∷ 115 ∷ 32 ∷ 49 ∷ 32 ∷ 48 ∷ 10
    -- dpb 0 0
    ∷ 100 ∷ 112 ∷ 98 ∷ 32 ∷ 48 ∷ 32 ∷ 48 ∷ 10
    -- timing 0
    ∷ 116 ∷ 105 ∷ 109 ∷ 105 ∷ 110 ∷ 103 ∷ 32 ∷ 48 ∷ 10
    -- extension 0
    ∷ 101 ∷ 120 ∷ 116 ∷ 101 ∷ 110 ∷ 115 ∷ 105 ∷ 111 ∷ 110 ∷ 32 ∷ 48 ∷ 10
    -- trailer 9 12 13 24 26 28 29 38
    ∷ 116 ∷ 114 ∷ 97 ∷ 105 ∷ 108 ∷ 101 ∷ 114 ∷ 32 ∷ 57 ∷ 32 ∷ 49 ∷ 50 ∷ 32 ∷ 49 ∷ 51 ∷ 32 ∷ 50 ∷ 52 ∷ 32 ∷ 50 ∷ 54 ∷ 32 ∷ 50 ∷ 56 ∷ 32 ∷ 50 ∷ 57 ∷ 32 ∷ 51 ∷ 56 ∷ 10
    ∷ []

pub shown_u : shown_input unit ≡ text
unfolding opened parse_of record_after parse_rbsp parse_payload parse_unit decimal_in spaced first_lines last_lines ok_text record_text shown shown_unit shown_input unit text
shown_u = refl

pub unit_id_zero : List ℕ
unit_id_zero = 0 ∷ 0x71 ∷ 0 ∷ 0 ∷ 3 ∷ 0 ∷ 2 ∷ 0x33 ∷ 0 ∷ 0 ∷ 0x40 ∷ []

-- refused 34
pub text_id_zero : List ℕ
text_id_zero = 114 ∷ 101 ∷ 102 ∷ 117 ∷ 115 ∷ 101 ∷ 100 ∷ 32 ∷ 51 ∷ 52 ∷ 10 ∷ []

pub shown_id_zero : shown_input unit_id_zero ≡ text_id_zero
unfolding opened parse_of record_after parse_rbsp parse_payload parse_unit decimal_in refused_text shown shown_unit shown_input unit_id_zero text_id_zero
shown_id_zero = refl
