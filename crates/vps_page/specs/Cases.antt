-- What vps-page prints, computed.
use Rattle.std.specs.Prelude.{ℕ, ◌≡◌, refl, List, [], ◌∷◌, ◌++◌, replicate}
use Rattle.texts.specs.Bytes.{bytes}
use Rattle.text_numbers.specs.Decimal.{decimal_in}
use Rattle.text_numbers.specs.Aligned.{right_aligned}
use Rattle.sentences.specs.Refused.{refused_text}
use Rattle.vps_definition.specs.Open.{opened}
use Rattle.layer_page.specs.Page.{place, places, columns, line, set_line, set_lines, page_of}
use Rattle.vps_page.specs.Printed.{reading_page, unit_page, printed, page_text}

-- the units of samples/: one layer, output layer sets by rows, damaged, and id 0
pub one_layer : List ℕ
one_layer = 0 ∷ 0x71 ∷ 0x10 ∷ 0 ∷ 0 ∷ 3 ∷ 2 ∷ 0x33 ∷ 0 ∷ 0 ∷ 0x40 ∷ []

pub output_rows : List ℕ
output_rows =
    0 ∷ 0x71 ∷ 0x10 ∷ 0xc0 ∷ 0 ∷ 0x48 ∷ 0x44 ∷ 0x18 ∷ 0x60 ∷ 0x11 ∷ 0x60 ∷ 0 ∷ 2 ∷ 0x33 ∷ 0x40 ∷ 0 ∷ 0x95 ∷ 0xc0 ∷ 0x0f ∷ 2 ∷ 0 ∷ 0x43 ∷ 0x95 ∷ 0x80 ∷ 0x1e ∷ 4 ∷ 0 ∷ 0x87 ∷ 0x2b ∷ 0x20 ∷ []

pub damaged : List ℕ
damaged = 0 ∷ 0x71 ∷ 0x10 ∷ 0x80 ∷ 0 ∷ 0x48 ∷ 0x42 ∷ 0 ∷ 0 ∷ 3 ∷ 2 ∷ 0x33 ∷ 0x40 ∷ 0 ∷ 0x95 ∷ 0xc0 ∷ 0x0f ∷ 2 ∷ 0 ∷ 0x43 ∷ 0x95 ∷ 0x80 ∷ 0x1e ∷ 4 ∷ []

pub id_zero : List ℕ
id_zero = 0 ∷ 0x71 ∷ 0 ∷ 0 ∷ 3 ∷ 0 ∷ 2 ∷ 0x33 ∷ 0 ∷ 0 ∷ 0x40 ∷ []

-- what stands behind the last layer's place
abbrev blanks : ℕ → List ℕ
blanks n = replicate n 32 ++ bytes "\n"

pub text_one_layer : page_text one_layer ≡ bytes "  0  1 #" ++ blanks 63
unfolding opened page_of set_lines set_line line columns places place right_aligned decimal_in bytes reading_page unit_page printed page_text one_layer
text_one_layer = refl

pub text_output_rows : page_text output_rows ≡ bytes "  0  1 #..." ++ blanks 60 ++ bytes "  1  3 #.##" ++ blanks 60 ++ bytes "  2  3 ###." ++ blanks 60
unfolding opened page_of set_lines set_line line columns places place right_aligned decimal_in bytes reading_page unit_page printed page_text output_rows
text_output_rows = refl

pub text_damaged : page_text damaged ≡ bytes "refused 35\n"
unfolding opened decimal_in bytes reading_page unit_page refused_text printed page_text damaged
text_damaged = refl

pub text_id_zero : page_text id_zero ≡ bytes "refused 34\n"
unfolding opened decimal_in bytes reading_page unit_page refused_text printed page_text id_zero
text_id_zero = refl
