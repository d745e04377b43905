-- What programs print where a unit is refused: `refused`, and the number.
use Rattle.std.specs.Prelude.{ℕ, List, ◌++◌}
use Rattle.texts.specs.Bytes.{bytes}
use Rattle.text_numbers.specs.Decimal.{decimal}

unfoldable pub refused_text : (number : ℕ) → List ℕ
refused_text k = bytes "refused " ++ decimal k ++ bytes "\n"
