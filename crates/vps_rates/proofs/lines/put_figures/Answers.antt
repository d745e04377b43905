-- `put_figures` meets its contract: its columns, one behind the other.
use Rattle.std.proofs.Common.{ap}
use Rattle.std.specs.Prelude.{ℕ}
use Rattle.texts.specs.Adds.{adds_then, adds_same}
use Rattle.text_numbers.specs.Decimal.{decimal}
use Rattle.text_numbers.specs.Aligned.{right_aligned}
use Rattle.vps_rates.specs.Lines.{figure_columns}
use Rattle.vps_rates.proofs.lines.put_figures.Goals as goal

pub returns : goal.returns
unfolding figure_columns
returns c =
    let rate = adds_same (ap (λ (n : ℕ). right_aligned 17 (decimal n)) c.rate_of.ensures) c.put_right_aligned-2.ensures in
    let size = adds_same (ap (λ (n : ℕ). right_aligned 17 (decimal n)) c.size_of.ensures) c.put_right_aligned-3.ensures in
    adds_then (adds_then c.put_right_aligned.ensures rate) size
