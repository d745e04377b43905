-- `put_line` meets its contract: its parts, one behind the other.
use Rattle.std.proofs.Common.{ap, ℕ}
use Rattle.texts.specs.Bytes.{bytes}
use Rattle.texts.specs.Adds.{adds_same, adds_then}
use Rattle.text_numbers.specs.Decimal.{decimal}
use Rattle.text_numbers.specs.Aligned.{right_aligned}
use Rattle.layer_page.specs.Page.{columns, line}
use Rattle.layer_page.proofs.put_line.Goals as goal

pub returns : goal.returns
unfolding line columns bytes
returns c =
    let count = adds_same (ap (λ (k : ℕ). right_aligned 2 (decimal k)) c.count.ensures) c.put_right_aligned-2.ensures in
    let columns = adds_then (adds_then (adds_then c.put_right_aligned.ensures c.put.ensures) count) c.put-2.ensures in
    adds_then (adds_then columns (adds_same c.places.ensures c.put-3.ensures)) c.put-4.ensures
