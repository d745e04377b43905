-- The digits, and as many blanks before them as they lack.
use Rattle.texts.specs.Adds.{adds_same, adds_then}
use Rattle.text_numbers.specs.Aligned.{aligned_end}
use Rattle.text_numbers.proofs.put_right_aligned.Goals as goal

pub returns : goal.returns
returns c =
    adds_same (aligned_end c.args.width c.store_digits-begin.result _ c.store_digits-begin.array_long c.saturating_sub.ensures c.store_digits-begin.ensures.digits)
    (adds_then c.put_blanks.ensures c.put.ensures)
