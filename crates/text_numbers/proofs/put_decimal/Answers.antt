-- `put_decimal` meets its contract: in no width there is no blank.
use Rattle.texts.specs.Adds.{adds_same}
use Rattle.text_numbers.specs.Aligned.{aligned_none}
use Rattle.text_numbers.proofs.put_decimal.Goals as goal

pub returns : goal.returns
returns c = adds_same (aligned_none _) c.put_right_aligned.ensures
