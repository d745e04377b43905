-- Behind each turn there is a blank more.
use Rattle.texts.specs.Adds.{adds_none, adds_same, adds_then}
use Rattle.text_numbers.specs.Aligned.{blank_more}
use Rattle.text_numbers.proofs.put_blanks.Goals as goal

pub loop-init : goal.loop-init
loop-init c = adds_none _

pub loop-preserved : goal.loop-preserved
loop-preserved c = adds_same (blank_more _) (adds_then c.loop.invariant c.put.ensures)
