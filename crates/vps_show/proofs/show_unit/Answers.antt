-- `show_unit` meets its contract.
use Rattle.texts.specs.Adds.{adds_same}
use Rattle.vps_show.specs.Shown.{shown, shown_unit}
use Rattle.vps_show.proofs.show_unit.Goals as goal

pub returns : goal.returns
unfolding shown_unit
returns c = adds_same (λ i. shown (c.parse_vps-answer.ensures.answered i) (c.parse_vps-answer.ensures.left i)) c.put_answer.ensures
