-- `tell_figure` meets its contract, case by case of the answer.
use Rattle.std.proofs.Common.{sym, ap, ◌∙◌}
use Rattle.refusals.specs.Answer.Answer.{refusal}
use Rattle.refusals.specs.Refusals.{answer_of}
use Rattle.vps_c.specs.Calls.{tells_success, tells_refusal}
use Rattle.vps_c.proofs.tell_figure.Goals as goal

pub returns-in-Ok : goal.returns-in-Ok
returns-in-Ok c = tells_success (sym (ap answer_of c.in-Ok.is))

pub returns-in-Err : goal.returns-in-Err
returns-in-Err c = tells_refusal (ap refusal c.number.ensures ∙ sym (ap answer_of c.in-Err.is))
