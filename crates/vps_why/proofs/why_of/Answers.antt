-- `why_of` meets its contract: the work buffer is long enough for every unit, and the room for every line.
use Rattle.std.proofs.Common.{take, ap, ◌∙◌, arith}
use Rattle.std.proofs.Math.Seq.{take-append_seam}
use Rattle.texts.specs.Adds.{adds_same, puts_first}
use Rattle.vps_why.specs.Why.{parsed_line, of_unit, why, why_whole}
use Rattle.vps_why.proofs.why_of.Goals as goal

pub returns-clause-value : goal.returns-clause-value
returns-clause-value c =
    let unit = c.args.unit.now in
    let put = adds_same (ap parsed_line c.parse_vps-answer.ensures.answered ∙ of_unit _ _ (omega arith) unit) c.put_answer.ensures in
    let whole = why_whole unit (puts_first put c.at-line.ensures.place c.at-line.ensures.bytes) (omega arith) in
    (λ i. take (whole.0 i) (whole.1 i)) ∙ take-append_seam (why unit) _

pub returns-clause-text_after : goal.returns-clause-text_after
returns-clause-text_after c =
    let unit = c.args.unit.now in
    let put = adds_same (ap parsed_line c.parse_vps-answer.ensures.answered ∙ of_unit _ _ (omega arith) unit) c.put_answer.ensures in
    (why_whole unit (puts_first put c.at-line.ensures.place c.at-line.ensures.bytes) (omega arith)).1
