-- `put_answer` meets its contract, case by case.
use Rattle.std.specs.Prelude.{Result}
use Rattle.std.proofs.Common.{sym, ap, ◌∙◌}
use Rattle.refusals.specs.Refusals.{number_of}
use Rattle.vps_reader.specs.Answers.{parsed_answer}
use Rattle.vps_reader.specs.declared.parsed.Parsed.{Parsed}
use Rattle.vps_reader.specs.declared.parsed.NotParsed.{NotParsed}
use Rattle.texts.specs.Adds.{adds_same, adds_then}
use Rattle.vps_show.specs.Shown.{ok_text, refused_text, record_text, shown, shown_refused}
use Rattle.vps_show.proofs.shown.put_answer.Goals as goal

pub returns-in-Ok : goal.returns-in-Ok
unfolding shown ok_text
returns-in-Ok c =
    adds_same (sym (ap (λ (a : Result Parsed NotParsed). shown (parsed_answer a) c.args.«record».now) c.in-Ok.is))
    (adds_then c.put_count.ensures (adds_same (ap record_text c.record_in.ensures) c.put_record.ensures))

pub returns-in-Err : goal.returns-in-Err
unfolding refused_text
returns-in-Err c =
    let number = c.from.ensures ∙ c.number-number.ensures ∙ ap number_of c.refusal.ensures in
    adds_same (ap refused_text number ∙ shown_refused _ _ ∙ sym (ap (λ (a : Result Parsed NotParsed). shown (parsed_answer a) c.args.«record».now) c.in-Err.is)) c.put_count-in-Err.ensures
