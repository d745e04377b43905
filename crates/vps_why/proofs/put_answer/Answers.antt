-- `put_answer` meets its contract, case by case.
use Rattle.std.specs.Prelude.{Result, Err}
use Rattle.std.proofs.Common.{sym, ap, ◌∙◌}
use Rattle.texts.specs.Bytes.{bytes}
use Rattle.texts.specs.Adds.{adds_same}
use Rattle.vps_reader.specs.Answers.{parsed_answer}
use Rattle.vps_reader.specs.declared.parsed.Parsed.{Parsed}
use Rattle.vps_reader.specs.declared.parsed.NotParsed.{NotParsed}
use Rattle.vps_why.specs.Why.{parsed_line}
use Rattle.vps_why.proofs.put_answer.Goals as goal

pub returns-in-Ok : goal.returns-in-Ok
unfolding parsed_line bytes
returns-in-Ok c = adds_same (sym (ap (λ (a : Result Parsed NotParsed). parsed_line (parsed_answer a)) c.in-Ok.is)) c.put.ensures

pub returns-in-Err-RecordTooShort : goal.returns-in-Err-RecordTooShort
unfolding parsed_line bytes
returns-in-Err-RecordTooShort c =
    let short = rw c.in-Err-RecordTooShort.is at c.in-Err-RecordTooShort.field-0-is in
    let is = c.in-Err-RecordTooShort.is ∙ ap (λ (e : NotParsed). let r : Result Parsed NotParsed = Err e in r) short in
    adds_same (sym (ap (λ (a : Result Parsed NotParsed). parsed_line (parsed_answer a)) is)) c.put-in-Err-RecordTooShort.ensures

pub returns-in-Err-Refused : goal.returns-in-Err-Refused
unfolding parsed_line
returns-in-Err-Refused c =
    let refused = rw c.in-Err-Refused.is at c.in-Err-Refused.field-0-is in
    let is = c.in-Err-Refused.is ∙ ap (λ (e : NotParsed). let r : Result Parsed NotParsed = Err e in r) refused in
    adds_same (sym (ap (λ (a : Result Parsed NotParsed). parsed_line (parsed_answer a)) is)) c.put_refused.ensures
