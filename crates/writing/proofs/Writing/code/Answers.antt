-- The number is the record's next, and the code is of what it has above `plus`.
use Rattle.std.proofs.Common.{rules}
use Rattle.writing.specs.Steps.{code_none, code_refused, code_sent}
use Rattle.writing.proofs.Writing.code.Goals as goal

pub returns-in_err-v : goal.returns-in_err-v
returns-in_err-v c = search (rules, code_none c.in_err-v.ensures)

pub returns-in_err-push_code : goal.returns-in_err-push_code
returns-in_err-push_code c = search (rules, code_refused c.in_ok-v.ensures c.in_err-push_code.ensures)

pub returns : goal.returns
returns c = code_sent c.in_ok-v.ensures c.in_ok-push_code.ensures
