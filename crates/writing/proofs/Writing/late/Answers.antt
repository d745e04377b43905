-- The value is found where the table finds it.
use Rattle.std.proofs.Common.{rules}
use Rattle.writing.specs.Steps.{late_refused, late_sent}
use Rattle.writing.proofs.Writing.late.Goals as goal

pub returns-in_err-push_field-clause-goes : goal.returns-in_err-push_field-clause-goes
returns-in_err-push_field-clause-goes c find e = search (rules, late_refused c.in_err-push_field.ensures find e)

pub returns-clause-goes : goal.returns-clause-goes
returns-clause-goes c find e = late_sent c.in_ok-push_field.ensures find e
