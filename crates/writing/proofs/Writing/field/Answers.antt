-- The number is the record's next, and the field is of what it has above `plus`.
use Rattle.std.proofs.Common.{rules}
use Rattle.bits.specs.Bits.{field_width}
use Rattle.writing.specs.Steps.{field_none, field_refused, field_sent}
use Rattle.writing.proofs.Writing.field.Goals as goal

pub returns-in_err-v-clause-goes : goal.returns-in_err-v-clause-goes
returns-in_err-v-clause-goes c = search (rules, field_none c.in_err-v.ensures (field_width c.args.width))

pub returns-in_err-push_field-clause-goes : goal.returns-in_err-push_field-clause-goes
returns-in_err-push_field-clause-goes c = search (rules, field_refused c.in_ok-v.ensures c.in_err-push_field.ensures)

pub returns-clause-goes : goal.returns-clause-goes
returns-clause-goes c = field_sent c.in_ok-v.ensures c.in_ok-push_field.ensures
