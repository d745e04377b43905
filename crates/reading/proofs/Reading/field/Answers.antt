-- The field is the bit reader's, and it is stored with `plus` added.
use Rattle.std.proofs.Common.{◌+◌, rules, sym, ap, arith}
use Rattle.bits.specs.Bits.{field_width}
use Rattle.bits.specs.FieldLaws.{field_lt}
use Rattle.vps_laws.specs.Inversion.{read_field_as}
use Rattle.vps_laws.specs.Inversion.Reads.{read_done}
use Rattle.reading.specs.Steps.{pushed, meets_not_passed, meets_number, room_field}
use Rattle.reading.proofs.Reading.field.Goals as goal

pub returns-in_err-v-clause-goes : goal.returns-in_err-v-clause-goes
returns-in_err-v-clause-goes c = search (rules, meets_not_passed, room_field)

pub overflow_add-v : goal.overflow_add-v
overflow_add-v c = omega (arith, c.in_ok-v.ensures.value, field_lt c.args.self.now.bytes.now c.args.self.now.at (field_width c.args.width), c.requires)

pub returns-clause-goes : goal.returns-clause-goes
returns-clause-goes c = meets_number (read_field_as (ap (λ v. v + c.args.plus) (sym c.in_ok-v.ensures.value)) read_done) (pushed _ c.in_ok-v.ensures.stands c.push.ensures)

pub returns-clause-within : goal.returns-clause-within
returns-clause-within c = omega (arith, c.in_ok-v.ensures.value, field_lt c.args.self.now.bytes.now c.args.self.now.at (field_width c.args.width))
