-- The length is inferred from the bits ahead, and all bits follow in the record's order.
use Rattle.std.proofs.Common.{rules, arith, ap, ◌+◌}
use Rattle.bits.specs.FieldLaws.{field_lt}
use Rattle.vps_definition.specs.ProfileTierLevel.{constraint_bit}
use Rattle.reading.specs.Laws.{laws}
use Rattle.reading.specs.Steps.{meets_shut}
use Rattle.reading.specs.Constraints.{meets_constraints, room_constraints}
use Rattle.reading.proofs.ReadingParts.constraints.Goals as goal

pub returns-in_err-reach : goal.returns-in_err-reach
returns-in_err-reach c = search (rules, meets_shut, room_constraints)

pub overflow_add-length : goal.overflow_add-length
overflow_add-length c = omega (arith, c.field_at-length.ensures, field_lt c.args.self.now.bytes.now (c.args.self.now.at + 69) 8)

pub returns-in_err-infer : goal.returns-in_err-infer
returns-in_err-infer c =
    let M = meets_constraints {v = 77 + c.field_at-length.result} (λ h. ap (λ x. 77 + x) c.field_at-length.ensures) (laws.goes_stop _ _ c.in_err-infer.ensures.goes) in
    search (rules, M)

pub returns : goal.returns
unfolding constraint_bit
returns c =
    meets_constraints {v = 77 + c.field_at-length.result} (λ h. ap (λ x. 77 + x) c.field_at-length.ensures)
    (laws.goes_then _ _ c.in_ok-infer.ensures.goes (rw c.in_ok-infer.ensures.same c.fields.ensures))
