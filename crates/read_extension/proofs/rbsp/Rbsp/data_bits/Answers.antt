-- While the place lies before the last one-bit, all bits up to it are read.
use Rattle.std.proofs.Common.{sym, ◌∙◌, arith, ltb-true, ltb-false}
use Rattle.read_extension.proofs.Last.{more_by_place, data_by_place}
use Rattle.read_extension.proofs.rbsp.Rbsp.data_bits.Goals as goal

pub overflow_sub-result : goal.overflow_sub-result
overflow_sub-result c = omega (arith, ltb-true c.args.at c.in-Some.last (more_by_place _ c.args.self.last c.in-Some.is c.args.at ∙ sym c.more_data.ensures ∙ c.if-more_data.true))

pub returns-in-Some : goal.returns-in-Some
returns-in-Some c = data_by_place _ c.args.self.last c.in-Some.is c.args.at

pub returns-in_default : goal.returns-in_default
returns-in_default c =
    let after = ltb-false c.args.at c.in-Some.last (more_by_place _ c.args.self.last c.in-Some.is c.args.at ∙ sym c.more_data.ensures ∙ c.if-more_data.false) in
    omega (arith, after, data_by_place _ c.args.self.last c.in-Some.is c.args.at)

pub returns-in_default-2 : goal.returns-in_default-2
returns-in_default-2 c = data_by_place _ c.args.self.last c.in_default.is c.args.at
