-- `with_bit` meets its contract: it is `with_bit` at the weight, and `Fine` says that no step of it leaves its type.
use Rattle.std.proofs.Common.{arith}
use Rattle.bit_writer.proofs.Steps.{Fine, fine}
use Rattle.bit_writer.proofs.with_bit.Goals as goal

pub nonzero_div-result : goal.nonzero_div-result
nonzero_div-result c = let f : Fine c.args.byte c.args.bit c.weight_at-m.result = fine c.args.at c.weight_at-m.ensures c.ranges.byte.fits c.requires in omega arith

pub overflow_mul-result : goal.overflow_mul-result
overflow_mul-result c = let f : Fine c.args.byte c.args.bit c.weight_at-m.result = fine c.args.at c.weight_at-m.ensures c.ranges.byte.fits c.requires in omega arith

pub overflow_sub-result : goal.overflow_sub-result
overflow_sub-result c = let f : Fine c.args.byte c.args.bit c.weight_at-m.result = fine c.args.at c.weight_at-m.ensures c.ranges.byte.fits c.requires in omega arith

pub overflow_mul-result-2 : goal.overflow_mul-result-2
overflow_mul-result-2 c = let f : Fine c.args.byte c.args.bit c.weight_at-m.result = fine c.args.at c.weight_at-m.ensures c.ranges.byte.fits c.requires in omega arith

pub overflow_add-result : goal.overflow_add-result
overflow_add-result c = let f : Fine c.args.byte c.args.bit c.weight_at-m.result = fine c.args.at c.weight_at-m.ensures c.ranges.byte.fits c.requires in omega arith

pub overflow_cast-result : goal.overflow_cast-result
overflow_cast-result c = let f : Fine c.args.byte c.args.bit c.weight_at-m.result = fine c.args.at c.weight_at-m.ensures c.ranges.byte.fits c.requires in omega arith

pub returns : goal.returns
returns c = rw c.weight_at-m.ensures
