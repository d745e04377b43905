-- A shifted one is the power that the lowest bits lie below.
use mathlib.Core.Path.{refl}
use native.Mathlib.Omega.{arith}
use lib.Pow.{pow_pos}
use Rattle.bit_sink.proofs.Steps.{one_shifted, low_all}
use Rattle.bit_sink.proofs.joined.low_bits.Goals as goal

pub returns-then-width-ge64 : goal.returns-then-width-ge64
returns-then-width-ge64 c = low_all c.args.v c.args.width (omega arith) c.if-width-ge64.true

pub nonzero_rem-result : goal.nonzero_rem-result
nonzero_rem-result c = omega (arith, one_shifted c.args.width c.if-width-ge64.false, pow_pos c.args.width)

pub returns : goal.returns
returns c = rw (one_shifted c.args.width c.if-width-ge64.false) refl
