-- The two bytes are a field of 16 bits, and this one stands in it.
use native.Mathlib.Omega.{arith}
use lib.Pow.{pow_pos}
use Rattle.bit_fields.proofs.Steps.{one_shl, field_in_first}
use Rattle.bit_fields.proofs.short_field.Goals as goal

pub nonzero_rem-result : goal.nonzero_rem-result
nonzero_rem-result c = omega (arith, one_shl c.args.width 32 (omega arith), pow_pos c.args.width)

pub returns : goal.returns
returns c = rw (one_shl c.args.width 32 (omega arith), c.pair.ensures) (field_in_first c.args.bytes.now 16 c.args.skipped c.args.width (omega arith))
