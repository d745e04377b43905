-- Shifts are powers of two.
use mathlib.Core.Path.{refl}
use native.Mathlib.Nat.{mod-lt, lt_of_lt_of_le}
use native.Mathlib.Omega.{arith}
use lib.Pow.{pow_pos, pow_mono}
use Rattle.bit_fields.proofs.Steps.{one_shl}
use Rattle.bit_fields.proofs.field_in.Goals as goal

pub nonzero_rem-result : goal.nonzero_rem-result
nonzero_rem-result c = omega (arith, one_shl c.args.width 64 (omega arith), pow_pos c.args.width)

pub overflow_cast-result-3 : goal.overflow_cast-result-3
overflow_cast-result-3 c = rw (one_shl c.args.width 64 (omega arith)) (record { fits = lt_of_lt_of_le (mod-lt _ (pow_pos c.args.width)) (pow_mono c.requires.1) })

pub returns : goal.returns
returns c = rw (one_shl c.args.width 64 (omega arith)) refl
