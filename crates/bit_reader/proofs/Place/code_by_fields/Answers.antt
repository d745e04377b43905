-- A one among the next 32 bits ends the prefix, and the code is whole or cut; without one it is too long or cut.
use Prim.Native.Nat.{◌+◌}
use mathlib.Core.Path.{sym}
use native.Mathlib.Omega.{arith}
use borrow.Author.Tests.{ltb-true, ltb-false}
use lib.Count.{count_leading_zeros}
use Rattle.bit_reader.proofs.Steps.{width_is, no_code, zeros_cut, first_one}
use Rattle.bit_reader.proofs.Place.code_by_fields.Goals as goal

pub returns-then-has_bit : goal.returns-then-has_bit
returns-then-has_bit c = sym (no_code _ _ c.field_at-zeros.ensures c.if-zeros-eq32.true (ltb-true _ _ (sym c.if-has_bit.ensures)))

pub returns-then-zeros-eq32 : goal.returns-then-zeros-eq32
returns-then-zeros-eq32 c = sym (zeros_cut _ _ c.field_at-zeros.ensures c.if-zeros-eq32.true (ltb-false _ _ (sym c.if-has_bit.ensures)))

pub returns-then-not-has_bit : goal.returns-then-not-has_bit
returns-then-not-has_bit c =
    let g = first_one _ _ _ c.field_at-zeros.ensures c.if-zeros-eq32.false in
    sym (g.cut (ltb-false _ _ (sym c.if-not-has_bit.ensures)))

pub overflow_sub-result : goal.overflow_sub-result
overflow_sub-result c =
    let g = first_one _ _ _ c.field_at-zeros.ensures c.if-zeros-eq32.false in
    rw (c.field_at-code_num.ensures, width_is (count_leading_zeros 32 c.field_at-zeros.result + 1) (omega (arith, g.short))) g.some

pub returns : goal.returns
returns c =
    let g = first_one _ _ _ c.field_at-zeros.ensures c.if-zeros-eq32.false in
    rw (c.field_at-code_num.ensures, width_is (count_leading_zeros 32 c.field_at-zeros.result + 1) (omega (arith, g.short))) (sym (g.whole (ltb-true _ _ (sym c.if-not-has_bit.ensures))))
