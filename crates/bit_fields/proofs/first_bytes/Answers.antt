-- Each turn puts one byte behind those so far.
use Rattle.std.proofs.Common.{◌≡◌, get_or, refl, arith, rules}
use Rattle.bits.specs.Bits.{field_at}
use Rattle.bit_fields.proofs.Steps.{byte_more, room_for_byte}
use Rattle.bit_fields.proofs.first_bytes.Goals as goal

pub loop-i-init : goal.loop-i-init
unfolding field_at
loop-i-init c = refl

pub overflow_mul-number : goal.overflow_mul-number
overflow_mul-number c = omega (arith, c.loop-i.invariant, room_for_byte c.args.bytes.now c.loop-i.i (omega arith))

pub overflow_add-number : goal.overflow_add-number
overflow_add-number c = omega (arith, c.loop-i.invariant, room_for_byte c.args.bytes.now c.loop-i.i (omega arith))

pub loop-i-preserved : goal.loop-i-preserved
loop-i-preserved c =
    let i = c.loop-i.i in
    let e : c.unwrap_or-byte.result ≡ get_or c.args.bytes.now i 0 = search rules in
    byte_more c.args.bytes.now i c.loop-i.invariant e (c.type_inv.bytes i).fits
