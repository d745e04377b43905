-- Two bytes are a field of 16 bits.
use Rattle.std.proofs.Common.{rules, ◌≡◌, ◌∙◌, ◌+◌, ◌*◌, get_or, arith}
use Rattle.bits.specs.FieldLaws.{field_lt}
use Rattle.bit_fields.proofs.Steps.{two_bytes}
use Rattle.bit_fields.proofs.pair.Goals as goal

pub overflow_cast-result : goal.overflow_cast-result
overflow_cast-result c = record { fits = omega (arith, c.first_bytes.ensures, field_lt c.args.bytes.now 0 16) }

pub returns-in-Some : goal.returns-in-Some
returns-in-Some c =
    let p : c.from.result ≡ get_or c.args.bytes.now 0 0 * 256 + get_or c.args.bytes.now 1 0 = search rules in
    p ∙ two_bytes c.args.bytes.now (λ k. (c.type_inv.bytes k).fits)
