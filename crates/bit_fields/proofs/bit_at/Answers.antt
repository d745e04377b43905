-- The bit is its byte, shifted by the bits behind it, modulo 2.
use Rattle.std.proofs.Common.{◌≡◌, ◌/◌, get_or, refl, rules}
use Rattle.bits.specs.Bits.{bit_at}
use Rattle.bit_fields.proofs.bit_at.Goals as goal

pub returns : goal.returns
unfolding bit_at
returns c =
    let e : c.unwrap_or-byte.result ≡ get_or c.args.bytes.now (c.args.at / 8) 0 = search rules in
    rw e refl
