-- The window starts at the place's byte or before it, and has eight of the bytes.
use Prim.Native.Nat.{◌/◌, ◌*◌, ◌-◌, ◌+◌, ◌≤◌}
use mathlib.Core.Path.{◌≡◌, ◌∙◌, refl}
use native.Mathlib.Omega.{arith}
use lib.ListN.{length, take, drop}
use Rattle.std.proofs.Common.{rules}
use Rattle.bits.specs.Bits.{field_at}
use Rattle.bits.specs.RestLaws.{rest_field}
use Rattle.bit_fields.specs.Window.{window_start}
use Rattle.bit_fields.proofs.Steps.{first_bits}
use Rattle.bit_fields.proofs.window_for.Goals as goal

pub returns : goal.returns
unfolding window_start
returns c =
    let s = c.args.bytes.now in
    let i = c.min-start.result in
    let e : i ≡ window_start (length s) (c.args.at / 8) = search rules in
    let n : i + 8 - i ≡ 8 = omega arith in
    let z : 8 * i + 0 ≡ 8 * i = omega arith in
    let f : (8 ≤ length (take 8 (drop i s))) × (c.in_ok-near.near ≡ field_at (take 8 (drop i s)) 0 64) = rw n at c.in_ok-near.ensures in
    let l : 8 ≤ length s = search rules in
    record {
      full = l;
      bits = f.1 ∙ first_bits (drop i s) 8 f.0 ∙ rw (rest_field s i 0 64, z, e) refl;
      before = rw e refl;
    }
