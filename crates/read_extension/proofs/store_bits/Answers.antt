-- The bits of whole bytes, and those behind them.
use Rattle.std.proofs.Common.{List, ℕ, ◌≡◌, sym, ap, ◌∙◌, arith, length, ◌+◌, ◌*◌, ◌/◌, ◌++◌}
use Rattle.vps_definition.specs.Reading.{bits_at}
use Rattle.read_extension.proofs.Stored.{bits_at_append}
use Rattle.read_extension.proofs.store_bits.Goals as goal

pub returns : goal.returns
returns c l =
    let s : List ℕ = c.args.reader.now.bytes.now in
    let at : ℕ = c.args.reader.now.bit_pos in
    let front : List ℕ = c.split_at_mut-eights.result.0.now in
    let back : List ℕ = c.split_at_mut-eights.result.1.now in
    let parts = c.split_at_mut-eights.ensures in
    let whole : length c.args.numbers.now / 8 * 8 ≡ length front = sym parts.front_len in
    let both : length front + length back ≡ length c.args.numbers.now = omega (arith, parts.front_len, parts.back_len) in
    (λ k. c.store_eights.ensures k ++ c.store_each.ensures k)
    ∙ ap (λ (n : ℕ). bits_at s at (length front) ++ bits_at s (at + n) (length back)) whole
    ∙ bits_at_append s at (length front) (length back)
    ∙ ap (bits_at s at) both
