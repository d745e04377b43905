-- Each turn stores the bits of a byte more.
use Rattle.std.proofs.Common.{List, ℕ, ◌≡◌, refl, ap, ◌∙◌, arith, length, ◌+◌, ◌-◌, ◌*◌}
use Rattle.std.proofs.lemmas.List.Edits.{sets}
use Rattle.bits.specs.Bits.{bits_of}
use Rattle.vps_definition.specs.Reading.{bits_at}
use Rattle.vps_laws.specs.Extension.{bits_at_length}
use Rattle.lists.specs.Stored.{written_part}
use Rattle.read_extension.proofs.Stored.{bits_at_field, stored_more, stored_all}
use Rattle.read_extension.proofs.store_eights.Goals as goal

pub loop-j-init : goal.loop-j-init
unfolding bits_at
loop-j-init c = refl

pub loop-j-preserved : goal.loop-j-preserved
loop-j-preserved c =
    let s : List ℕ = c.args.reader.now.bytes.now in
    let i : ℕ = 8 * c.loop-j.j in
    let x = c.copy_from_slice.ensures.after ∙ c.bits_of.ensures ∙ ap (bits_of 8) c.field_at-byte.ensures ∙ bits_at_field s (c.args.reader.now.bit_pos + i) 8 in
    let long : length c.copy_from_slice.new.self ≡ i + 8 - i = ap length x ∙ bits_at_length s (c.args.reader.now.bit_pos + i) 8 ∙ omega arith in
    let next : i + 8 ≡ 8 * (c.loop-j.j + 1) = omega arith in
    written_part c.loop-j.numbers c.copy_from_slice.new.self i long (omega (arith, c.loop-j.auto.numbers, c.loop-j-test.true))
    ∙ (λ k. sets (c.loop-j.invariant k) i (x k))
    ∙ stored_more c.args.numbers.now s c.args.reader.now.bit_pos i 8
    ∙ ap (λ (n : ℕ). sets c.args.numbers.now 0 (bits_at s c.args.reader.now.bit_pos n)) next

pub returns : goal.returns
returns c = c.loop-j.invariant ∙ stored_all _ _ _ (omega (arith, c.loop-j-test.false, c.requires))
