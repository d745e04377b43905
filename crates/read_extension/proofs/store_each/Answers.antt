-- Each turn stores one bit more.
use Rattle.std.proofs.Common.{refl, ◌∙◌, arith, set}
use Rattle.vps_definition.specs.Reading.{bits_at}
use Rattle.read_extension.proofs.Stored.{stored_more, stored_all}
use Rattle.read_extension.proofs.store_each.Goals as goal

pub loop-j-init : goal.loop-j-init
unfolding bits_at
loop-j-init c = refl

pub loop-j-preserved : goal.loop-j-preserved
unfolding bits_at
loop-j-preserved c = (λ k. set (c.loop-j.invariant k) c.loop-j.j (c.bit_at.ensures k)) ∙ stored_more c.args.numbers.now c.args.reader.now.bytes.now c.args.reader.now.bit_pos c.loop-j.j 1

pub returns : goal.returns
returns c = c.loop-j.invariant ∙ stored_all _ _ _ (omega (arith, c.loop-j-test.false))
