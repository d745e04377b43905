-- The bit shifted down is the mask's bit j, and a mask has no bit from 64 on.
use Rattle.std.proofs.Common.{arith, refl, sym, ◌∙◌, le-ltb}
use Rattle.layer_sets.specs.Masks.{bit_of}
use Rattle.layer_sets.specs.MaskLaws.{bit_high}
use Rattle.layer_sets.proofs.has.Goals as goal

pub returns-then-j-lt-MOST_LAYERS : goal.returns-then-j-lt-MOST_LAYERS
unfolding bit_of
returns-then-j-lt-MOST_LAYERS c = refl

pub returns-else-j-lt-MOST_LAYERS : goal.returns-else-j-lt-MOST_LAYERS
returns-else-j-lt-MOST_LAYERS c = le-ltb _ _ c.if-j-lt-MOST_LAYERS.false ∙ sym (bit_high c.args.mask c.args.j (omega (arith, c.ranges.mask.fits)) c.if-j-lt-MOST_LAYERS.false)
