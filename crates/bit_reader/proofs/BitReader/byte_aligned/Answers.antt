-- The two cases of the definition.
use Rattle.std.proofs.lemmas.Result.{err_from_is_err_and}
use Rattle.bits.specs.Reading.{ask_aligned}
use Rattle.bit_reader.proofs.Places.{near, far, handed_on, asks_not}
use Rattle.bit_reader.proofs.BitReader.byte_aligned.Goals as goal

pub returns-in_err-at : goal.returns-in_err-at
unfolding ask_aligned
returns-in_err-at c = asks_not (rw (far c.in_err-at.ensures.1)) (handed_on (err_from_is_err_and _ c.from_residual.ensures.1) c.in_err-at.ensures.0)

pub returns : goal.returns
unfolding ask_aligned
returns c = rw (near c.in_ok-at.ensures.1, c.in_ok-at.ensures.0)
