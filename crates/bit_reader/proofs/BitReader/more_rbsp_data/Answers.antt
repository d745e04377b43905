-- The two cases of the definition.
use Rattle.std.proofs.lemmas.Result.{err_from_is_err_and}
use Rattle.bits.specs.Reading.{ask_more_data}
use Rattle.bit_reader.proofs.Places.{near, far, handed_on, asks_not}
use Rattle.bit_reader.proofs.BitReader.more_rbsp_data.Goals as goal

pub returns-in_err-place : goal.returns-in_err-place
unfolding ask_more_data
returns-in_err-place c = asks_not (rw (far c.in_err-place.ensures.1)) (handed_on (err_from_is_err_and _ c.from_residual.ensures.1) c.in_err-place.ensures.0)

pub returns : goal.returns
unfolding ask_more_data
returns c = rw (← c.in_ok-place.ensures.0, ← c.in_ok-place.ensures.1, near c.in_ok-place.place.below, c.more_data.ensures)
