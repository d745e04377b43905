-- The code at the place, or its refusal.
use Rattle.std.proofs.Common.{refl}
use Rattle.std.proofs.lemmas.Result.{err_from_is_err_and}
use Rattle.bits.specs.Reading.{read_code}
use Rattle.bit_reader.proofs.Places.{near, far, handed_on, reads_to, reads_not}
use Rattle.bit_reader.proofs.BitReader.ue.Goals as goal

pub returns-in_err-place : goal.returns-in_err-place
unfolding read_code
returns-in_err-place c = reads_not _ (rw (far c.in_err-place.ensures.1)) (handed_on (err_from_is_err_and _ c.from_residual.ensures.1) c.in_err-place.ensures.0)

pub returns-in_err-value : goal.returns-in_err-value
unfolding read_code
returns-in_err-value c = reads_not _ (rw (← c.in_ok-place.ensures.0, ← c.in_ok-place.ensures.1, near c.in_ok-place.place.below, ← c.in_err-value.ensures)) (handed_on (err_from_is_err_and _ c.from_residual-in_err-value.ensures.1) refl)

pub returns : goal.returns
unfolding read_code
returns c = reads_to c.args.self.now (rw (← c.in_ok-place.ensures.0, ← c.in_ok-place.ensures.1, near c.in_ok-place.place.below, ← c.in_ok-value.ensures))
