-- The two cases of the definition.
use Rattle.std.proofs.lemmas.Result.{err_from_is_err_and}
use Rattle.bits.specs.Reading.{read_alignment}
use Rattle.bit_reader.proofs.Places.{near, far, handed_on, moves_to, moves_not}
use Rattle.bit_reader.proofs.BitReader.align_to_byte.Goals as goal

pub returns-in_err-at : goal.returns-in_err-at
unfolding read_alignment
returns-in_err-at c = moves_not _ (rw (far c.in_err-at.ensures.1)) (handed_on (err_from_is_err_and _ c.from_residual.ensures.1) c.in_err-at.ensures.0)

pub returns : goal.returns
unfolding read_alignment
returns c = moves_to c.args.self.now (rw (c.to_boundary.ensures.0, c.in_ok-at.ensures.0, near c.in_ok-at.ensures.1))
