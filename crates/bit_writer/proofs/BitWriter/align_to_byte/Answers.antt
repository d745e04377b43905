-- `align_to_byte` meets its contract: zeros are the bits of the number 0.
use Rattle.std.proofs.Common.{sym, ◌∙◌, ap}
use Rattle.std.proofs.lemmas.Result.{err_from_is_err_and}
use Rattle.bits.specs.Bits.{to_boundary}
use Rattle.bits.specs.FieldLaws.{bits_of_zero}
use Rattle.bits.specs.Writing.{alignment_bits}
use Rattle.bit_writer.proofs.Steps.{near, far, handed_on, out_of_range, in_range}
use Rattle.bit_writer.proofs.BitWriter.align_to_byte.Goals as goal

pub returns-in_err-at : goal.returns-in_err-at
returns-in_err-at c = out_of_range _ (far c.in_err-at.ensures.1) (handed_on (err_from_is_err_and _ c.from_residual.ensures.1) c.in_err-at.ensures.0)

pub returns : goal.returns
returns c = in_range _ (near c.in_ok-at.ensures.1) (ap alignment_bits (sym c.in_ok-at.ensures.0) ∙ sym (rw c.to_boundary.ensures.0 (bits_of_zero (to_boundary c.in_ok-at.at)))) c.put.ensures
