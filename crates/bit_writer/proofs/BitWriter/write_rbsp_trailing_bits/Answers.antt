-- `write_rbsp_trailing_bits` meets its contract: the stop bit and the zeros behind it are the bits of a shifted one.
use Rattle.std.proofs.Common.{sym, ◌∙◌, ap}
use Rattle.std.proofs.lemmas.Result.{err_from_is_err_and}
use Rattle.bits.specs.Writing.{trailing_bits}
use Rattle.bit_writer.proofs.Steps.{near, far, handed_on, trailing_is_field, out_of_range, in_range}
use Rattle.bit_writer.proofs.BitWriter.write_rbsp_trailing_bits.Goals as goal

pub returns-in_err-at : goal.returns-in_err-at
returns-in_err-at c = out_of_range _ (far c.in_err-at.ensures.1) (handed_on (err_from_is_err_and _ c.from_residual.ensures.1) c.in_err-at.ensures.0)

pub returns : goal.returns
returns c = in_range _ (near c.in_ok-at.ensures.1) (ap trailing_bits (sym c.in_ok-at.ensures.0) ∙ trailing_is_field c.in_ok-at.at) c.put.ensures
