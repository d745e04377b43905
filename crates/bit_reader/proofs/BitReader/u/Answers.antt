-- The cases of the definition; a width of 32 at the most is read whole.
use Rattle.std.proofs.Common.{refl, le-leb}
use Rattle.std.proofs.Math.Bool.{and-false}
use Rattle.std.proofs.Math.Dec.{leb}
use Rattle.std.proofs.lemmas.Bool.{lt-leb}
use Rattle.std.proofs.lemmas.Result.{err_from_is_err_and}
use Rattle.bits.specs.Reading.{read_field}
use Rattle.bit_reader.proofs.Places.{near, far, handed_on, reads_to, reads_not}
use Rattle.bit_reader.proofs.Steps.{width_is}
use Rattle.bit_reader.proofs.BitReader.u.Goals as goal

pub returns-in_err-at : goal.returns-in_err-at
unfolding read_field
returns-in_err-at c = reads_not _ (rw (far c.in_err-at.ensures.1, and-false (leb c.args.width 32))) (handed_on (err_from_is_err_and _ c.from_residual.ensures.1) c.in_err-at.ensures.0)

pub returns-then-width-gt32 : goal.returns-then-width-gt32
unfolding read_field
returns-then-width-gt32 c = reads_not _ (rw (lt-leb c.args.width 32 c.if-width-gt32.true)) refl

pub returns : goal.returns
unfolding read_field
returns c =
    reads_to c.args.self.now
    (rw (le-leb c.args.width 32 c.if-width-gt32.false, near c.in_ok-at.ensures.1, c.field_at.ensures, width_is c.args.width c.if-width-gt32.false, c.in_ok-at.ensures.0))
