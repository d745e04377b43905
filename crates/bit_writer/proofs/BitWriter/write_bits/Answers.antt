-- `write_bits` meets its contract: its tests are those of `field_good`.
use Rattle.std.proofs.Common.{◌^◌, ◌&&◌, refl, arith, le-leb, lt-ltb, le-ltb}
use Rattle.std.proofs.Math.Dec.{leb, ltb}
use Rattle.std.proofs.lemmas.Bool.{lt-leb}
use Rattle.std.proofs.lemmas.Result.{err_from_is_err_and}
use Rattle.bit_writer.proofs.Steps.{near, far_too, handed_on, fits_width, over_width, out_of_range, in_range}
use Rattle.bit_writer.proofs.BitWriter.write_bits.Goals as goal

pub returns-in_err-place : goal.returns-in_err-place
returns-in_err-place c =
    let a = c.args in
    out_of_range _ (far_too (leb a.width 32 && ltb a.value (2 ^ a.width)) c.in_err-place.ensures.1) (handed_on (err_from_is_err_and _ c.from_residual.ensures.1) c.in_err-place.ensures.0)

pub returns-then-width-gt32 : goal.returns-then-width-gt32
returns-then-width-gt32 c = out_of_range _ (rw (lt-leb c.args.width 32 c.if-width-gt32.true) refl) refl

pub returns-then-value-width-gt0 : goal.returns-then-value-width-gt0
returns-then-value-width-gt0 c =
    let a = c.args in
    out_of_range _ (rw (le-leb a.width 32 (omega arith), le-ltb a.value (2 ^ a.width) (over_width a.value a.width c.if-value-width-gt0.true)) refl) refl

pub returns : goal.returns
returns c =
    let a = c.args in
    in_range _
    (rw (le-leb a.width 32 (omega arith), lt-ltb a.value (2 ^ a.width) (fits_width a.value a.width c.if-value-width-gt0.false), near c.in_ok-place.ensures.1) refl)
    refl
    c.put.ensures
