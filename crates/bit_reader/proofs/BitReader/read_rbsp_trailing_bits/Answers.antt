-- The cases of the definition, one behind another; a bit that is not 0 is 1.
use Rattle.std.proofs.Common.{◌+◌, ◌*◌, ◌-◌, ◌%◌, ◌≡◌, length, refl, sym, ◌∙◌, arith, lt-ltb, le-ltb, ne_eqb}
use Rattle.std.proofs.lemmas.Result.{err_from_is_err_and}
use Rattle.bits.specs.Bits.{bit_at, field_at}
use Rattle.bits.specs.Reading.{trailing_at, read_trailing}
use Rattle.bit_reader.proofs.Places.{near, far, handed_on, moves_to, moves_not}
use Rattle.bit_reader.proofs.Steps.{width_is, behind_stop, bit_one}
use Rattle.bit_reader.proofs.BitReader.read_rbsp_trailing_bits.Goals as goal

pub returns-in_err-at : goal.returns-in_err-at
unfolding read_trailing
returns-in_err-at c = moves_not _ (rw (far c.in_err-at.ensures.1)) (handed_on (err_from_is_err_and _ c.from_residual.ensures.1) c.in_err-at.ensures.0)

pub returns-then-self-at : goal.returns-then-self-at
unfolding read_trailing trailing_at
returns-then-self-at c =
    let s = c.args.self.now.bytes.now in
    let at = c.in_ok-at.at in
    moves_not _ (rw (near c.in_ok-at.ensures.1, ← c.in_ok-at.ensures.0, le-ltb at (8 * length s) (omega (arith, c.if-self-at.true)))) refl

pub returns-then-bit_at-eq0 : goal.returns-then-bit_at-eq0
unfolding read_trailing trailing_at
returns-then-bit_at-eq0 c =
    let s = c.args.self.now.bytes.now in
    let at = c.in_ok-at.at in
    let b : bit_at s at ≡ 0 = sym c.bit_at.ensures ∙ c.if-bit_at-eq0.true in
    moves_not _ (rw (near c.in_ok-at.ensures.1, ← c.in_ok-at.ensures.0, lt-ltb at (8 * length s) (omega (arith, c.if-self-at.false)), b)) refl

pub returns-then-field_at-ne0 : goal.returns-then-field_at-ne0
unfolding read_trailing trailing_at
returns-then-field_at-ne0 c =
    let s = c.args.self.now.bytes.now in
    let at = c.in_ok-at.at in
    let z : field_at s (at + 1) (7 - at % 8) ≡ 0 → ⊥ = λ e. c.if-field_at-ne0.true (c.field_at.ensures ∙ rw (width_is (7 - at % 8) (omega arith)) e) in
    moves_not _ (rw (near c.in_ok-at.ensures.1, ← c.in_ok-at.ensures.0, lt-ltb at (8 * length s) (omega (arith, c.if-self-at.false)), bit_one s at (λ e. c.if-bit_at-eq0.false (c.bit_at.ensures ∙ e)), behind_stop at, ne_eqb (field_at s (at + 1) (7 - at % 8)) 0 z)) refl

pub returns : goal.returns
unfolding read_trailing trailing_at
returns c =
    let s = c.args.self.now.bytes.now in
    let at = c.in_ok-at.at in
    let z : field_at s (at + 1) (7 - at % 8) ≡ 0 = rw (width_is (7 - at % 8) (omega arith)) at (sym c.field_at.ensures) ∙ c.if-field_at-ne0.false in
    moves_to c.args.self.now (rw (near c.in_ok-at.ensures.1, ← c.in_ok-at.ensures.0, lt-ltb at (8 * length s) (omega (arith, c.if-self-at.false)), bit_one s at (λ e. c.if-bit_at-eq0.false (c.bit_at.ensures ∙ e)), behind_stop at, z))
