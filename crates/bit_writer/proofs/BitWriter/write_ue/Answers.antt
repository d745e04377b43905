-- `write_ue` meets its contract: a code is one field, of its number.
use Rattle.std.proofs.Common.{◌+◌, ◌*◌, ◌≡◌, refl, sym, ap, ◌∙◌, subst, Result, Err, IfSome}
use Rattle.std.proofs.Math.Dec.{ltb}
use Rattle.std.proofs.lemmas.Result.{err_from_is_err_and}
use Rattle.std.specs.Option.{ok_or}
use Rattle.refusals.specs.declared.refusal.Refusal.{Refusal}
use Rattle.refusals.specs.declared.refusal.Refusal.TheVariants.{NotWellFormed}
use Rattle.bits.specs.declared.CodeNumber.{CodeNumber}
use Rattle.bits.specs.Bits.{bits_of}
use Rattle.bits.specs.Code.{code_of}
use Rattle.bit_writer.proofs.Steps.{near, far_too, handed_on, coded, uncoded, out_of_range, in_range}
use Rattle.bit_writer.proofs.BitWriter.write_ue.Goals as goal

pub returns-in_err-place : goal.returns-in_err-place
returns-in_err-place c =
    out_of_range _ (far_too (ltb c.args.value 4294967295) c.in_err-place.ensures.1) (handed_on (err_from_is_err_and _ c.from_residual.ensures.1) c.in_err-place.ensures.0)

pub returns-in_err-code : goal.returns-in_err-code
returns-in_err-code c =
    let none = c.in_err-code.ensures.ok_part in
    let said : ◌≡◌ {A = Result CodeNumber Refusal} (Err c.in_err-code.field-0.0) (Err NotWellFormed) = c.in_err-code.ensures.value ∙ ap (λ o. ok_or o NotWellFormed) none in
    let refusal : c.in_err-code.field-0.0 ≡ NotWellFormed = cc in
    out_of_range _ (rw (uncoded c.of.ensures.some none) refl) (handed_on (err_from_is_err_and _ c.from_residual-in_err-code.ensures.1) refusal)

pub returns : goal.returns
returns c =
    let some = c.in_ok-code.ensures.ok_part in
    let code : bits_of (2 * c.in_ok-code.code.zeros + 1) c.in_ok-code.code.number ≡ code_of c.args.value =
    subst (λ r. IfSome r (λ c'. bits_of (2 * c'.zeros + 1) c'.number ≡ code_of c.args.value)) some c.of.ensures.code in
    in_range _ (rw (coded c.of.ensures.some some, near c.in_ok-place.ensures.1) refl) (sym code ∙ ap (λ n. bits_of n c.in_ok-code.code.number) (sym c.bits.ensures)) c.put.ensures
