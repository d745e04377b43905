-- The code is the sink's.
use Rattle.std.specs.Option.{is_some}
use Rattle.std.proofs.Common.{◌≡◌, ◌∙◌, ◌<◌, ◌+◌, ◌*◌, rules, arith, ap, sym, subst, length, lt-ltb, le-ltb, lt_of_not-le, IfSome}
use Rattle.std.proofs.Math.Bool.{false≢true}
use Rattle.std.proofs.lemmas.Result.{err_from_is_err_and}
use Rattle.bits.specs.Bits.{bits_of}
use Rattle.bits.specs.Code.{code_of}
use Rattle.bits.specs.FieldLaws.{bits_length}
use Rattle.writing.proofs.Firsts.{handed_on}
use Rattle.writing.proofs.Writing.push_code.Goals as goal

pub returns-in_err-code : goal.returns-in_err-code
returns-in_err-code c =
    let none = c.in_err-code.ensures.ok_part in
    let given = handed_on c.from_residual.result none c.in_err-code.ensures.value (err_from_is_err_and _ c.from_residual.ensures.1) in
    let high : 4294967295 < c.args.value + 1 = omega (arith, lt_of_not-le (λ h. false≢true (sym (ap is_some none) ∙ c.of.ensures.some.1 h))) in
    rw (le-ltb c.args.value 4294967295 (omega (arith, high))) (search (rules, given))

pub returns : goal.returns
returns c =
    let some = c.in_ok-code.ensures.ok_part in
    let low : c.args.value < 4294967295 = c.of.ensures.some.0 (ap is_some some) in
    let code : bits_of (2 * c.in_ok-code.code.zeros + 1) c.in_ok-code.code.number ≡ code_of c.args.value = subst (λ r. IfSome r (λ c'. bits_of (2 * c'.zeros + 1) c'.number ≡ code_of c.args.value)) some c.of.ensures.code in
    let long : c.bits.result ≡ length (code_of c.args.value) = c.bits.ensures ∙ sym (bits_length _ c.in_ok-code.code.number) ∙ ap length code in
    rw (lt-ltb c.args.value 4294967295 low) (c.push.ensures (code_of c.args.value) (λ f. long) (λ x y p. (search (rules, p), λ f. search (rules, p, low))))
