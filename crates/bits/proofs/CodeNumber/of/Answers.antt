-- In twice the prefix and one bits the number is the code.
use Rattle.std.proofs.Common.{sym, arith}
use Rattle.bits.specs.CodeLaws.{code_is_field}
use Rattle.bits.proofs.CodeNumber.of.Goals as goal

pub returns-clause-code : goal.returns-clause-code
returns-clause-code c =
    let e = c.in_ok-number.ensures in
    rw (e.1) (sym (code_is_field c.args.value (omega (arith, e.0))))
