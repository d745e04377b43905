-- A byte that is not 0 has a one.
use Rattle.std.proofs.Common.{◌∙◌, rules, tests}
use Rattle.std.specs.Prelude.{◌==◌, not}
use Rattle.std.proofs.lemmas.Iterator.{YieldsList-from_slice}
use Rattle.std.proofs.lemmas.Iterator.Search.{any_from_yields_List}
use Rattle.bit_reader.proofs.Steps.{any_one}
use Rattle.bit_reader.proofs.is_any_set.Goals as goal

pub returns : goal.returns
returns c =
    any_from_yields_List (λ b. not (b == 0)) _ _ _ c.any.ensures.ran (YieldsList-from_slice c.args.bytes.now cc) (λ x b q k. search (rules, tests))
    ∙ any_one c.args.bytes.now (λ k. (c.type_inv.bytes k).fits)
