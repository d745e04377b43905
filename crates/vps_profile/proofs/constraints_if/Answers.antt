-- A length 0, or the constraints.
use borrow.Author.Tests.{eq-eqb, ne_eqb}
use Rattle.std.proofs.Common.{rules}
use Rattle.table_steps.specs.Laws.{goes_yes, goes_no}
use Rattle.vps_definition.specs.Syntax.{◌>>=◌}
use Rattle.vps_definition.specs.Words.{inferred, nothing}
use Rattle.vps_definition.specs.ProfileTierLevel.{constraints_if}
use Rattle.vps_profile.proofs.constraints_if.Goals as goal

pub returns-in_err-infer : goal.returns-in_err-infer
unfolding constraints_if inferred nothing ◌>>=◌
returns-in_err-infer g c = let L = g.S.Steps.laws in let G = L.goes_stop (inferred 0) (λ v. nothing) c.in_err-infer.ensures.goes in goes_yes L (eq-eqb _ _ c.if-present-eq0.true) (search (rules, G))

pub returns-then-present-eq0 : goal.returns-then-present-eq0
unfolding constraints_if inferred nothing ◌>>=◌
returns-then-present-eq0 g c = let L = g.S.Steps.laws in goes_yes L (eq-eqb _ _ c.if-present-eq0.true) (L.goes_then (inferred 0) (λ v. nothing) c.in_ok-infer.ensures.goes L.goes_done)

pub returns : goal.returns
unfolding constraints_if
returns g c = goes_no g.S.Steps.laws (ne_eqb _ _ c.if-present-eq0.false) c.constraints.ensures
