-- Each word in the table's order.
use Rattle.std.proofs.Common.{rules, refl}
use Rattle.vps_definition.specs.Vps.{direct_reference}
use Rattle.vps_layers.proofs.direct_reference.Goals as goal

pub returns-in_err-flag-clause-goes : goal.returns-in_err-flag-clause-goes
unfolding direct_reference
returns-in_err-flag-clause-goes g c = let L = g.S.Steps.laws in λ j flags. search (rules, L.goes_then, L.goes_stop)

pub returns-in_err-u_if-clause-goes : goal.returns-in_err-u_if-clause-goes
unfolding direct_reference
returns-in_err-u_if-clause-goes g c = let L = g.S.Steps.laws in λ j flags. search (rules, L.goes_then, L.goes_stop)

pub returns-clause-goes : goal.returns-clause-goes
unfolding direct_reference
returns-clause-goes g c = let L = g.S.Steps.laws in λ j flags. (_, refl, search (rules, L.goes_then, L.goes_stop, L.goes_done))
