-- Each word in the table's order.
use Rattle.std.proofs.Common.{rules, refl}
use Rattle.vps_definition.specs.Vps.{layer}
use Rattle.vps_layers.proofs.Layer.of.Goals as goal

pub returns-in_err-id : goal.returns-in_err-id
unfolding layer
returns-in_err-id g c = let L = g.S.Steps.laws in λ refs. search (rules, L.goes_then, L.goes_stop)

pub returns-in_err-check : goal.returns-in_err-check
unfolding layer
returns-in_err-check g c = let L = g.S.Steps.laws in λ refs. search (rules, L.goes_then, L.goes_stop)

pub returns-in_err-independent : goal.returns-in_err-independent
unfolding layer
returns-in_err-independent g c = let L = g.S.Steps.laws in λ refs. search (rules, L.goes_then, L.goes_stop)

pub returns-in_err-direct : goal.returns-in_err-direct
unfolding layer
returns-in_err-direct g c = let L = g.S.Steps.laws in λ refs. search (rules, L.goes_then, L.goes_stop)

pub returns : goal.returns
unfolding layer
returns g c =
    let L = g.S.Steps.laws in
    let F = c.in_ok-direct.ensures in
    λ refs. (
      _,
      record { flags = F.0; is = refl; held = F.1.held; short = F.1.short },
      search (rules, L.goes_then, L.goes_stop, L.goes_done, F),
    )
