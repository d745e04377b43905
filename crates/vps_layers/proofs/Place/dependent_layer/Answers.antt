-- Each word in the table's order, and an empty mask is a layer without reference.
use Rattle.std.proofs.Common.{rules, sym}
use Rattle.refusals.specs.Number.{no_direct_reference}
use Rattle.vps_definition.specs.Words.{check}
use Rattle.vps_definition.specs.Vps.{dependent_layer}
use Rattle.table_steps.specs.Laws.{goes_as}
use Rattle.vps_layers.proofs.Place.dependent_layer.Goals as goal

pub returns-in_err-present : goal.returns-in_err-present
unfolding dependent_layer
returns-in_err-present g c = let L = g.S.Steps.laws in search (rules, L.goes_stop)

pub returns-in_err-mask : goal.returns-in_err-mask
unfolding dependent_layer
returns-in_err-mask g c = let L = g.S.Steps.laws in search (rules, L.goes_then, L.goes_stop)

pub returns-in_err-check : goal.returns-in_err-check
unfolding dependent_layer
returns-in_err-check g c =
    let L = g.S.Steps.laws in
    let F = c.in_ok-mask.ensures in
    let C = goes_as L (λ k. check (sym F.1.held.some k) no_direct_reference) c.in_err-check.ensures.goes in
    search (rules, L.goes_then, L.goes_stop, F, C)

pub returns : goal.returns
unfolding dependent_layer
returns g c =
    let L = g.S.Steps.laws in
    let F = c.in_ok-mask.ensures in
    let C = goes_as L (λ k. check (sym F.1.held.some k) no_direct_reference) c.in_ok-check.ensures.goes in
    (F.0, F.1, L.goes_then _ _ c.in_ok-present.ensures.goes (L.goes_then _ _ F.2 (L.goes_then _ _ C L.goes_done)))
