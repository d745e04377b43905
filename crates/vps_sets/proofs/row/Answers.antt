-- Each word in the table's order, and an empty mask is a row without output layer.
use Rattle.std.proofs.Common.{rules, refl, sym}
use Rattle.refusals.specs.Number.{no_output_layer}
use Rattle.vps_definition.specs.Words.{check}
use Rattle.vps_definition.specs.Vps.{row}
use Rattle.table_steps.specs.Laws.{goes_as}
use Rattle.vps_sets.proofs.row.Goals as goal

pub returns-in_err-mask : goal.returns-in_err-mask
unfolding row
returns-in_err-mask g c = let L = g.S.Steps.laws in λ i rows. search (rules, L.goes_stop)

pub returns-in_err-check : goal.returns-in_err-check
unfolding row
returns-in_err-check g c =
    let L = g.S.Steps.laws in
    let F = c.in_ok-mask.ensures in
    let C = goes_as L (λ k. check (sym F.1.held.some k) no_output_layer) c.in_err-check.ensures.goes in
    λ i rows. search (rules, L.goes_then, L.goes_stop, F, C)

pub returns : goal.returns
unfolding row
returns g c =
    let L = g.S.Steps.laws in
    let F = c.in_ok-mask.ensures in
    let C = goes_as L (λ k. check (sym F.1.held.some k) no_output_layer) c.in_ok-check.ensures.goes in
    λ i rows. (_, record { flags = F.0; is = refl; held = F.1.held; short = F.1.short }, L.goes_then _ _ F.2 (L.goes_then _ _ C L.goes_done))
