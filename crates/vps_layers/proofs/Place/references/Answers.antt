-- The table's two branches are the code's, and an independent layer has no flags.
use Rattle.std.proofs.Common.{rules, arith, [], ne_eqb}
use Rattle.layer_sets.specs.Flags.{held_none}
use Rattle.vps_definition.specs.Vps.{independent_layer}
use Rattle.table_steps.specs.Laws.{goes_no}
use Rattle.vps_layers.proofs.Place.references.Goals as goal

pub returns-in_err-infer : goal.returns-in_err-infer
unfolding independent_layer
returns-in_err-infer g c =
    let L = g.S.Steps.laws in
    let e = ne_eqb _ _ c.if-independent-eq0.false in
    search (rules, e, L, goes_no, L.goes_stop)

pub returns : goal.returns
unfolding independent_layer
returns g c =
    let L = g.S.Steps.laws in
    ([], record { held = held_none; short = omega arith }, goes_no L (ne_eqb _ _ c.if-independent-eq0.false) (L.goes_then _ _ c.in_ok-infer.ensures.goes L.goes_done))
