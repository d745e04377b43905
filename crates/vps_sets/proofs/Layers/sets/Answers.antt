-- The table's branches are the code's, and the counts follow from the mode.
use Rattle.std.proofs.Common.{eq-eqb, ne_eqb}
use Rattle.vps_definition.specs.OutputLayerSets.Sets.{each_layer, up_to}
use Rattle.layer_sets.specs.Counted.{counted_each_layer, counted_up_to}
use Rattle.vps_sets.specs.Sets.{gives_yes, gives_no, chosen_counted}
use Rattle.vps_sets.proofs.Layers.sets.Goals as goal

pub returns-then-each-ne0 : goal.returns-then-each-ne0
returns-then-each-ne0 g c = λ refs K. gives_no g.S.Steps.laws _ _ _ _ _ _ (ne_eqb _ _ c.if-each-ne0.true) (c.no_rows.ensures _ refs each_layer (counted_each_layer _ refs))

pub returns-then-mode-eq2 : goal.returns-then-mode-eq2
returns-then-mode-eq2 g c =
    let L = g.S.Steps.laws in
    λ refs K.
    gives_yes L _ _ _ _ _ _ (eq-eqb _ _ c.if-each-ne0.false)
    (gives_yes L _ _ _ _ _ _ (eq-eqb _ _ c.if-mode-eq2.true) (chosen_counted L _ _ _ K c.chosen.ensures))

pub returns-else-mode-eq2 : goal.returns-else-mode-eq2
returns-else-mode-eq2 g c =
    let L = g.S.Steps.laws in
    λ refs K.
    gives_yes L _ _ _ _ _ _ (eq-eqb _ _ c.if-each-ne0.false)
    (gives_no L _ _ _ _ _ _ (ne_eqb _ _ c.if-mode-eq2.false) (c.no_rows-else-mode-eq2.ensures _ refs up_to (counted_up_to _ refs K.some)))
