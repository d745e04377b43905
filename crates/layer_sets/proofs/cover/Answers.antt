-- `layer_sets::cover` meets its contract: behind turn k the mask has what its layers up to k reach.
use mathlib.Core.Path.{sym, ◌∙◌}
use Rattle.layer_sets.specs.Closed.{cover_none, cover_more, cover_same}
use borrow.Author.Rules.{rules}
use Rattle.layer_sets.proofs.cover.Goals as goal
use Rattle.layer_sets.proofs.cover.Goals.{then-has, else-has}

pub loop-k-init : goal.loop-k-init
loop-k-init c = cover_none _ _ (search rules)

pub loop-k-preserved : goal.loop-k-preserved
loop-k-preserved c =
    let has = c.has.ensures in
    elim c.if-has.branch [
      | then-has w ↦ w.all-is ∙ w.union-all.ensures ∙ cover_more _ _ _ _ (sym has ∙ w.if-has.true) c.loop-k.invariant
      | else-has w ↦ w.all-is ∙ cover_same _ _ _ _ (sym has ∙ w.if-has.false) c.loop-k.invariant
    ]
