-- `put_page` meets its contract: behind turn i the lines of the first i sets stand.
use Rattle.std.proofs.Common.{arith, ap, ◌∙◌, get_or}
use Rattle.texts.specs.Adds.{adds_none, adds_same, adds_then}
use Rattle.vps_definition.specs.Views.{refs_of, sets_of}
use Rattle.layer_page.specs.Page.{set_lines, page_of}
use Rattle.layer_page.specs.Masks.{line_more}
use Rattle.layer_page.proofs.put_page.Goals as goal

pub loop-i-init : goal.loop-i-init
unfolding set_lines
loop-i-init c = (omega arith, adds_none _)

pub loop-i-preserved : goal.loop-i-preserved
loop-i-preserved c = (
  omega (arith, c.loop-i-test.true),
  adds_same (line_more c.args.sets.now.record.now c.args.sets.now.masked.formed c.loop-i.i (omega (arith, c.loop-i-test.true, c.count-i-end.ensures)) c.mask.ensures c.layers.ensures)
      (adds_then c.loop-i.invariant.1 c.put_line.ensures),
)

pub returns : goal.returns
unfolding page_of
returns c =
    let r = c.args.sets.now.record.now in
    adds_same (ap (set_lines (get_or r 0 0) (refs_of r) (sets_of r)) (omega (arith, c.loop-i.invariant.0, c.loop-i-test.false) ∙ c.count-i-end.ensures)) c.loop-i.invariant.1
