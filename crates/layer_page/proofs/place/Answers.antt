-- A blank, a # or a dot, as the definition has it.
use Rattle.std.proofs.Common.{sym, ◌∙◌}
use Rattle.layer_page.specs.Places.{place_none, place_in, place_out}
use Rattle.layer_page.proofs.place.Goals as goal

pub returns-then-j-n : goal.returns-then-j-n
returns-then-j-n c = place_none _ _ _ c.if-j-n.true

pub returns-then-has : goal.returns-then-has
returns-then-has c = place_in _ _ _ c.if-j-n.false (sym c.has.ensures ∙ c.if-has.true)

pub returns : goal.returns
returns c = place_out _ _ _ c.if-j-n.false (sym c.has.ensures ∙ c.if-has.false)
