-- `places` meets its contract: behind turn j the first j places stand.
use Rattle.std.proofs.Common.{refl, rules}
use Rattle.layer_page.specs.Page.{places}
use Rattle.layer_page.specs.Places.{places_more}
use Rattle.layer_page.proofs.places.Goals as goal

pub loop-j-init : goal.loop-j-init
unfolding places
loop-j-init c = refl

pub loop-j-preserved : goal.loop-j-preserved
loop-j-preserved c = places_more _ _ _ (search rules) c.place.ensures c.loop-j.invariant
