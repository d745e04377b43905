-- Each sublayer is a triple.
use Rattle.vps_definition.specs.DpbParameters.{dpb_sublayer}
use Rattle.vps_dpb.proofs.dpb_slot.Goals as goal

pub returns : goal.returns
returns g c = c.per_sublayer.ensures dpb_sublayer (λ x y r p. p)
