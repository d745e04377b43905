-- Each flag is the table's.
use Rattle.vps_definition.specs.Vps.{direct_reference}
use Rattle.vps_layers.proofs.Place.direct_references.Goals as goal

pub returns : goal.returns
returns g c = c.flags.ensures c.args.self.few_layers (direct_reference c.args.present c.args.self.h.max_sublayers_minus1) (λ x y r p. p)
