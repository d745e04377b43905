-- Each flag is the table's.
use Rattle.std.proofs.Common.{arith}
use Rattle.vps_definition.specs.Vps.{output_flag}
use Rattle.vps_sets.proofs.output_flags.Goals as goal

pub returns : goal.returns
returns g c = c.flags.ensures (omega (arith, c.args.h.few_layers)) output_flag (λ x y r p. p)
