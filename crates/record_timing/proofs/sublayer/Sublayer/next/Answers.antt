-- There are at most seven sublayers.
use Rattle.std.proofs.Common.{arith}
use Rattle.record_timing.specs.Few.{sublayers_most}
use Rattle.record_timing.proofs.sublayer.Sublayer.next.Goals as goal

pub overflow_add-self : goal.overflow_add-self
overflow_add-self c = record { fits = omega (arith, c.args.self.there, sublayers_most _ c.args.self.entry.timing.formed c.args.self.entry.timing.timed _ c.args.self.entry.there) }
