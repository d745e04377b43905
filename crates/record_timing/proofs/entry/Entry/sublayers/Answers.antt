-- By its max tid and the flag.
use Rattle.std.proofs.Common.{rules}
use Rattle.vps_definition.specs.Views.{sublayer_count}
use Rattle.record_timing.proofs.entry.Entry.sublayers.Goals as goal

pub returns : goal.returns
unfolding sublayer_count
returns c = search (rules, c.args.self.now.is)
