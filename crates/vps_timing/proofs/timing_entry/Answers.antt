-- Each sublayer is the entry's next.
use Rattle.vps_definition.specs.TimingHrd.{timing_sublayer}
use Rattle.vps_entries.specs.Hrd.{hrd_of}
use Rattle.vps_timing.proofs.timing_entry.Goals as goal

pub returns : goal.returns
returns g c = c.per_sublayer.ensures (timing_sublayer (hrd_of c.args.hrd)) (λ x y r p. p)
