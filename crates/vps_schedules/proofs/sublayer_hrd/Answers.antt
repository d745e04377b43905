-- Each time is a schedule.
use Rattle.vps_definition.specs.TimingHrd.{schedule, sublayer_hrd}
use Rattle.vps_schedules.proofs.sublayer_hrd.Goals as goal

pub returns : goal.returns
unfolding sublayer_hrd
returns g c = c.repeat.ensures (schedule c.args.hrd.du) (λ x y r p. p)
