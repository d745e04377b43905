-- `write_schedule` meets its contract: there is room for the line.
use Rattle.std.proofs.Common.{ap, length, ◌∙◌, arith}
use Rattle.texts.specs.Adds.{adds_whole}
use Rattle.link_figures.specs.Figures.{rate_in, size_in}
use Rattle.vps_rates.specs.Room.{schedule_fits}
use Rattle.vps_rates.proofs.table.write_schedule.Goals as goal

pub returns : goal.returns
returns g c =
    let whole = adds_whole c.put_schedule.ensures c.at-line.ensures.place (omega (arith, schedule_fits c.args.schedule.now.sublayer.entry.index c.args.schedule.now.sublayer.index c.args.schedule.now.kind c.args.schedule.now.index (rate_in c.args.schedule.now) (size_in c.args.schedule.now), ap length c.at-line.ensures.bytes)) in
    rw (← c.so_far.ensures ∙ whole) c.write_all.ensures.bytes
