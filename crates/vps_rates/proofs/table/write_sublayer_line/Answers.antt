-- `write_sublayer_line` meets its contract: there is room for the line.
use Rattle.std.proofs.Common.{ap, length, ◌∙◌, arith}
use Rattle.texts.specs.Adds.{adds_whole}
use Rattle.link_figures.specs.Figures.{interval_in}
use Rattle.vps_rates.specs.Room.{sublayer_fits}
use Rattle.vps_rates.proofs.table.write_sublayer_line.Goals as goal

pub returns : goal.returns
returns g c =
    let whole = adds_whole c.put_sublayer.ensures c.at-line.ensures.place (omega (arith, sublayer_fits c.args.sublayer.now.entry.index c.args.sublayer.now.index (interval_in c.args.sublayer.now), ap length c.at-line.ensures.bytes)) in
    rw (← c.so_far.ensures ∙ whole) c.write_all.ensures.bytes
