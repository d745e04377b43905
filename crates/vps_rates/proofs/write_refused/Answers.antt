-- `write_refused` meets its contract: there is room for the line.
use Rattle.std.proofs.Common.{ap, length, ◌∙◌, arith}
use Rattle.refusals.specs.Refusals.{number_of}
use Rattle.texts.specs.Adds.{adds_whole}
use Rattle.vps_rates.specs.Room.{refused_fits}
use Rattle.vps_rates.proofs.write_refused.Goals as goal

pub returns : goal.returns
returns g c =
    let whole = adds_whole c.put_refused.ensures c.at-text.ensures.place (omega (arith, refused_fits (number_of c.args.refusal), ap length c.at-text.ensures.bytes)) in
    rw (← c.so_far.ensures ∙ whole) c.write_all.ensures.bytes
