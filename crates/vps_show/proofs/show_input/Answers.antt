-- `show_input` meets its contract.
use Rattle.std.proofs.Common.{arith}
use Rattle.texts.specs.Adds.{adds_same}
use Rattle.vps_show.specs.Shown.{shown_short, shown_long}
use Rattle.vps_show.proofs.show_input.Goals as goal

pub returns-then-input-le-UNIT_BYTES : goal.returns-then-input-le-UNIT_BYTES
returns-then-input-le-UNIT_BYTES c = adds_same (shown_short c.args.input.now (omega (arith, c.if-input-le-UNIT_BYTES.true))) c.show_unit.ensures

pub returns-else-input-le-UNIT_BYTES : goal.returns-else-input-le-UNIT_BYTES
returns-else-input-le-UNIT_BYTES c = adds_same (shown_long c.args.input.now (omega (arith, c.if-input-le-UNIT_BYTES.false))) c.put.ensures
