-- `behind_slot` meets its contract: the parts in the table's order.
use Rattle.ptl_slots.specs.Slot.{skim_slot}
use Rattle.ptl_slots.proofs.behind_slot.Goals as goal

pub returns : goal.returns
returns c rec = skim_slot c.args.slot.now c.number_at-present.ensures c.number_at-max_tid.ensures c.behind_front-front.ensures (c.behind_constraints-constraints.ensures rec) c.behind_sublayers-sublayers.ensures (c.behind_sub_profiles.ensures rec)
