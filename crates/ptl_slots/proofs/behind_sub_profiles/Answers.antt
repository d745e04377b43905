-- `behind_sub_profiles` meets its contract: none where the profile is absent, else as many as their number says.
use Rattle.ptl_slots.specs.Slot.{sub_profiles_absent, sub_profiles_some}
use Rattle.ptl_slots.proofs.behind_sub_profiles.Goals as goal

pub returns-then-present-eq0 : goal.returns-then-present-eq0
returns-then-present-eq0 c rec = sub_profiles_absent _ c.if-present-eq0.true

pub returns : goal.returns
returns c rec = sub_profiles_some c.args.present c.args.count.now c.if-present-eq0.false c.number_at.ensures c.behind-first.ensures c.behind.ensures
