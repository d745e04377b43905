-- The next slot's numbers end the slot's, so as many numbers lie between as the slot has more.
use Rattle.std.proofs.Common.{◌≡◌, ◌-◌, List, ℕ, length, drop, sym, ap, ◌∙◌, subst, drop-drop}
use Rattle.ptl_slots.specs.Skims.{EndsIn}
use Rattle.ptl_slots.specs.Slot.{next_slot, slot_ends}
use Rattle.writing.proofs.Writing.place_behind.Goals as goal

ends : (rec : List ℕ) {x y : List ℕ} → y ≡ next_slot rec x → EndsIn x y
ends rec {x} e = subst (EndsIn x) (sym e) (slot_ends rec x)

pub overflow_sub-result : goal.overflow_sub-result
overflow_sub-result c = (ends c.args.self.now.rec.now (c.behind_slot-rest.ensures c.args.self.now.rec.now)).shorter

pub returns-clause-rest : goal.returns-clause-rest
returns-clause-rest c =
    let rec = c.args.self.now.rec.now in
    let n = length c.behind-numbers.result.now - length c.behind_slot-rest.result.now in
    sym (drop-drop n c.args.slot rec) ∙ ap (drop n) (sym c.behind-numbers.ensures) ∙ (ends rec (c.behind_slot-rest.ensures rec)).is ∙ c.behind_slot-rest.ensures rec
    ∙ ap (next_slot rec) c.behind-numbers.ensures
