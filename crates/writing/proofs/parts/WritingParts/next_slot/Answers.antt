-- The next slot stands behind the one before.
use Rattle.std.proofs.Common.{ℕ, sym, ap, ◌∙◌, add-one, drop}
use Rattle.vps_definition.specs.Vps.{slot_at}
use Rattle.ptl_slots.specs.Slot.{next_slot}
use Rattle.writing.proofs.parts.WritingParts.next_slot.Goals as goal

pub returns : goal.returns
unfolding slot_at
returns c i h =
    let rec = c.args.self.now.rec.now in
    c.place_behind.ensures.rest ∙ ap (next_slot rec) h ∙ ap (λ (k : ℕ). slot_at k rec (drop c.args.self.now.c rec)) (sym (add-one i))
