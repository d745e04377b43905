-- The parts in the table's order: as many heads as the count, and the slots by these heads.
use Rattle.std.specs.Prelude.{ℕ, ◌≡◌, [], length}
use Rattle.std.proofs.Common.{rules, ap}
use Rattle.vps_definition.specs.Words.{loop}
use Rattle.vps_definition.specs.Vps.{ptl_head, ptl_section}
use Rattle.table_steps.specs.Laws.{goes_as}
use Rattle.vps_fields.specs.Header.{header_of}
use Rattle.vps_ptl.specs.Heads.{slots_as}
use Rattle.vps_ptl.proofs.ptl_section.Goals as goal

pub returns-in_err-count : goal.returns-in_err-count
unfolding ptl_section
returns-in_err-count g c = let L = g.S.Steps.laws in search (rules, L.goes_then, L.goes_stop)

pub returns-in_err-check : goal.returns-in_err-check
unfolding ptl_section
returns-in_err-check g c = let L = g.S.Steps.laws in search (rules, L.goes_then, L.goes_stop)

pub returns-in_err-slot_heads : goal.returns-in_err-slot_heads
unfolding ptl_section
returns-in_err-slot_heads g c =
    let L = g.S.Steps.laws in
    let n : length c.slot_heads.new.heads ≡ c.in_ok-count.count = search rules in
    let H = goes_as L (ap (λ (k : ℕ). loop (ptl_head (header_of c.args.h.now)) k 0 []) n) c.in_err-slot_heads.ensures in
    search (rules, L.goes_then, L.goes_stop, H)

pub returns-in_err-align : goal.returns-in_err-align
unfolding ptl_section
returns-in_err-align g c =
    let L = g.S.Steps.laws in
    let n : length c.slot_heads.new.heads ≡ c.in_ok-count.count = search rules in
    let H = goes_as L (ap (λ (k : ℕ). loop (ptl_head (header_of c.args.h.now)) k 0 []) n) c.in_ok-slot_heads.ensures.2 in
    search (rules, L.goes_then, L.goes_stop, H)

pub returns-in_err-slots : goal.returns-in_err-slots
unfolding ptl_section
returns-in_err-slots g c =
    let L = g.S.Steps.laws in
    let n : length c.slot_heads.new.heads ≡ c.in_ok-count.count = search rules in
    let H = goes_as L (ap (λ (k : ℕ). loop (ptl_head (header_of c.args.h.now)) k 0 []) n) c.in_ok-slot_heads.ensures.2 in
    let S = goes_as L (slots_as c.slot_heads.new.heads c.in_ok-slot_heads.ensures.1 n) c.in_err-slots.ensures in
    search (rules, L.goes_then, L.goes_stop, c.in_ok-count.ensures.goes, c.in_ok-check.ensures.goes, c.in_ok-align.ensures, H, S)

pub returns : goal.returns
unfolding ptl_section
returns g c =
    let L = g.S.Steps.laws in
    let n : length c.slot_heads.new.heads ≡ c.in_ok-count.count = search rules in
    let H = goes_as L (ap (λ (k : ℕ). loop (ptl_head (header_of c.args.h.now)) k 0 []) n) c.in_ok-slot_heads.ensures.2 in
    let S = goes_as L (slots_as c.slot_heads.new.heads c.in_ok-slot_heads.ensures.1 n) c.in_ok-slots.ensures in
    search (rules, L.goes_then, L.goes_done, H, S)
