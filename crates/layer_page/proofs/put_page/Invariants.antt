use Rattle.std.proofs.Common.{◌≤◌, get_or}
use Rattle.texts.specs.Adds.{Adds}
use Rattle.vps_definition.specs.Views.{refs_of, sets_of}
use Rattle.layer_page.specs.Page.{set_lines}
use Rattle.layer_page.proofs.put_page.Given as goal

abbrev pub invariant-loop-i : goal.invariant-loop-i
invariant-loop-i l = (l.i ≤ l.i-end) × Adds (set_lines (get_or l.sets.record.now 0 0) (refs_of l.sets.record.now) (sets_of l.sets.record.now) l.i) l.fn.text l.text
