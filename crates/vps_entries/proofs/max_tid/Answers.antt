-- The table's two words, in its order.
use Rattle.std.proofs.Common.{rules}
use Rattle.vps_entries.specs.MaxTid.{max_tid}
use Rattle.vps_entries.proofs.max_tid.Goals as goal

pub returns-in_err-tid : goal.returns-in_err-tid
unfolding max_tid
returns-in_err-tid g c = let L = g.S.Steps.laws in search (rules, L.goes_then, L.goes_stop)

pub returns-in_err-check : goal.returns-in_err-check
unfolding max_tid
returns-in_err-check g c = let L = g.S.Steps.laws in search (rules, L.goes_then, L.goes_stop)

pub returns : goal.returns
unfolding max_tid
returns g c = let L = g.S.Steps.laws in search (rules, L.goes_then, L.goes_done)
