-- An entry is its max tid, and then so many sublayers.
use Rattle.std.proofs.Common.{rules, sym}
use Rattle.table_steps.specs.Laws.{goes_as}
use Rattle.vps_entries.specs.MaxTid.{per_sublayer_is}
use Rattle.vps_entries.proofs.per_sublayer.Goals as goal

pub returns-in_err-tid : goal.returns-in_err-tid
returns-in_err-tid g c m h = let L = g.S.Steps.laws in goes_as L (sym (per_sublayer_is _ _ _ _ _)) (search (rules, L.goes_then, L.goes_stop))

pub returns : goal.returns
returns g c m h = let L = g.S.Steps.laws in goes_as L (sym (per_sublayer_is _ _ _ _ _)) (search (rules, L.goes_then, c.repeat.ensures m h))
