-- The first lines are written, and the next sublayer is left.
use Rattle.vps_definition.specs.Views.{sublayer_count}
use Rattle.record_timing.specs.Items.{IsSublayer}
use Rattle.record_timing.specs.declared.sublayer.Sublayer.{Sublayer}
use Rattle.vps_rates.specs.Printed.{sublayer_text}
use Rattle.vps_rates.specs.Written.{Written, still}
use Rattle.vps_rates.proofs.table.write_entry.Given as goal

abbrev pub invariant-loop-rest : goal.invariant-loop-rest
invariant-loop-rest g l = Written (IsSublayer l.entry.timing.«record».now l.entry.index) (sublayer_count l.entry.timing.«record».now l.entry.index) (sublayer_text l.entry.timing.«record».now l.entry.index) (g.W.Write.contents l.initial.out) (g.W.Write.contents l.out) l.rest

abbrev pub decreases-loop-rest : goal.decreases-loop-rest
decreases-loop-rest g l = still (λ (s : Sublayer). s.index) (sublayer_count l.entry.timing.«record».now l.entry.index) l.rest
