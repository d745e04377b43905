-- The first lines are written, and the next entry is left.
use Rattle.vps_definition.specs.Layout.{timing_count}
use Rattle.record_timing.specs.Items.{IsEntry}
use Rattle.record_timing.specs.declared.entry.Entry.{Entry}
use Rattle.vps_rates.specs.Printed.{entry_text}
use Rattle.vps_rates.specs.Written.{Written, still}
use Rattle.vps_rates.proofs.table.write_table.Given as goal

abbrev pub invariant-loop-rest : goal.invariant-loop-rest
invariant-loop-rest g l = Written (IsEntry l.timing.«record».now) (timing_count l.timing.«record».now) (entry_text l.timing.«record».now) (g.W.Write.contents l.initial.out) (g.W.Write.contents l.out) l.rest

abbrev pub decreases-loop-rest : goal.decreases-loop-rest
decreases-loop-rest g l = still (λ (s : Entry). s.index) (timing_count l.timing.«record».now) l.rest
