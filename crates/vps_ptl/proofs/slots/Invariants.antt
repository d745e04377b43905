use Rattle.std.proofs.Common.{Ok}
use Rattle.vps_definition.specs.Words.{loop}
use Rattle.vps_definition.specs.Vps.{ptl_slot}
use Rattle.vps_ptl.specs.Heads.{table_heads}
use Rattle.vps_ptl.proofs.slots.Given as goal

abbrev pub invariant-loop-kept : goal.invariant-loop-kept
invariant-loop-kept g l = g.S.Steps.goes (Unit {0}) (loop (ptl_slot (table_heads l.heads)) l.kept-index 0 tt) l.initial.steps (Ok tt) l.steps
