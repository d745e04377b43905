use Rattle.std.proofs.Common.{Ok, List, [], take}
use Rattle.vps_definition.specs.Words.{loop}
use Rattle.vps_definition.specs.Vps.{Head, ptl_head}
use Rattle.vps_fields.specs.Header.{header_of}
use Rattle.vps_ptl.specs.Heads.{table_heads}
use Rattle.vps_ptl.proofs.slot_heads.Given as goal

abbrev pub invariant-loop-i : goal.invariant-loop-i
invariant-loop-i g l = g.S.Steps.goes (List Head) (loop (ptl_head (header_of l.h)) l.i 0 []) l.initial.steps (Ok (table_heads (take l.i l.heads))) l.steps × g.S.Parts.stands l.i l.steps l.slot
