use Rattle.std.proofs.Common.{take}
use Rattle.texts.specs.Adds.{Adds}
use Rattle.vps_show.specs.Shown.{names, lines}
use Rattle.vps_show.proofs.shown.put_record.Given as goal

abbrev pub invariant-loop-k : goal.invariant-loop-k
invariant-loop-k l = Adds (lines (take l.k names) l.«record» 0) l.initial.text l.text
