use Rattle.std.proofs.Common.{take}
use Rattle.texts.specs.Adds.{Adds}
use Rattle.vps_show.specs.Shown.{spaced}
use Rattle.vps_show.proofs.text.put_numbers.Given as goal

abbrev pub invariant-loop-n : goal.invariant-loop-n
invariant-loop-n l = Adds (spaced (take l.n-index l.numbers)) l.initial.text l.text
