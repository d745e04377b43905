use Rattle.writing.specs.Groups.{Gathered}
use Rattle.writing.proofs.flags.gather.Given as goal

abbrev pub invariant-loop-flag : goal.invariant-loop-flag
invariant-loop-flag l = Gathered l.flags l.flag-index l.value
