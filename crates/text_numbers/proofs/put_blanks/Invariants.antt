use Rattle.std.proofs.Common.{replicate}
use Rattle.texts.specs.Adds.{Adds}
use Rattle.text_numbers.proofs.put_blanks.Given as goal

abbrev pub invariant-loop : goal.invariant-loop
invariant-loop l = Adds (replicate l.counter 32) l.initial.text l.text
