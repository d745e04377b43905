use Rattle.std.proofs.Common.{Ok}
use Rattle.vps_definition.specs.Syntax.{Syntax}
use Rattle.vps_definition.specs.Words.{repeat}
use Rattle.table_steps.specs.Answers.{GoesAlong}
use Rattle.table_steps.proofs.repeat.Given as goal

abbrev pub invariant-loop : goal.invariant-loop
invariant-loop g l = (m : Syntax (Unit {0})) → GoesAlong (g.S.Steps.goes (Unit {0})) m (g.T.Step.leads l.fn.step) → g.S.Steps.goes (Unit {0}) (repeat l.counter m) l.initial.steps (Ok tt) l.steps
