use Rattle.std.specs.Prelude.{Ok}
use Rattle.refusals.specs.Refusals.{number_of}
use Rattle.vps_definition.specs.Words.{loop}
use Rattle.vps_definition.specs.DpbParameters.{index}
use Rattle.vps_entries.proofs.Indices.all.Given as goal

abbrev pub invariant-loop-i : goal.invariant-loop-i
invariant-loop-i g l = g.S.Steps.goes (Unit {0}) (loop (λ i x. index l.self.size l.self.count (number_of l.self.refusal) i) l.i 0 tt) l.initial.steps (Ok tt) l.steps
