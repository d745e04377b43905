use Rattle.std.specs.Prelude.{Ok}
use Rattle.vps_definition.specs.Words.{loop}
use Rattle.vps_definition.specs.DpbParameters.{ols_dpb}
use Rattle.vps_dpb.proofs.dpb_section.Given as goal

abbrev pub invariant-loop-i : goal.invariant-loop-i
invariant-loop-i g l = g.S.Steps.goes (Unit {0}) (loop (λ i x. ols_dpb l.slots l.multi i) l.i 0 tt) l.initial.steps (Ok tt) l.steps
