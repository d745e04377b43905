-- The bits are the step's.
use Rattle.std.proofs.Common.{rules, refl}
use Rattle.writing.specs.Steps.{pushes_none, pushes_bits}
use Rattle.writing.proofs.Writing.push.Goals as goal

pub returns-then-not-takes : goal.returns-then-not-takes
returns-then-not-takes g c b l h = pushes_none refl l c.if-not-takes.ensures

pub returns : goal.returns
returns g c b l h =
    let O = h _ _ c.step.ensures in
    pushes_bits refl l c.if-not-takes.ensures refl refl O.0 O.1 (search (rules, O.0.same))
