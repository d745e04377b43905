use Rattle.std.proofs.Common.{ℕ, List, ◌≤◌}
use Rattle.vps_definition.specs.Syntax.{Syntax}
use Rattle.vps_layers.specs.Flags.{FlagsSoFar, IsFlag}
use Rattle.vps_layers.proofs.flags.Given as goal

abbrev pub invariant-loop-j : goal.invariant-loop-j
invariant-loop-j g l =
    (l.j ≤ l.n)
    × (l.n ≤ 64 → (f : ℕ → List ℕ → Syntax (List ℕ)) → IsFlag g.S.Steps.goes f (g.T.Step.leads l.fn.flag) → FlagsSoFar g.S.Steps.goes f l.j l.initial.steps l.mask l.steps)
