-- The field, and what it gives is not kept.
use Rattle.std.proofs.Common.{rules}
use Rattle.table_steps.specs.Turns.{goes_kept, stops_kept}
use Rattle.table_steps.proofs.KeptFieldStepUnit.go.Goals as goal

pub returns-in_err-u : goal.returns-in_err-u
returns-in_err-u g c = let b = stops_kept g.S.Steps.laws _ c.in_err-u.ensures.goes in search (rules, b)

pub returns : goal.returns
returns g c = goes_kept g.S.Steps.laws _ c.in_ok-u.ensures.goes
