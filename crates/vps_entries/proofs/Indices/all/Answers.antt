-- Each turn is an index; a refusal ends the turns.
use Rattle.std.proofs.Common.{rules, arith, ◌+◌, ◌≤◌}
use Rattle.table_steps.specs.Turns.{turns_begin, turns_more, turns_stop}
use Rattle.vps_entries.proofs.Indices.all.Goals as goal

pub loop-i-init : goal.loop-i-init
loop-i-init g c = turns_begin g.S.Steps.laws _ _

pub returns-in_err-one : goal.returns-in_err-one
returns-in_err-one g c =
    let l : c.loop-i.i + 1 ≤ c.args.self.count = omega arith in
    search (rules, turns_stop g.S.Steps.laws _ _ l c.loop-i.invariant c.in_err-one.ensures)

pub loop-i-preserved : goal.loop-i-preserved
loop-i-preserved g c = turns_more g.S.Steps.laws _ _ c.loop-i.invariant (search rules)
