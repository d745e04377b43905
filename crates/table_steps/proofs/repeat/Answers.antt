-- Each turn is a call; a refusal ends the turns.
use Rattle.std.proofs.Common.{rules}
use Rattle.table_steps.specs.Repeats.{repeats_begin, repeats_more, repeats_stop}
use Rattle.table_steps.proofs.repeat.Goals as goal

pub loop-init : goal.loop-init
loop-init g c m h = repeats_begin g.S.Steps.laws m

pub returns-in_err-go : goal.returns-in_err-go
returns-in_err-go g c m h = search (rules, repeats_stop g.S.Steps.laws m c.loop-test.true (c.loop.invariant m h) _ _ (h _ _ _ c.in_err-go.ensures))

pub loop-preserved : goal.loop-preserved
loop-preserved g c m h = repeats_more g.S.Steps.laws m _ (c.loop.invariant m h) (h _ _ _ c.in_ok-go.ensures)
