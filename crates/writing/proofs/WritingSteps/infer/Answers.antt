-- The record's next number is the inferred one, or the step is refused.
use Rattle.std.proofs.Common.{rules}
use Rattle.writing.specs.Steps.{inferred_none, inferred_other, inferred_kept}
use Rattle.writing.proofs.WritingSteps.infer.Goals as goal

pub returns-in_err-next_number-clause-goes : goal.returns-in_err-next_number-clause-goes
returns-in_err-next_number-clause-goes c = search (rules, inferred_none c.in_err-next_number.ensures c.args.v)

pub returns-then-branch-v-clause-goes : goal.returns-then-branch-v-clause-goes
returns-then-branch-v-clause-goes c = inferred_other c.in_ok-next_number.ensures _ c.if-branch-v.true

pub returns-clause-goes : goal.returns-clause-goes
returns-clause-goes c = inferred_kept c.in_ok-next_number.ensures _ c.if-branch-v.false
