-- By the flag of the kind: none, or one more than the record's count field, which is at most 31.
use Rattle.std.proofs.Common.{◌+◌, ap, ◌∙◌, refl, arith, eq-eqb, ne_eqb}
use Rattle.vps_definition.specs.Views.{hrd_of}
use Rattle.record_timing.specs.Timing.{flag_of, schedule_count}
use Rattle.record_timing.specs.Few.{viewed}
use Rattle.record_timing.proofs.RecordTiming.schedules.Goals as goal

pub returns-then-flag-eq0 : goal.returns-then-flag-eq0
unfolding schedule_count
returns-then-flag-eq0 c = rw (eq-eqb (flag_of (hrd_of c.args.self.now.«record».now) c.args.kind) 0 (omega (arith, c.if-flag-eq0.true, c.flag.ensures))) refl

pub overflow_add-result : goal.overflow_add-result
overflow_add-result c = record { fits = omega (arith, c.number.ensures, (viewed _ c.args.self.now.formed c.args.self.now.timed).hrd.schedules, (viewed _ c.args.self.now.formed c.args.self.now.timed).hrd.few) }

pub returns : goal.returns
unfolding schedule_count
returns c = rw (ne_eqb (flag_of (hrd_of c.args.self.now.«record».now) c.args.kind) 0 (λ e. omega (arith, e, c.if-flag-eq0.false, c.flag.ensures))) (ap (λ n. n + 1) (c.number.ensures ∙ (viewed _ c.args.self.now.formed c.args.self.now.timed).hrd.schedules))
