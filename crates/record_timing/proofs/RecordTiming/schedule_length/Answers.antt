-- By the DU flag.
use Rattle.std.proofs.Common.{refl, arith, eq-eqb, ne_eqb}
use Rattle.vps_definition.specs.Views.{hrd_of, schedule_length}
use Rattle.record_timing.specs.Few.{viewed}
use Rattle.record_timing.proofs.RecordTiming.schedule_length.Goals as goal

pub returns-then-number-eq0 : goal.returns-then-number-eq0
unfolding schedule_length
returns-then-number-eq0 c = rw (eq-eqb (hrd_of c.args.self.now.«record».now).du 0 (omega (arith, c.if-number-eq0.true, c.number.ensures, (viewed _ c.args.self.now.formed c.args.self.now.timed).hrd.du))) refl

pub returns : goal.returns
unfolding schedule_length
returns c = rw (ne_eqb (hrd_of c.args.self.now.«record».now).du 0 (λ e. omega (arith, e, c.if-number-eq0.false, c.number.ensures, (viewed _ c.args.self.now.formed c.args.self.now.timed).hrd.du))) refl
