-- The schedules of a kind stand one behind the other, each as long as the next.
use Rattle.std.proofs.Common.{◌≤◌, arith}
use Rattle.std.proofs.lemmas.Nat.{mul-le}
use Rattle.vps_definition.specs.Views.{hrd_of}
use Rattle.record_timing.specs.Few.{schedule_length_most, schedules_start_most, schedule_found}
use Rattle.record_timing.proofs.sublayer.Sublayer.schedule.Goals as goal

pub overflow_mul-place : goal.overflow_mul-place
overflow_mul-place c = record {
  fits =
      let short : c.schedule_length.result ≤ 5 = omega (arith, c.schedule_length.ensures, schedule_length_most (hrd_of c.args.self.entry.timing.«record».now)) in
      omega (arith, mul-le c.args.c _ 4294967296 5 (omega (arith, c.ranges.c.fits)) short);
}

pub overflow_add-place : goal.overflow_add-place
overflow_add-place c = record {
  fits =
      let short : c.schedule_length.result ≤ 5 = omega (arith, c.schedule_length.ensures, schedule_length_most (hrd_of c.args.self.entry.timing.«record».now)) in
      omega (arith, mul-le c.args.c _ 4294967296 5 (omega (arith, c.ranges.c.fits)) short, c.schedules_start.ensures, schedules_start_most _ c.args.self.entry.timing.formed c.args.self.entry.timing.timed c.args.kind);
}

pub invariant_of-result : goal.invariant_of-result
invariant_of-result c = record {
  is = rw (c.behind.ensures, c.args.self.is, c.schedules_start.ensures, c.schedule_length.ensures) (schedule_found _ _ _ c.args.kind c.args.c);
  there = omega (arith, c.schedules.ensures, c.if-c-schedules.false);
}
