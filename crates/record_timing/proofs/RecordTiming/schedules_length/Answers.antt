-- So many times the length of one.
use Rattle.std.proofs.Common.{◌≤◌, ◌*◌, ◌∙◌, arith}
use Rattle.std.proofs.lemmas.Nat.{mul-le}
use Rattle.vps_definition.specs.Views.{hrd_of}
use Rattle.record_timing.specs.Few.{schedules_most, schedule_length_most, schedules_long}
use Rattle.record_timing.proofs.RecordTiming.schedules_length.Goals as goal

pub overflow_mul-result : goal.overflow_mul-result
overflow_mul-result c = record {
  fits =
      let few : c.schedules.result ≤ 32 = omega (arith, c.schedules.ensures, schedules_most _ c.args.self.now.formed c.args.self.now.timed c.args.kind) in
      let short : c.schedule_length.result ≤ 5 = omega (arith, c.schedule_length.ensures, schedule_length_most (hrd_of c.args.self.now.«record».now)) in
      omega (arith, mul-le _ _ 32 5 few short);
}

pub returns : goal.returns
returns c = (λ i. c.schedules.ensures i * c.schedule_length.ensures i) ∙ schedules_long _ c.args.self.now.formed c.args.self.now.timed c.args.kind
