-- Sublayers stand behind the max tid, each as long as the next.
use Rattle.std.proofs.Common.{◌≤◌, arith, rules}
use Rattle.std.proofs.lemmas.Nat.{mul-le}
use Rattle.vps_definition.specs.Views.{sublayer_at}
use Rattle.record_timing.specs.Few.{sublayer_length_most}
use Rattle.record_timing.proofs.entry.Entry.sublayer.Goals as goal

pub overflow_mul-place : goal.overflow_mul-place
overflow_mul-place c = record {
  fits =
      let short : c.sublayer_length.result ≤ 324 = omega (arith, c.sublayer_length.ensures, sublayer_length_most _ c.args.self.timing.formed c.args.self.timing.timed) in
      omega (arith, mul-le c.args.j _ 4294967296 324 (omega (arith, c.ranges.j.fits)) short);
}

pub overflow_add-place : goal.overflow_add-place
overflow_add-place c = record {
  fits =
      let short : c.sublayer_length.result ≤ 324 = omega (arith, c.sublayer_length.ensures, sublayer_length_most _ c.args.self.timing.formed c.args.self.timing.timed) in
      omega (arith, mul-le c.args.j _ 4294967296 324 (omega (arith, c.ranges.j.fits)) short);
}

pub invariant_of-result : goal.invariant_of-result
unfolding sublayer_at
invariant_of-result c = record {
  is = search (rules, c.args.self.is);
  there = omega (arith, c.sublayers.ensures, c.if-j-sublayers.false);
}
