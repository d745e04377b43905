-- Its sublayers are as many as its max tid and the flag say, and each is as long as the next.
use Rattle.std.proofs.Common.{◌≤◌, arith, rules}
use Rattle.std.proofs.lemmas.Nat.{mul-le}
use Rattle.vps_definition.specs.Views.{behind_entry}
use Rattle.record_timing.specs.Few.{turns_most, sublayer_length_most}
use Rattle.record_timing.proofs.RecordTiming.behind_entry.Goals as goal

pub overflow_mul-sublayers : goal.overflow_mul-sublayers
overflow_mul-sublayers c = record {
  fits =
      let few : c.turns-sublayers.result ≤ 4294967296 = omega (arith, c.turns-sublayers.ensures, turns_most c.number-flag.result c.number_at.result (omega (arith, c.number_at.type_inv))) in
      let short : c.sublayer_length.result ≤ 324 = omega (arith, c.sublayer_length.ensures, sublayer_length_most _ c.args.self.now.formed c.args.self.now.timed) in
      omega (arith, mul-le _ _ 4294967296 324 few short);
}

pub overflow_add-sublayers : goal.overflow_add-sublayers
overflow_add-sublayers c = record {
  fits =
      let few : c.turns-sublayers.result ≤ 4294967296 = omega (arith, c.turns-sublayers.ensures, turns_most c.number-flag.result c.number_at.result (omega (arith, c.number_at.type_inv))) in
      let short : c.sublayer_length.result ≤ 324 = omega (arith, c.sublayer_length.ensures, sublayer_length_most _ c.args.self.now.formed c.args.self.now.timed) in
      omega (arith, mul-le _ _ 4294967296 324 few short);
}

pub returns : goal.returns
unfolding behind_entry
returns c = search rules
