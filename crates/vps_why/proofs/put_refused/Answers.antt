-- `put_refused` meets its contract.
use Rattle.std.proofs.Common.{ap}
use Rattle.texts.specs.Adds.{adds_same, adds_then}
use Rattle.text_numbers.specs.Decimal.{decimal}
use Rattle.vps_why.specs.Why.{refused_line}
use Rattle.vps_why.proofs.put_refused.Goals as goal

pub returns : goal.returns
unfolding refused_line
returns c = adds_then (adds_then (adds_then (adds_same (ap decimal c.number.ensures) c.put_decimal.ensures) c.put.ensures) c.put_words.ensures) c.put-2.ensures
