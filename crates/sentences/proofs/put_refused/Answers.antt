-- `put_refused` meets its contract: its parts, one behind the other.
use Rattle.std.proofs.Common.{ap}
use Rattle.texts.specs.Bytes.{bytes}
use Rattle.texts.specs.Adds.{adds_same, adds_then}
use Rattle.text_numbers.specs.Decimal.{decimal}
use Rattle.sentences.specs.Refused.{refused_text}
use Rattle.sentences.proofs.put_refused.Goals as goal

pub returns : goal.returns
unfolding refused_text bytes
returns c = adds_then (adds_then c.put.ensures (adds_same (ap decimal c.number.ensures) c.put_decimal.ensures)) c.put-2.ensures
