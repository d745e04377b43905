-- The code is the bit reader's, and so is its refusal.
use Rattle.std.proofs.Common.{sym, rules}
use Rattle.reading.proofs.Reading.code.Goals as goal

pub returns-in_err-v : goal.returns-in_err-v
returns-in_err-v c = search (rules, sym c.ue.ensures.said)

pub returns : goal.returns
returns c = search (rules, sym c.ue.ensures.said)
