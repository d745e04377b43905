-- The code is the bit reader's, and so is its refusal; its number leaves room for one more.
use Rattle.std.proofs.Common.{rules, arith, refl}
use Rattle.reading.specs.Steps.{meets_shut, room_code}
use Rattle.reading.specs.Codes.{code_said, code_small, meets_code, meets_no_code}
use Rattle.reading.proofs.Reading.code_number.Goals as goal

pub returns-in_err-reach : goal.returns-in_err-reach
returns-in_err-reach c = search (rules, meets_shut, room_code)

pub returns-in_err-v : goal.returns-in_err-v
returns-in_err-v c = search (rules, meets_no_code)

pub overflow_add-v : goal.overflow_add-v
overflow_add-v c = omega (arith, code_small _ _ (code_said _ c.in_ok-reach.ensures.near c.in_ok-v.ensures.0), c.requires)

pub returns : goal.returns
returns c = meets_code c.in_ok-reach.ensures.near c.in_ok-v.ensures refl c.push.ensures
