-- `write_without_table` meets its contract, by the number.
use Rattle.std.proofs.Common.{arith, eq-eqb, ne_eqb}
use Rattle.refusals.specs.Number.{item_missing}
use Rattle.refusals.specs.Refusals.{number_of}
use Rattle.texts.specs.Bytes.{bytes}
use Rattle.vps_rates.specs.Printed.{without_table}
use Rattle.vps_rates.proofs.write_without_table.Goals as goal

pub returns-then-number : goal.returns-then-number
unfolding without_table bytes
returns-then-number g c = rw (eq-eqb (number_of c.args.refusal) item_missing (omega (arith, c.number.ensures, c.number-2.ensures, c.if-number.true))) c.write_all.ensures.bytes

pub returns : goal.returns
unfolding without_table
returns g c = rw (ne_eqb (number_of c.args.refusal) item_missing (λ e. omega (arith, e, c.number.ensures, c.number-2.ensures, c.if-number.false))) c.write_refused.ensures
