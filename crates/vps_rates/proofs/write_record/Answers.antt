-- `write_record` meets its contract: a table where there is a timing section.
use Rattle.std.proofs.Common.{◌≡◌, true, false, ap, ◌∙◌, rules}
use Rattle.refusals.specs.Refusals.{number_of}
use Rattle.record_timing.specs.Timing.{has_timing, lacks}
use Rattle.vps_rates.specs.Printed.{table_text, without_table}
use Rattle.vps_rates.specs.Written.{on_ok, appends_same}
use Rattle.vps_rates.specs.Reads.{table_of, no_table}
use Rattle.vps_rates.proofs.write_record.Goals as goal

pub returns-in-Ok : goal.returns-in-Ok
returns-in-Ok g c =
    let there : has_timing c.args.«record».now ≡ true = search rules in
    let lent : c.in-Ok.timing.«record».now ≡ c.args.«record».now = search rules in
    on_ok c.write_table.result (appends_same _ _ (ap table_text lent ∙ table_of c.args.«record».now there)) c.write_table.ensures

pub returns-in-Err : goal.returns-in-Err
returns-in-Err g c =
    let none : has_timing c.args.«record».now ≡ false = search rules in
    let why : number_of c.in-Err.refusal ≡ lacks c.args.«record».now = search rules in
    on_ok c.write_without_table.result (appends_same _ _ (ap without_table why ∙ no_table c.args.«record».now none)) c.write_without_table.ensures
