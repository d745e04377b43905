-- A schedule that is there has its figure.
use Rattle.std.proofs.Common.{◌≡◌, true, false, rules}
use Rattle.refusals.specs.Refusals.{number_of}
use Rattle.record_timing.specs.Timing.{lacks, has_schedule}
use Rattle.record_timing.specs.Items.{IsSchedule}
use Rattle.link_figures.specs.Found.{rate_said, rate_refused}
use Rattle.link_figures.proofs.bit_rate.Goals as goal

pub returns-in_err-schedule : goal.returns-in_err-schedule
returns-in_err-schedule c =
    let no : has_schedule c.args.«record».now c.args.entry c.args.sublayer c.args.kind c.args.schedule ≡ false = search rules in
    let said : number_of c.in_err-schedule.field-0.0 ≡ lacks c.args.«record».now = search rules in
    search (rules, rate_refused c.args.«record».now c.args.entry c.args.sublayer c.args.kind c.args.schedule no said)

pub returns : goal.returns
returns c =
    let there : has_schedule c.args.«record».now c.args.entry c.args.sublayer c.args.kind c.args.schedule ≡ true = search rules in
    let is : IsSchedule c.args.«record».now c.args.entry c.args.sublayer c.args.kind c.args.schedule c.in_ok-schedule.schedule = search rules in
    rate_said c.args.«record».now c.args.entry c.args.sublayer c.args.kind c.args.schedule there is c.rate_of.ensures
