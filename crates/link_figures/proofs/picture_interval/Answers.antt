-- A sublayer that is there has its interval, known or missing.
use Rattle.std.proofs.Common.{◌≡◌, true, false, rules}
use Rattle.refusals.specs.Refusals.{number_of}
use Rattle.record_timing.specs.Timing.{lacks, has_sublayer}
use Rattle.record_timing.specs.Items.{IsSublayer}
use Rattle.link_figures.specs.Found.{interval_said, interval_refused}
use Rattle.link_figures.proofs.picture_interval.Goals as goal

pub returns-in_err-sublayer : goal.returns-in_err-sublayer
returns-in_err-sublayer c =
    let no : has_sublayer c.args.«record».now c.args.entry c.args.sublayer ≡ false = search rules in
    let said : number_of c.in_err-sublayer.field-0.0 ≡ lacks c.args.«record».now = search rules in
    search (rules, interval_refused c.args.«record».now c.args.entry c.args.sublayer no said)

pub returns : goal.returns
returns c =
    let there : has_sublayer c.args.«record».now c.args.entry c.args.sublayer ≡ true = search rules in
    let is : IsSublayer c.args.«record».now c.args.entry c.args.sublayer c.in_ok-sublayer.sublayer = search rules in
    interval_said c.args.«record».now c.args.entry c.args.sublayer there is c.interval_of.ensures
