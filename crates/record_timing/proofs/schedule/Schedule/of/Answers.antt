-- A schedule is there where its sublayer and it are.
use Rattle.std.proofs.Common.{◌≡◌, true, false, rules}
use Rattle.record_timing.specs.Timing.{has_sublayer}
use Rattle.record_timing.specs.There.{no_sublayer, schedule_there, sublayer_lacks}
use Rattle.record_timing.proofs.schedule.Schedule.of.Goals as goal

pub returns-in_err-sublayer-clause-there : goal.returns-in_err-sublayer-clause-there
returns-in_err-sublayer-clause-there c =
    let no : has_sublayer c.args.«record».now c.args.e c.args.j ≡ false = search rules in
    search (rules, no_sublayer _ c.args.e c.args.j c.args.kind c.args.c no)

pub returns-clause-there : goal.returns-clause-there
returns-clause-there c =
    let sublayer : has_sublayer c.args.«record».now c.args.e c.args.j ≡ true = search rules in
    search (rules, schedule_there _ c.args.e c.args.j c.args.kind c.args.c sublayer)

pub returns-clause-refused : goal.returns-clause-refused
returns-clause-refused c =
    let sublayer : has_sublayer c.args.«record».now c.args.e c.args.j ≡ true = search rules in
    search (rules, sublayer_lacks _ c.args.e c.args.j sublayer)
