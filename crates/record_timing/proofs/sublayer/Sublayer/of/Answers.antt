-- A sublayer is there where the section, the entry and it are.
use Rattle.std.proofs.Common.{◌≡◌, true, false, rules}
use Rattle.record_timing.specs.Timing.{has_timing, has_entry}
use Rattle.record_timing.specs.There.{none_without_timing, no_entry, entry_there, sublayer_there, lacks_item}
use Rattle.record_timing.proofs.sublayer.Sublayer.of.Goals as goal

pub returns-in_err-of-clause-there : goal.returns-in_err-of-clause-there
returns-in_err-of-clause-there c = let no : has_timing c.args.«record».now ≡ false = search rules in search (rules, none_without_timing _ c.args.e c.args.j no)

pub returns-in_err-entry-clause-there : goal.returns-in_err-entry-clause-there
returns-in_err-entry-clause-there c =
    let timing : has_timing c.args.«record».now ≡ true = search rules in
    let no : has_entry c.args.«record».now c.args.e ≡ false = search (rules, entry_there _ c.args.e timing) in
    search (rules, no_entry _ c.args.e c.args.j no)

pub returns-in_err-entry-clause-refused : goal.returns-in_err-entry-clause-refused
returns-in_err-entry-clause-refused c = let timing : has_timing c.args.«record».now ≡ true = search rules in search (rules, lacks_item _ timing)

pub returns-clause-there : goal.returns-clause-there
returns-clause-there c =
    let timing : has_timing c.args.«record».now ≡ true = search rules in
    let entry : has_entry c.args.«record».now c.args.e ≡ true = search (rules, entry_there _ c.args.e timing) in
    search (rules, sublayer_there _ c.args.e c.args.j entry)

pub returns-clause-refused : goal.returns-clause-refused
returns-clause-refused c = let timing : has_timing c.args.«record».now ≡ true = search rules in search (rules, lacks_item _ timing)
