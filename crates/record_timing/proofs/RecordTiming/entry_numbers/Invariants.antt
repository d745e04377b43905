use Rattle.std.proofs.Common.{◌≡◌, ◌≤◌}
use Rattle.vps_definition.specs.Views.{timing_entry}
use Rattle.record_timing.proofs.RecordTiming.entry_numbers.Given as goal

-- behind so many turns, the numbers from that entry on
abbrev pub invariant-loop : goal.invariant-loop
invariant-loop l = (l.counter ≤ l.e) × (l.numbers ≡ timing_entry l.self.«record».now l.counter)
