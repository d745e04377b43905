-- What code hands out of a record's timing section.
use Rattle.std.specs.Prelude.{ℕ, ◌≡◌, List}
use Rattle.record_timing.specs.declared.entry.Entry.{Entry}
use Rattle.record_timing.specs.declared.sublayer.Sublayer.{Sublayer}
use Rattle.record_timing.specs.declared.schedule.Kind.{Kind}
use Rattle.record_timing.specs.declared.schedule.Schedule.{Schedule}

-- entry e of a record
pub record IsEntry (r : List ℕ) (e : ℕ) (entry : Entry) : Type 0 where
  pub of_record : entry.timing.«record».now ≡ r
  pub indexed : entry.index ≡ e

-- sublayer j of entry e of a record
pub record IsSublayer (r : List ℕ) (e j : ℕ) (sublayer : Sublayer) : Type 0 where
  pub of_entry : IsEntry r e sublayer.entry
  pub indexed : sublayer.index ≡ j

-- schedule c of a kind of it
pub record IsSchedule (r : List ℕ) (e j : ℕ) (kind : Kind) (c : ℕ) (schedule : Schedule) : Type 0 where
  pub of_sublayer : IsSublayer r e j schedule.sublayer
  pub of_kind : schedule.kind ≡ kind
  pub indexed : schedule.index ≡ c
