-- A turn of each loop over a record's timing section: the next item's text is written, and the one behind it is left.
use Rattle.std.specs.Prelude.{ℕ, ◌+◌, ◌≡◌, List, ltb, is_some, IfSome, Option, Some, None}
use Rattle.std.proofs.Common.{ap, ◌∙◌}
use Rattle.std.specs.Io.KnownBytes.{Appends}
use Rattle.vps_definition.specs.Layout.{timing_count}
use Rattle.vps_definition.specs.Views.{sublayer_count}
use Rattle.record_timing.specs.declared.schedule.Kind.{Kind}
use Rattle.record_timing.specs.declared.schedule.Schedule.{Schedule}
use Rattle.record_timing.specs.declared.sublayer.Sublayer.{Sublayer}
use Rattle.record_timing.specs.declared.entry.Entry.{Entry}
use Rattle.record_timing.specs.Timing.{schedule_count}
use Rattle.record_timing.specs.Items.{IsEntry, IsSublayer, IsSchedule}
use Rattle.link_figures.specs.Figures.{rate_in, size_in}
use Rattle.vps_rates.specs.Lines.{schedule_line}
use Rattle.vps_rates.specs.Printed.{schedule_text, sublayer_text, entry_text}
use Rattle.vps_rates.specs.Written.{Written, item_is, written_more, appends_same}

if_some : {A : Type 0} {P Q : A → Type 0} (rest : Option A) → ((x : A) → P x → Q x) → IfSome rest P → IfSome rest Q
if_some None f p = tt
if_some (Some x) f p = f x p

module _ (r : List ℕ) (a b c : Option (List ℕ)) where
  pub schedule_turn : (e j : ℕ) (kind : Kind) (rest rest' : Option Schedule) (s : Schedule) → rest ≡ Some s → Written (IsSchedule r e j kind) (schedule_count r kind) (schedule_text r e j kind) a b rest
      → Appends b c (schedule_line s.sublayer.entry.index s.sublayer.index s.kind s.index (rate_in s) (size_in s))
      → is_some rest' ≡ ltb (s.index + 1) (schedule_count s.sublayer.entry.timing.«record».now s.kind)
      → IfSome rest' (IsSchedule s.sublayer.entry.timing.«record».now s.sublayer.entry.index s.sublayer.index s.kind (s.index + 1))
      → Written (IsSchedule r e j kind) (schedule_count r kind) (schedule_text r e j kind) a c rest'
  unfolding schedule_text
  schedule_turn e j kind rest rest' s is W p there next =
      let I : IsSchedule r e j kind W.behind s = item_is (IsSchedule r e j kind) (schedule_count r kind) (schedule_text r e j kind) a b c rest s is W in
      let record_is = I.of_sublayer.of_entry.of_record in
      written_more (IsSchedule r e j kind) (schedule_count r kind) (schedule_text r e j kind) a b c rest s is W rest'
      (appends_same b c (λ i. schedule_text (record_is i) (I.of_sublayer.of_entry.indexed i) (I.of_sublayer.indexed i) (I.of_kind i) (I.indexed i)) p)
      (there ∙ (λ i. ltb (I.indexed i + 1) (schedule_count (record_is i) (I.of_kind i))))
      (if_some rest' (λ t S. record {
        of_sublayer = record {
          of_entry = record { of_record = S.of_sublayer.of_entry.of_record ∙ record_is; indexed = S.of_sublayer.of_entry.indexed ∙ I.of_sublayer.of_entry.indexed };
          indexed = S.of_sublayer.indexed ∙ I.of_sublayer.indexed;
        };
        of_kind = S.of_kind ∙ I.of_kind;
        indexed = S.indexed ∙ ap (λ (n : ℕ). n + 1) I.indexed;
      }) next)

  pub sublayer_turn : (e : ℕ) (rest rest' : Option Sublayer) (s : Sublayer) → rest ≡ Some s → Written (IsSublayer r e) (sublayer_count r e) (sublayer_text r e) a b rest
      → Appends b c (sublayer_text s.entry.timing.«record».now s.entry.index s.index)
      → is_some rest' ≡ ltb (s.index + 1) (sublayer_count s.entry.timing.«record».now s.entry.index)
      → IfSome rest' (IsSublayer s.entry.timing.«record».now s.entry.index (s.index + 1))
      → Written (IsSublayer r e) (sublayer_count r e) (sublayer_text r e) a c rest'
  sublayer_turn e rest rest' s is W p there next =
      let I : IsSublayer r e W.behind s = item_is (IsSublayer r e) (sublayer_count r e) (sublayer_text r e) a b c rest s is W in
      let record_is = I.of_entry.of_record in
      written_more (IsSublayer r e) (sublayer_count r e) (sublayer_text r e) a b c rest s is W rest'
      (appends_same b c (λ i. sublayer_text (record_is i) (I.of_entry.indexed i) (I.indexed i)) p)
      (there ∙ (λ i. ltb (I.indexed i + 1) (sublayer_count (record_is i) (I.of_entry.indexed i))))
      (if_some rest' (λ t S. record {
        of_entry = record { of_record = S.of_entry.of_record ∙ record_is; indexed = S.of_entry.indexed ∙ I.of_entry.indexed };
        indexed = S.indexed ∙ ap (λ (n : ℕ). n + 1) I.indexed;
      }) next)

  pub entry_turn : (rest rest' : Option Entry) (s : Entry) → rest ≡ Some s → Written (IsEntry r) (timing_count r) (entry_text r) a b rest
      → Appends b c (entry_text s.timing.«record».now s.index)
      → is_some rest' ≡ ltb (s.index + 1) (timing_count s.timing.«record».now)
      → IfSome rest' (IsEntry s.timing.«record».now (s.index + 1))
      → Written (IsEntry r) (timing_count r) (entry_text r) a c rest'
  entry_turn rest rest' s is W p there next =
      let I : IsEntry r W.behind s = item_is (IsEntry r) (timing_count r) (entry_text r) a b c rest s is W in
      written_more (IsEntry r) (timing_count r) (entry_text r) a b c rest s is W rest'
      (appends_same b c (λ i. entry_text (I.of_record i) (I.indexed i)) p)
      (there ∙ (λ i. ltb (I.indexed i + 1) (timing_count (I.of_record i))))
      (if_some rest' (λ t S. record { of_record = S.of_record ∙ I.of_record; indexed = S.indexed ∙ ap (λ (n : ℕ). n + 1) I.indexed }) next)
