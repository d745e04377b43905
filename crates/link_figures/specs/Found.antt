-- Answers by what code has found, or that there is nothing to find.
use Rattle.std.specs.Prelude.{ℕ, ◌≡◌, List, Bool, true, false, cond, Option}
use Rattle.std.proofs.Common.{sym, ap, ◌∙◌}
use Rattle.refusals.specs.Answer.{Answer}
use Rattle.refusals.specs.Answer.Answer.{success, refusal}
use Rattle.record_timing.specs.declared.schedule.Kind.{Kind}
use Rattle.record_timing.specs.declared.schedule.Schedule.{Schedule}
use Rattle.record_timing.specs.declared.sublayer.Sublayer.{Sublayer}
use Rattle.record_timing.specs.Timing.{has_sublayer, has_schedule, lacks}
use Rattle.record_timing.specs.Items.{IsSublayer, IsSchedule}
use Rattle.link_figures.specs.Figures.{rate_at, size_at, interval_at, rate_in, size_in, interval_in, bit_rate, buffer_size, picture_interval}

-- an item that is there has an answer, and one that isn't the refusal
said : {A : Type 0} {b : Bool} {a x : A} (k : ℕ) → b ≡ true → x ≡ a → ◌≡◌ {A = Answer A} (success x) (cond b (success a) (refusal k))
said {a = a} k e f = ap success f ∙ sym (ap (λ (c : Bool). cond c (success a) (refusal k)) e)

refused : {A : Type 0} {b : Bool} (a : A) {k n : ℕ} → b ≡ false → n ≡ k → ◌≡◌ {A = Answer A} (refusal n) (cond b (success a) (refusal k))
refused a {k} e f = ap refusal f ∙ sym (ap (λ (c : Bool). cond c (success a) (refusal k)) e)

module _ (r : List ℕ) (e j : ℕ) where
  -- ── Schedules ───────────────────────────────────────────────────────
  module _ (kind : Kind) (c : ℕ) where
    at_schedule : {A : Type 0} (f : List ℕ → ℕ → ℕ → Kind → ℕ → A) {s : Schedule} → IsSchedule r e j kind c s
        → f s.sublayer.entry.timing.«record».now s.sublayer.entry.index s.sublayer.index s.kind s.index ≡ f r e j kind c
    at_schedule f S = λ i. f (S.of_sublayer.of_entry.of_record i) (S.of_sublayer.of_entry.indexed i) (S.of_sublayer.indexed i) (S.of_kind i) (S.indexed i)

    pub rate_said : {s : Schedule} {x : ℕ} → has_schedule r e j kind c ≡ true → IsSchedule r e j kind c s → x ≡ rate_in s → success x ≡ bit_rate r e j kind c
    unfolding bit_rate
    rate_said h S f = said (lacks r) h (f ∙ at_schedule rate_at S)

    pub size_said : {s : Schedule} {x : ℕ} → has_schedule r e j kind c ≡ true → IsSchedule r e j kind c s → x ≡ size_in s → success x ≡ buffer_size r e j kind c
    unfolding buffer_size
    size_said h S f = said (lacks r) h (f ∙ at_schedule size_at S)

    pub rate_refused : {n : ℕ} → has_schedule r e j kind c ≡ false → n ≡ lacks r → refusal n ≡ bit_rate r e j kind c
    unfolding bit_rate
    rate_refused h f = refused (rate_at r e j kind c) h f

    pub size_refused : {n : ℕ} → has_schedule r e j kind c ≡ false → n ≡ lacks r → refusal n ≡ buffer_size r e j kind c
    unfolding buffer_size
    size_refused h f = refused (size_at r e j kind c) h f

  -- ── Intervals ───────────────────────────────────────────────────────
  pub interval_said : {s : Sublayer} {x : Option ℕ} → has_sublayer r e j ≡ true → IsSublayer r e j s → x ≡ interval_in s → success x ≡ picture_interval r e j
  unfolding picture_interval
  interval_said h S f = said (lacks r) h (f ∙ (λ i. interval_at (S.of_entry.of_record i) (S.of_entry.indexed i) (S.indexed i)))

  pub interval_refused : {n : ℕ} → has_sublayer r e j ≡ false → n ≡ lacks r → refusal n ≡ picture_interval r e j
  unfolding picture_interval
  interval_refused h f = refused (interval_at r e j) h f
