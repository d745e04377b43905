-- Link figures as numbers: which schedules are asked for, and what is left of an interval where references point.
use Rattle.std.specs.Prelude.{ℕ, ◌≡◌, refl, List, cond, eqb, Option, Some, None}
use Rattle.std.proofs.Common.{sym, ap, ◌∙◌}
use Rattle.refusals.specs.Answer.{Answer}
use Rattle.refusals.specs.Answer.Answer.{success, refusal}
use Rattle.record_timing.specs.declared.schedule.Kind.{Kind}
use Rattle.record_timing.specs.declared.schedule.Kind.TheVariants.{Nal, Vcl}
use Rattle.record_timing.specs.Timing.{lacks}
use Rattle.vps_c.specs.Calls.{answer_number}

-- the list of schedules that a number names
unfoldable pub kind_of : (vcl : ℕ) → Option Kind
kind_of vcl = cond (eqb vcl 0) (Some Nal) (cond (eqb vcl 1) (Some Vcl) None)

-- what is said of a schedule by its list; no record has another list than these two
abbrev pub figure_of : Option Kind → List ℕ → (Kind → Answer ℕ) → Answer ℕ
figure_of None r f = refusal (lacks r)
figure_of (Some kind) r f = f kind

-- ── Intervals ─────────────────────────────────────────────────────────
-- whether there is one, as a number, and the interval then; 0 and 0 where it is missing
abbrev pub known_number : Option ℕ → ℕ
known_number None = 0
known_number (Some n) = 1

abbrev pub interval_number : Option ℕ → ℕ
interval_number None = 0
interval_number (Some n) = n

-- what success stores; a refusal leaves what was there before
abbrev pub stored_by : (Option ℕ → ℕ) → Answer (Option ℕ) → (before : ℕ) → ℕ
stored_by f (success x) before = f x
stored_by f (refusal k) before = before

pub record TellsInterval (x : Answer (Option ℕ)) (known-before microseconds-before k known microseconds : ℕ) : Type 0 where
  pub numbered : k ≡ answer_number x
  pub known_stored : known ≡ stored_by known_number x known-before
  pub interval_stored : microseconds ≡ stored_by interval_number x microseconds-before
