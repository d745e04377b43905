-- What the words of a reading rest on, over plain values: whether a step is made, and how it ends.
use Rattle.std.specs.Prelude.{ℕ, zero, suc, ◌+◌, ◌^◌, ◌<◌, ◌≤◌, ◌≡◌, List, [], ◌∷◌, Result, Ok, Err, MatchResult, IfOk, length, set}
use Rattle.std.proofs.Math.Path.{refl}
use Rattle.std.proofs.Common.{sym, ap, ◌∙◌, subst, add-zero, arith, length-set, lt-ltb, ne_eqb}
use Rattle.refusals.specs.declared.refusal.Refusal.{Refusal}
use Rattle.refusals.specs.declared.refusal.Refusal.TheVariants.{NotWellFormed}
use Rattle.refusals.specs.Refusals.{number_of, number_some}
use Rattle.bits.specs.Bits.{field_at, field_width, to_boundary}
use Rattle.bits.specs.FieldLaws.{field_lt}
use Rattle.bits.specs.Code.Taken.{taken, refused}
use Rattle.bits.specs.Reading.{read_code}
use Rattle.vps_definition.specs.Syntax.{Syntax, numbers, Outcome, run}
use Rattle.vps_definition.specs.Syntax.Syntax.{field, code, late, refuse, done}
use Rattle.vps_definition.specs.Words.{inferred, nothing, aligned}
use Rattle.vps_definition.specs.Syntax.Token.{number}
use Rattle.vps_definition.specs.Syntax.Outcome.{refused as turned_away}
use Rattle.vps_laws.specs.Inversion.{Reads, reads_run, read_late_as}
use Rattle.vps_laws.specs.Inversion.Reads.{pass_align, read_align, read_done}
use Rattle.reading.specs.declared.Reading.{Reading}
use Rattle.reading.specs.Fits.{Room, Fits}
use Rattle.reading.specs.Meets.{Kept, After, Meets}

-- whether a step can be made
abbrev pub Reaches : Reading → Result (Unit {0}) Refusal → Type 0
Reaches s r = MatchResult r (λ _. Room s.at s.n) (λ e. (e ≡ NotWellFormed) × (Room s.at s.n → ⊥))

-- a reading of the same bytes into the same record, which now holds these numbers, at these places
pub record Stands (s s' : Reading) (at n : ℕ) (rec : List ℕ) : Type 0 where
  pub bytes : s'.bytes ≡ s.bytes
  pub name : s'.rec.ghost_name ≡ s.rec.ghost_name
  pub at' : s'.at ≡ at
  pub n' : s'.n ≡ n
  pub rec' : s'.rec.now ≡ rec

-- the field of a width at the place, passed; or no step is made, and all stays
pub record IsPassed (w : ℕ) (s : Reading) (v : ℕ) (s' : Reading) : Type 0 where
  pub room : Room s.at s.n
  pub value : v ≡ field_at s.bytes.now s.at (field_width w)
  pub stands : Stands s s' (s.at + field_width w) s.n s.rec.now

abbrev pub Passed : ℕ → Reading → Result ℕ Refusal → Reading → Type 0
Passed w s r s' = MatchResult r (λ v. IsPassed w s v s') (λ e. (Room s.at s.n → ⊥) × (s' ≡ s))

-- the code at the place, and the place behind it; or its refusal
abbrev pub Coded : Reading → Result ℕ Refusal → Reading → Type 0
Coded s (Ok v) s' = (read_code s.bytes.now s.at ≡ taken v s'.at) × Stands s s' s'.at s.n s.rec.now
Coded s (Err e) s' = (read_code s.bytes.now s.at ≡ refused (number_of e)) × Stands s s' s.at s.n s.rec.now

pub stands_kept : {s s' : Reading} {at n : ℕ} {rec : List ℕ} → length rec ≡ length s.rec.now → Stands s s' at n rec → Kept s s'
stands_kept l S = record { bytes = S.bytes; name = S.name; long = ap length S.rec' ∙ l }

stands_place : {s s' : Reading} {at at' n : ℕ} {rec : List ℕ} → at ≡ at' → Stands s s' at n rec → Stands s s' at' n rec
stands_place {s} {s'} {n = n} {rec = rec} e S = subst (λ (k : ℕ). Stands s s' k n rec) e S

-- past something, and then a number stored
pub pushed : {s s₁ s₂ : Reading} {at : ℕ} (v : ℕ) → Stands s s₁ at s.n s.rec.now → Stands s₁ s₂ s₁.at (s₁.n + 1) (set s₁.rec.now s₁.n v) → Stands s s₂ at (s.n + 1) (set s.rec.now s.n v)
pushed v S T = record {
  bytes = T.bytes ∙ S.bytes;
  name = T.name ∙ S.name;
  at' = T.at' ∙ S.at';
  n' = T.n' ∙ ap (λ k. k + 1) S.n';
  rec' = T.rec' ∙ (λ i. set (S.rec' i) (S.n' i) v);
}

-- no step is made
pub meets_shut : {A : Type 0} {m : Syntax A} {s : Reading} {e : Refusal} → (Fits m s.bytes.now s.at s.n → Room s.at s.n) → (Room s.at s.n → ⊥) → Meets A m s (Err e) s
meets_shut F h = record { kept = record { bytes = refl; name = refl; long = refl }; goes = λ f. absurd (h (F f)) }

pub meets_not_passed : {A : Type 0} {m : Syntax A} {s s' : Reading} {e : Refusal} → (Fits m s.bytes.now s.at s.n → Room s.at s.n) → (Room s.at s.n → ⊥) × (s' ≡ s) → Meets A m s (Err e) s'
meets_not_passed {A} {m} {s} {s'} {e} F h = subst (λ (x : Reading). Meets A m s (Err e) x) (sym h.1) (meets_shut F h.0)

-- a number is read or inferred, and stored
pub meets_number : {m : Syntax ℕ} {s s' : Reading} {v next : ℕ} → Reads m s.bytes.now s.at v (number v ∷ []) next → Stands s s' next (s.n + 1) (set s.rec.now s.n v) → Meets ℕ m s (Ok v) s'
unfolding numbers
meets_number {m} {s} {s'} {v} {next} R S = record {
  kept = stands_kept (length-set s.rec.now s.n v) S;
  goes = λ f. subst (λ (x : Outcome ℕ). After x s (Ok v) s') (sym (reads_run R)) (record { result = refl; place = S.at'; cursor = S.n'; stored = S.rec' });
}

-- nothing is stored
pub meets_silent : {A : Type 0} {m : Syntax A} {s s' : Reading} {a : A} {next : ℕ} → Reads m s.bytes.now s.at a [] next → Stands s s' next s.n s.rec.now → Meets A m s (Ok a) s'
unfolding numbers
meets_silent {A} {m} {s} {s'} {a} {next} R S = record {
  kept = stands_kept refl S;
  goes = λ f. subst (λ (x : Outcome A). After x s (Ok a) s') (sym (reads_run R)) (record { result = refl; place = S.at'; cursor = S.n' ∙ sym (add-zero s.n); stored = S.rec' });
}

-- it is refused
pub meets_refused : {A : Type 0} {m : Syntax A} {s s' : Reading} {e : Refusal} {at : ℕ} → run m s.bytes.now s.at ≡ turned_away (number_of e) [] → Stands s s' at s.n s.rec.now → Meets A m s (Err e) s'
unfolding numbers
meets_refused {A} {m} {s} {s'} {e} h S = record {
  kept = stands_kept refl S;
  goes = λ f. subst (λ (x : Outcome A). After x s (Err e) s') (sym h) (record { refusal = e; result = refl; named = refl; cursor = S.n' ∙ sym (add-zero s.n); stored = S.rec' });
}

pub meets_refuse : {A : Type 0} {s : Reading} {e : Refusal} → Meets A (refuse (number_of e)) s (Err e) s
unfolding run
meets_refuse {s = s} = meets_refused {at = s.at} refl (record { bytes = refl; name = refl; at' = refl; n' = refl; rec' = refl })

-- ── Words are tables whose first step finds room ──────────────────────
pub room_field : (w plus : ℕ) (s : List ℕ) (at n : ℕ) → Fits (field w plus done) s at n → Room at n
unfolding Fits
room_field w plus s at n f = f.0

pub room_code : (plus : ℕ) (s : List ℕ) (at n : ℕ) → Fits (code plus done) s at n → Room at n
unfolding Fits
room_code plus s at n f = f.0

pub room_inferred : (v : ℕ) (s : List ℕ) (at n : ℕ) → Fits (inferred v) s at n → Room at n
unfolding Fits inferred
room_inferred v s at n f = f.0

pub room_late : (w : ℕ) (find : List ℕ → List ℕ → ℕ) (s : List ℕ) (at n : ℕ) → Fits (late w find done) s at n → Room at n
unfolding Fits
room_late w find s at n f = f.0

pub room_aligned : (q : ℕ) (s : List ℕ) (at n : ℕ) → Fits (aligned q) s at n → Room at n
unfolding Fits aligned
room_aligned q s at n f = f.0

-- a field that is passed and kept elsewhere
pub meets_late : (w : ℕ) (find : List ℕ → List ℕ → ℕ) {s s' : Reading} (r : Result ℕ Refusal) → Passed w s r s' → Meets ℕ (late (field_width w) find done) s r s'
meets_late w find (Ok v) P = meets_silent (read_late_as (sym P.value) read_done) P.stands
meets_late w find {s} (Err e) P = meets_not_passed (room_late (field_width w) find s.bytes.now s.at s.n) P

pub passed_within : (w : ℕ) (s s' : Reading) (r : Result ℕ Refusal) → Passed w s r s' → IfOk r (λ v. v < 2 ^ field_width w)
passed_within w s s' (Ok v) P = rw P.value (field_lt s.bytes.now s.at (field_width w))
passed_within w s s' (Err e) P = tt

-- ── Alignment ─────────────────────────────────────────────────────────
-- the bits to the boundary are fewer than 32
boundary_field : (s : List ℕ) (at : ℕ) → field_at s at (field_width (to_boundary at)) ≡ field_at s at (to_boundary at)
boundary_field s at = rw (lt-ltb (to_boundary at) 32 (omega arith)) refl

boundary_place : (at : ℕ) → at + field_width (to_boundary at) ≡ at + to_boundary at
boundary_place at = rw (lt-ltb (to_boundary at) 32 (omega arith)) refl

-- zeros are passed, and ones where no refusal is named
pub meets_zeros : {bits : ℕ} {s s' : Reading} (k : ℕ) → bits ≡ field_at s.bytes.now s.at (field_width (to_boundary s.at)) → bits ≡ 0 → Stands s s' (s.at + field_width (to_boundary s.at)) s.n s.rec.now
    → Meets (Unit {0}) (aligned k) s (Ok tt) s'
unfolding aligned nothing
meets_zeros {s = s} zero e z S = meets_silent (pass_align read_done) (stands_place (boundary_place s.at) S)
meets_zeros {s = s} (suc k) e z S = meets_silent (read_align (sym (e ∙ boundary_field s.bytes.now s.at) ∙ z) read_done) (stands_place (boundary_place s.at) S)

pub meets_passed : {s s' : Reading} → Stands s s' (s.at + field_width (to_boundary s.at)) s.n s.rec.now → Meets (Unit {0}) (aligned 0) s (Ok tt) s'
unfolding aligned nothing
meets_passed {s} S = meets_silent (pass_align read_done) (stands_place (boundary_place s.at) S)

-- a one is refused
pub meets_one : {bits : ℕ} {s s' : Reading} {e : Refusal} {at : ℕ} → bits ≡ field_at s.bytes.now s.at (field_width (to_boundary s.at)) → (bits ≡ 0 → ⊥) → Stands s s' at s.n s.rec.now
    → Meets (Unit {0}) (aligned (number_of e)) s (Err e) s'
unfolding aligned run
meets_one {s = s} {e = e} h z S = meets_refused (go (number_of e) (number_some e)) S
  where
    go : (k : ℕ) → 1 ≤ k → run (aligned k) s.bytes.now s.at ≡ turned_away k []
    go zero l = absurd (omega (arith, l))
    go (suc k) l = rw (ne_eqb (field_at s.bytes.now s.at (to_boundary s.at)) 0 (λ f. z (h ∙ boundary_field s.bytes.now s.at ∙ f)), run) refl
