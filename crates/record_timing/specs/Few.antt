-- How large the parts of a well-formed record's timing section are at the most, and what its numbers are by their places.
use Rattle.std.specs.Prelude.{ℕ, suc, ◌+◌, ◌*◌, ◌≤◌, ◌<◌, ◌≡◌, refl, List, Bool, true, false, cond, eqb, get_or, drop}
use Rattle.std.proofs.Common.{sym, ap, ◌∙◌, arith, get_or-drop}
use Rattle.std.proofs.lemmas.Nat.{mul-le}
use Rattle.vps_definition.specs.Rules.{today}
use Rattle.vps_definition.specs.DpbParameters.{sublayers}
use Rattle.vps_definition.specs.TimingHrd.{Hrd}
use Rattle.vps_definition.specs.Record.{start_of}
use Rattle.vps_definition.specs.Writing.{well_formed}
use Rattle.vps_definition.specs.Layout.{from_section, timing_flag, timing_count}
use Rattle.vps_definition.specs.Views.{header_of, timing_numbers, hrd_of, timing_sublayer_flag, schedule_length, schedules_length, sublayer_length, behind_entry, again, timing_entry, sublayer_count, sublayer_at, nal_schedule_at, vcl_schedule_at}
use Rattle.vps_laws.proofs.Bound.{header_most}
use Rattle.vps_laws.proofs.Views.{well_formed_viewed}
use Rattle.vps_laws.specs.Places.{get_drop, again_next}
use Rattle.vps_laws.specs.TimingViews.{TimingViewed, SublayerRead}
use Rattle.record_timing.specs.Timing.{flag_of, schedule_count, schedules_start, schedule_at}
use Rattle.record_timing.specs.declared.schedule.Kind.{Kind}
use Rattle.record_timing.specs.declared.schedule.Kind.TheVariants.{Nal, Vcl}

pub flag_read : (r : List ℕ) {s v : ℕ} → s ≡ start_of r 6 → v ≡ get_or r s 0 → v ≡ timing_flag r
unfolding timing_flag from_section
flag_read r {s} e f = f ∙ sym (get_drop s r) ∙ ap (λ (k : ℕ). get_or (drop k r) 0 0) e

pub count_read : (r : List ℕ) → get_or (timing_numbers r) 12 0 ≡ timing_count r
unfolding timing_numbers timing_count
count_read r = get_or-drop 1 (from_section r 6) 12 0

-- sublayers as the code counts them, of any numbers of 32 bits
pub turns_most : (flag max_tid : ℕ) → max_tid < 4294967296 → sublayers flag max_tid ≤ 4294967296
turns_most flag max_tid l = go (eqb flag 0)
  where
    go : (b : Bool) → cond b 1 (max_tid + 1) ≤ 4294967296
    go true = omega arith
    go false = omega (arith, l)

-- one entry on
pub entry_next : (r : List ℕ) (e : ℕ) {x : List ℕ} → x ≡ timing_entry r e → behind_entry (hrd_of r) (timing_sublayer_flag r) x ≡ timing_entry r (e + 1)
unfolding timing_entry
entry_next r e q =
    let n : e + 1 ≡ suc e = omega arith in
    ap (behind_entry (hrd_of r) (timing_sublayer_flag r)) q
    ∙ sym (again_next (behind_entry (hrd_of r) (timing_sublayer_flag r)) e (drop 13 (timing_numbers r)))
    ∙ ap (λ (k : ℕ). again (behind_entry (hrd_of r) (timing_sublayer_flag r)) k (drop 13 (timing_numbers r))) (sym n)

pub schedule_length_most : (h : Hrd) → schedule_length h ≤ 5
unfolding schedule_length
schedule_length_most h = go (eqb h.du 0)
  where
    go : (b : Bool) → 3 + cond b 0 2 ≤ 5
    go true = omega arith
    go false = omega arith

pub schedule_found : (r : List ℕ) (e j : ℕ) (kind : Kind) (c : ℕ) → drop (schedules_start (hrd_of r) kind + c * schedule_length (hrd_of r)) (sublayer_at r e j) ≡ schedule_at r e j kind c
unfolding nal_schedule_at vcl_schedule_at
schedule_found r e j Nal c = refl
schedule_found r e j Vcl c = refl

-- ── Of a well-formed record with a timing section ─────────────────────
module _ (r : List ℕ) (w : well_formed r ≡ true) (f : timing_flag r ≡ 1) where
  pub viewed : TimingViewed r
  viewed = (well_formed_viewed today r w).1.timing f

  pub schedules_most : (kind : Kind) → schedule_count r kind ≤ 32
  unfolding schedule_count
  schedules_most kind = go (eqb (flag_of (hrd_of r) kind) 0)
    where
      go : (b : Bool) → cond b 0 ((hrd_of r).cpb_cnt_minus1 + 1) ≤ 32
      go true = omega arith
      go false = omega (arith, viewed.hrd.few)

  -- how long the schedules of a kind are
  pub schedules_long : (kind : Kind) → schedule_count r kind * schedule_length (hrd_of r) ≡ schedules_length (hrd_of r) (flag_of (hrd_of r) kind)
  unfolding schedule_count schedules_length
  schedules_long kind = go (eqb (flag_of (hrd_of r) kind) 0)
    where
      go : (b : Bool) → cond b 0 ((hrd_of r).cpb_cnt_minus1 + 1) * schedule_length (hrd_of r) ≡ cond b 0 (((hrd_of r).cpb_cnt_minus1 + 1) * schedule_length (hrd_of r))
      go true = omega arith
      go false = refl

  pub schedules_length_most : (kind : Kind) → schedules_length (hrd_of r) (flag_of (hrd_of r) kind) ≤ 160
  schedules_length_most kind = omega (arith, schedules_long kind, mul-le (schedule_count r kind) (schedule_length (hrd_of r)) 32 5 (schedules_most kind) (schedule_length_most (hrd_of r)))

  pub schedules_start_most : (kind : Kind) → schedules_start (hrd_of r) kind ≤ 164
  schedules_start_most Nal = omega arith
  schedules_start_most Vcl = omega (arith, schedules_length_most Nal)

  pub sublayer_length_most : sublayer_length (hrd_of r) ≤ 324
  unfolding sublayer_length
  sublayer_length_most = omega (arith, schedules_length_most Nal, schedules_length_most Vcl)

  pub top_most : get_or r 2 0 ≤ 6
  unfolding header_of
  top_most = let R = (well_formed_viewed today r w).1 in omega (arith, ap (λ h. h.max_sublayers_minus1) R.seen.header_is, ((header_most today).holds _ 0 R.read.header_read).1)

  module _ (e : ℕ) (l : e < timing_count r) where
    pub sublayers_most : sublayer_count r e ≤ 7
    unfolding sublayer_count
    sublayers_most = go (eqb (timing_sublayer_flag r) 0)
      where
        go : (b : Bool) → cond b 1 (get_or (timing_entry r e) 0 0 + 1) ≤ 7
        go true = omega arith
        go false = omega (arith, viewed.max_tid e l, top_most)

    pub sublayer_numbered : (j : ℕ) → j < sublayer_count r e → SublayerRead (hrd_of r) (sublayer_at r e j)
    sublayer_numbered = viewed.numbered e l
