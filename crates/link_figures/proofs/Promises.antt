-- What is promised of link figures, of their definitions and so of the code: when there is an answer and what it is.
use Rattle.std.specs.Prelude.{ℕ, ◌+◌, ◌*◌, ◌/◌, ◌^◌, ◌≤◌, ◌<◌, ◌≡◌, refl, ◌↔◌, List, Bool, true, false, ◌&&◌, cond, ltb, eqb, get_or, Option, Some, None}
use Rattle.std.proofs.Common.{sym, ap, ◌∙◌, arith, eq-eqb, eqb-true, lt-ltb, ltb-true, ne_eqb}
use Rattle.std.proofs.Math.Nat.{div-mul-le_self, lt-div-mul-add}
use Rattle.std.proofs.lemmas.Bool.{false≢true}
use Rattle.std.proofs.lemmas.Nat.{mul-le}
use Rattle.std.proofs.Math.Pow.{pow_mono}
use Rattle.refusals.specs.Answer.{Answer}
use Rattle.refusals.specs.Answer.Answer.{success, refusal}
use Rattle.refusals.specs.Number.{not_well_formed, item_missing}
use Rattle.vps_definition.specs.Writing.{well_formed}
use Rattle.vps_definition.specs.Layout.{timing_flag, timing_count}
use Rattle.vps_definition.specs.Views.{hrd_of, units_in_tick, time_scale, bit_rate_scale, cpb_size_scale, sublayer_count, sublayer_at}
use Rattle.record_timing.specs.declared.schedule.Kind.{Kind}
use Rattle.record_timing.specs.Timing.{flag_of, schedule_count, schedule_at, has_timing, has_entry, has_sublayer, has_schedule, lacks}
use Rattle.record_timing.specs.Few.{viewed}
use Rattle.link_figures.specs.Figures.{bit_rate_of, cpb_size_of, microseconds_of, interval_of, rate_at, size_at, interval_at, bit_rate, buffer_size, picture_interval}
use Rattle.link_figures.proofs.Fields.{Fields, fields}

-- ── What a record has ─────────────────────────────────────────────────
-- sublayer j of entry e: there is a timing section, e is below its count of entries, and j below what the entry stores
pub record Sublayered (r : List ℕ) (e j : ℕ) : Type 0 where
  pub timed : timing_flag r ≡ 1
  pub entry : e < timing_count r
  pub sublayer : j < sublayer_count r e

-- and schedule c of a kind of it
pub record Scheduled (r : List ℕ) (e j : ℕ) (kind : Kind) (c : ℕ) : Type 0 where
  pub sublayered : Sublayered r e j
  pub schedule : c < schedule_count r kind

both : (a b : Bool) → (a && b) ≡ true → (a ≡ true) × (b ≡ true)
both true b h = (refl, h)
both false b h = absurd (false≢true h)

join : {a b : Bool} → a ≡ true → b ≡ true → (a && b) ≡ true
join h g = λ i. h i && g i

-- a test holds, or it doesn't
is_false : (b : Bool) → (b ≡ true → ⊥) → b ≡ false
is_false true h = absurd (h refl)
is_false false h = refl

-- ── Answers ───────────────────────────────────────────────────────────
clash : {A : Type 0} → ◌≡◌ {A = ℕ} 0 1 → A
clash e = absurd (omega (arith, e))

-- success exactly if the item is there
said : {A : Type 0} (b : Bool) (a x : A) (k : ℕ) → cond b (success a) (refusal k) ≡ success x → (b ≡ true) × (a ≡ x)
said true a x k h = (refl, cc)
said false a x k h = clash cc

module _ (r : List ℕ) where
  -- 33 exactly if the record is well formed and the item isn't there; 31 exactly if it is not well formed
  refused_33 : {A : Type 0} (b : Bool) (a : A) → (b ≡ true → well_formed r ≡ true) → (cond b (success a) (refusal (lacks r)) ≡ refusal item_missing) ↔ (well_formed r ≡ true) × (b ≡ true → ⊥)
  unfolding lacks
  refused_33 {A} true a f = (λ h. clash cc, λ h. absurd (h.1 refl))
  refused_33 {A} false a f = go (well_formed r)
    where
      go : (w : Bool) → (◌≡◌ {A = Answer A} (refusal (cond w item_missing not_well_formed)) (refusal item_missing)) ↔ (w ≡ true) × (false ≡ true → ⊥)
      go true = (λ h. (refl, λ g. false≢true g), λ h. refl)
      go false = (λ h. let n : not_well_formed ≡ item_missing = cc in absurd (omega (arith, n)), λ h. absurd (false≢true h.0))

  refused_31 : {A : Type 0} (b : Bool) (a : A) → (b ≡ true → well_formed r ≡ true) → (cond b (success a) (refusal (lacks r)) ≡ refusal not_well_formed) ↔ (well_formed r ≡ false)
  unfolding lacks
  refused_31 {A} true a f = (λ h. clash cc, λ h. absurd (false≢true (sym h ∙ f refl)))
  refused_31 {A} false a f = go (well_formed r)
    where
      go : (w : Bool) → (◌≡◌ {A = Answer A} (refusal (cond w item_missing not_well_formed)) (refusal not_well_formed)) ↔ (w ≡ false)
      go true = (λ h. let n : item_missing ≡ not_well_formed = cc in absurd (omega (arith, n)), λ h. absurd (false≢true (sym h)))
      go false = (λ h. refl, λ h. refl)

  module _ (e j : ℕ) where
    pub sublayer_iff : (has_sublayer r e j ≡ true) ↔ (well_formed r ≡ true) × Sublayered r e j
    unfolding has_sublayer has_entry has_timing
    sublayer_iff = (
      λ h.
          let p = both (has_entry r e) (ltb j (sublayer_count r e)) h in
          let q = both (has_timing r) (ltb e (timing_count r)) p.0 in
          let t = both (well_formed r) (eqb (timing_flag r) 1) q.0 in
          (t.0, record { timed = eqb-true (timing_flag r) 1 t.1; entry = ltb-true e (timing_count r) q.1; sublayer = ltb-true j (sublayer_count r e) p.1 }),
      λ h. join (join (join h.0 (eq-eqb (timing_flag r) 1 h.1.timed)) (lt-ltb e (timing_count r) h.1.entry)) (lt-ltb j (sublayer_count r e) h.1.sublayer),
    )

    -- ── Intervals ─────────────────────────────────────────────────────
    pub interval_refused_33_iff : (picture_interval r e j ≡ refusal item_missing) ↔ (well_formed r ≡ true) × (Sublayered r e j → ⊥)
    unfolding picture_interval
    interval_refused_33_iff =
        let R = refused_33 (has_sublayer r e j) (interval_at r e j) (λ h. (sublayer_iff.0 h).0) in
        (λ h. let x = R.0 h in (x.0, λ s. x.1 (sublayer_iff.1 (x.0, s))), λ h. R.1 (h.0, λ b. h.1 (sublayer_iff.0 b).1))

    pub interval_refused_31_iff : (picture_interval r e j ≡ refusal not_well_formed) ↔ (well_formed r ≡ false)
    unfolding picture_interval
    interval_refused_31_iff = refused_31 (has_sublayer r e j) (interval_at r e j) (λ h. (sublayer_iff.0 h).0)

    -- so many microseconds times the scale are at most those of the ticks, and less than one scale below
    pub interval_rounds_down : (m : ℕ) → picture_interval r e j ≡ success (Some m)
        → (m * time_scale r ≤ microseconds_of (get_or (sublayer_at r e j) 2 0) (units_in_tick r)) × (microseconds_of (get_or (sublayer_at r e j) 2 0) (units_in_tick r) < (m + 1) * time_scale r)
    unfolding picture_interval interval_at interval_of
    interval_rounds_down m h =
        let s = said (has_sublayer r e j) (interval_at r e j) (Some m) (lacks r) h in
        let I = sublayer_iff.0 s.0 in
        let n : ℕ = microseconds_of (get_or (sublayer_at r e j) 2 0) (units_in_tick r) in
        let t : ℕ = time_scale r in
        let some : 0 < t = (viewed r I.0 I.1.timed).hrd.scale in
        let is : n / t ≡ m = known (eqb (get_or (sublayer_at r e j) 1 0) 1) (n / t) m s.1 in
        (omega (arith, ap (λ (k : ℕ). k * t) is, div-mul-le_self n t), omega (arith, ap (λ (k : ℕ). k * t) is, lt-div-mul-add {a = n} some))
      where
        known : (b : Bool) (x m : ℕ) → ◌≡◌ {A = Option ℕ} (cond b (Some x) None) (Some m) → x ≡ m
        known true x m h = cc
        known false x m h = clash cc

    -- an interval is missing exactly where the flag of a fixed rate within a sequence is not 1
    pub interval_missing_iff : (picture_interval r e j ≡ success None) ↔ (has_sublayer r e j ≡ true) × (get_or (sublayer_at r e j) 1 0 ≡ 1 → ⊥)
    unfolding picture_interval interval_at
    interval_missing_iff = (
      λ h. let s = said (has_sublayer r e j) (interval_at r e j) None (lacks r) h in (s.0, λ f. none (eqb (get_or (sublayer_at r e j) 1 0) 1) (interval_of (get_or (sublayer_at r e j) 2 0) (units_in_tick r) (time_scale r)) (eq-eqb _ 1 f) s.1),
      λ h. (λ i. cond (h.0 i) (success (cond (ne_eqb (get_or (sublayer_at r e j) 1 0) 1 h.1 i) (Some (interval_of (get_or (sublayer_at r e j) 2 0) (units_in_tick r) (time_scale r))) None)) (refusal (lacks r))),
    )
      where
        none : (b : Bool) (x : ℕ) → b ≡ true → ◌≡◌ {A = Option ℕ} (cond b (Some x) None) None → ⊥
        none true x f h = clash cc
        none false x f h = false≢true f

    -- ── Rates and sizes ───────────────────────────────────────────────
    module _ (kind : Kind) (c : ℕ) where
      pub schedule_iff : (has_schedule r e j kind c ≡ true) ↔ (well_formed r ≡ true) × Scheduled r e j kind c
      unfolding has_schedule
      schedule_iff = (
        λ h.
            let p = both (has_sublayer r e j) (ltb c (schedule_count r kind)) h in
            let q = sublayer_iff.0 p.0 in
            (q.0, record { sublayered = q.1; schedule = ltb-true c (schedule_count r kind) p.1 }),
        λ h. join (sublayer_iff.1 (h.0, h.1.sublayered)) (lt-ltb c (schedule_count r kind) h.1.schedule),
      )

      pub rate_refused_33_iff : (bit_rate r e j kind c ≡ refusal item_missing) ↔ (well_formed r ≡ true) × (Scheduled r e j kind c → ⊥)
      unfolding bit_rate
      rate_refused_33_iff =
          let R = refused_33 (has_schedule r e j kind c) (rate_at r e j kind c) (λ h. (schedule_iff.0 h).0) in
          (λ h. let x = R.0 h in (x.0, λ s. x.1 (schedule_iff.1 (x.0, s))), λ h. R.1 (h.0, λ b. h.1 (schedule_iff.0 b).1))

      pub size_refused_33_iff : (buffer_size r e j kind c ≡ refusal item_missing) ↔ (well_formed r ≡ true) × (Scheduled r e j kind c → ⊥)
      unfolding buffer_size
      size_refused_33_iff =
          let R = refused_33 (has_schedule r e j kind c) (size_at r e j kind c) (λ h. (schedule_iff.0 h).0) in
          (λ h. let x = R.0 h in (x.0, λ s. x.1 (schedule_iff.1 (x.0, s))), λ h. R.1 (h.0, λ b. h.1 (schedule_iff.0 b).1))

      pub rate_refused_31_iff : (bit_rate r e j kind c ≡ refusal not_well_formed) ↔ (well_formed r ≡ false)
      unfolding bit_rate
      rate_refused_31_iff = refused_31 (has_schedule r e j kind c) (rate_at r e j kind c) (λ h. (schedule_iff.0 h).0)

      pub size_refused_31_iff : (buffer_size r e j kind c ≡ refusal not_well_formed) ↔ (well_formed r ≡ false)
      unfolding buffer_size
      size_refused_31_iff = refused_31 (has_schedule r e j kind c) (size_at r e j kind c) (λ h. (schedule_iff.0 h).0)

      -- the rate is the field and one, scaled, whole
      pub rate_exact : (n : ℕ) → bit_rate r e j kind c ≡ success n → (n ≡ (get_or (schedule_at r e j kind c) 0 0 + 1) * 2 ^ (6 + bit_rate_scale r)) × (bit_rate_scale r ≤ 15)
      unfolding bit_rate rate_at bit_rate_of
      rate_exact n h =
          let s = said (has_schedule r e j kind c) (rate_at r e j kind c) n (lacks r) h in
          let I = schedule_iff.0 s.0 in
          (sym s.1, omega (arith, (viewed r I.0 I.1.sublayered.timed).hrd.bit_rate_scale))

      within : c < schedule_count r kind → c ≤ (hrd_of r).cpb_cnt_minus1
      unfolding schedule_count
      within h = go (eqb (flag_of (hrd_of r) kind) 0) h
        where
          go : (b : Bool) → c < cond b 0 ((hrd_of r).cpb_cnt_minus1 + 1) → c ≤ (hrd_of r).cpb_cnt_minus1
          go true l = absurd (omega (arith, l))
          go false l = omega (arith, l)

      -- the two fields that the figures are made of, where the list's flag is 1
      coded : flag_of (hrd_of r) kind ≡ 1 → well_formed r ≡ true → Scheduled r e j kind c → Fields (schedule_at r e j kind c)
      coded f w S = fields r w S.sublayered.timed e S.sublayered.entry j S.sublayered.sublayer c kind f (within S.schedule)

      -- the largest rate is below 2 ^ 53, and the largest size below 2 ^ 51
      pub rate_most : (n : ℕ) → flag_of (hrd_of r) kind ≡ 1 → bit_rate r e j kind c ≡ success n → n ≤ 9007199252643840
      unfolding bit_rate
      rate_most n f h =
          let I = schedule_iff.0 (said (has_schedule r e j kind c) (rate_at r e j kind c) n (lacks r) h).0 in
          let is = rate_exact n (unfold bit_rate in h) in
          let p : 2 ^ (6 + bit_rate_scale r) ≤ 2097152 = pow_mono {j = 21} (omega (arith, is.1)) in
          omega (arith, is.0, mul-le (get_or (schedule_at r e j kind c) 0 0 + 1) (2 ^ (6 + bit_rate_scale r)) 4294967295 2097152 (omega (arith, (coded f I.0 I.1).rate)) p)

      pub size_exact : (n : ℕ) → buffer_size r e j kind c ≡ success n → (n ≡ (get_or (schedule_at r e j kind c) 1 0 + 1) * 2 ^ (4 + cpb_size_scale r)) × (cpb_size_scale r ≤ 15)
      unfolding buffer_size size_at cpb_size_of
      size_exact n h =
          let s = said (has_schedule r e j kind c) (size_at r e j kind c) n (lacks r) h in
          let I = schedule_iff.0 s.0 in
          (sym s.1, omega (arith, (viewed r I.0 I.1.sublayered.timed).hrd.cpb_size_scale))

      pub size_most : (n : ℕ) → flag_of (hrd_of r) kind ≡ 1 → buffer_size r e j kind c ≡ success n → n ≤ 2251799813160960
      unfolding buffer_size
      size_most n f h =
          let I = schedule_iff.0 (said (has_schedule r e j kind c) (size_at r e j kind c) n (lacks r) h).0 in
          let is = size_exact n (unfold buffer_size in h) in
          let p : 2 ^ (4 + cpb_size_scale r) ≤ 524288 = pow_mono {j = 19} (omega (arith, is.1)) in
          omega (arith, is.0, mul-le (get_or (schedule_at r e j kind c) 1 0 + 1) (2 ^ (4 + cpb_size_scale r)) 4294967295 524288 (omega (arith, (coded f I.0 I.1).size)) p)
