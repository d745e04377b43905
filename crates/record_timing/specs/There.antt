-- What there is of a record's timing section, by what is asked first.
use Rattle.std.specs.Prelude.{ℕ, ◌≡◌, refl, List, Bool, true, false, cond, ◌&&◌, ltb}
use Rattle.std.proofs.Common.{sym, ap}
use Rattle.refusals.specs.Number.{not_well_formed, item_missing}
use Rattle.vps_definition.specs.Writing.{well_formed}
use Rattle.vps_definition.specs.Layout.{timing_count}
use Rattle.vps_definition.specs.Views.{sublayer_count}
use Rattle.record_timing.specs.declared.schedule.Kind.{Kind}
use Rattle.record_timing.specs.Timing.{schedule_count, has_timing, has_entry, has_sublayer, has_schedule, lacks}

-- a condition with another behind it
first_false : {a : Bool} (b : Bool) → a ≡ false → (a && b) ≡ false
first_false b e = ap (λ (c : Bool). c && b) e

first_true : {a : Bool} (b : Bool) → a ≡ true → b ≡ (a && b)
first_true b e = sym (ap (λ (c : Bool). c && b) e)

of_both : (a b : Bool) → (a && b) ≡ true → a ≡ true
of_both true b e = refl
of_both false b e = e

module _ (r : List ℕ) where
  -- a record that has a timing section lacks nothing but the item
  pub lacks_item : has_timing r ≡ true → lacks r ≡ item_missing
  unfolding has_timing lacks
  lacks_item t = ap (λ (b : Bool). cond b item_missing not_well_formed) (of_both (well_formed r) _ t)

  module _ (e : ℕ) where
    no_timing : has_timing r ≡ false → has_entry r e ≡ false
    unfolding has_entry
    no_timing f = first_false _ f

    pub entry_there : has_timing r ≡ true → ltb e (timing_count r) ≡ has_entry r e
    unfolding has_entry
    entry_there t = first_true _ t

    pub entry_timing : has_entry r e ≡ true → has_timing r ≡ true
    unfolding has_entry
    entry_timing f = of_both (has_timing r) _ f

    module _ (j : ℕ) where
      pub no_entry : has_entry r e ≡ false → has_sublayer r e j ≡ false
      unfolding has_sublayer
      no_entry f = first_false _ f

      pub none_without_timing : has_timing r ≡ false → has_sublayer r e j ≡ false
      none_without_timing f = no_entry (no_timing f)

      pub sublayer_there : has_entry r e ≡ true → ltb j (sublayer_count r e) ≡ has_sublayer r e j
      unfolding has_sublayer
      sublayer_there f = first_true _ f

      pub sublayer_entry : has_sublayer r e j ≡ true → has_entry r e ≡ true
      unfolding has_sublayer
      sublayer_entry f = of_both (has_entry r e) _ f

      pub sublayer_lacks : has_sublayer r e j ≡ true → lacks r ≡ item_missing
      sublayer_lacks f = lacks_item (entry_timing (sublayer_entry f))

      module _ (kind : Kind) (c : ℕ) where
        pub no_sublayer : has_sublayer r e j ≡ false → has_schedule r e j kind c ≡ false
        unfolding has_schedule
        no_sublayer f = first_false _ f

        pub schedule_there : has_sublayer r e j ≡ true → ltb c (schedule_count r kind) ≡ has_schedule r e j kind c
        unfolding has_schedule
        schedule_there f = first_true _ f
