-- The views of an accepted record are what the tables read: header, layers, sets; and the counts that follow from them.
use Rattle.std.specs.Prelude.{ℕ, ◌≤◌, ◌≡◌, Bool, true, false, cond, eqb, take}
use Rattle.std.proofs.Math.Path.{refl, sym, ap}
use Rattle.std.proofs.Common.{◌∙◌}
use mathlib.Core.List.{List}
use Rattle.std.proofs.Math.ListN.{get_or, drop}
use Rattle.vps_definition.specs.Rules.{Rules}
use Rattle.vps_definition.specs.Syntax.{Token}
use Rattle.vps_definition.specs.OutputLayerSets.{Sets, total_num_olss, num_multi_layer_olss}
use Rattle.vps_definition.specs.OutputLayerSets.Sets.{each_layer}
use Rattle.vps_definition.specs.Layout.{from_section, flags_from, sets_in, ptl_count, set_count, multi_count, timing_flag, timing_count, timing_indices}
use Rattle.vps_definition.specs.Views.{header_of, layers_of, sets_read_of, refs_of, sets_of, timing_entry}
use Rattle.vps_laws.specs.OutputLayerSets.{multi_each_layer}
use Rattle.vps_laws.specs.Sections.{Sections}
use Rattle.vps_laws.specs.SlotViews.{SlotsRead}
use Rattle.vps_laws.specs.TimingViews.{TimingViewed}
use Rattle.vps_laws.specs.Laid.{dpb_entries_of}
use Rattle.vps_laws.specs.Claims.{rbsp_in}

-- so the DPB section has as many entries as there are multi-layer sets, in every mode
pub entries_multi : (each n : ℕ) (refs : List (List ℕ)) (sets : Sets) → (eqb each 0 ≡ false → sets ≡ each_layer)
    → dpb_entries_of each (num_multi_layer_olss n refs sets) ≡ num_multi_layer_olss n refs sets
entries_multi each n refs sets h = go (eqb each 0) h
  where
    go : (b : Bool) → (b ≡ false → sets ≡ each_layer) → cond b (num_multi_layer_olss n refs sets) 0 ≡ num_multi_layer_olss n refs sets
    go true f = refl
    go false f = sym (ap (num_multi_layer_olss n refs) (f refl) ∙ multi_each_layer n refs)

-- ── A record that was read ────────────────────────────────────────────
-- what looking through the record finds is what the sections ended in
pub record Viewed {rules : Rules} {s g : List ℕ} {t : List Token} {next : ℕ} (r : List ℕ) (S : Sections rules s g t next) : Type 0 where
  pub header_is : header_of r ≡ S.h
  pub layers_is : layers_of r ≡ S.l
  pub sets_read_is : sets_read_of r ≡ S.sets
  pub refs_is : refs_of r ≡ S.l.refs
  pub sets_is : sets_of r ≡ S.sets.sets
  pub count : get_or r 0 0 ≡ S.h.layers
  pub some : 1 ≤ get_or r 0 0
  pub few : get_or r 0 0 ≤ 64
  pub total : set_count r ≡ total_num_olss S.h.layers S.sets.sets
  pub multi : multi_count r ≡ num_multi_layer_olss S.h.layers S.l.refs S.sets.sets
  -- by number, for code that goes through the record
  pub layers_start : from_section r 1 ≡ drop 9 r
  pub refs_numbered : refs_of r ≡ flags_from (get_or r 0 0) 0 (drop 9 r)
  pub sets_numbered : sets_of r ≡ sets_in (get_or r 0 0) (get_or r 5 0) (get_or r 6 0) (from_section r 2)

-- ── An accepted record ────────────────────────────────────────────────
-- the sections that the table read from the unit, and the views of the record are theirs
pub record Read (rules : Rules) (u r : List ℕ) : Type 0 where
  pub general : List ℕ
  pub tokens : List Token
  pub behind : ℕ
  pub read : Sections rules (rbsp_in u) general tokens behind
  pub seen : Viewed r read
  pub slots : SlotsRead r (ptl_count r) (from_section r 3) (from_section r 4)
  pub timing : timing_flag r ≡ 1 → TimingViewed r
  pub indices : timing_flag r ≡ 1 → timing_indices r ≡ take (multi_count r) (timing_entry r (timing_count r))
