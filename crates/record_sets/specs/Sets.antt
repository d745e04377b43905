-- A well-formed record's sets by mode, and their masks.
use Rattle.std.specs.Prelude.{ℕ, zero, suc, ◌-◌, ◌≤◌, ◌≡◌, refl, List, true, leb, eqb, length, get_or, take, drop}
use Rattle.std.proofs.Common.{sym, ap, ◌∙◌, arith, add-zero, subst, eq-eqb, ne_eqb, get_or-drop}
use Rattle.vps_definition.specs.Rules.{today}
use Rattle.vps_definition.specs.OutputLayerSets.{Sets, with_reached, included, flagged, refers_by, in_set, total_num_olss, mask_of, set_mask}
use Rattle.vps_definition.specs.OutputLayerSets.Sets.{each_layer, up_to, chosen}
use Rattle.vps_definition.specs.Record.{start_of}
use Rattle.vps_definition.specs.Writing.{well_formed}
use Rattle.vps_definition.specs.Layout.{from_section, flags_from, rows_from, sets_in, set_count}
use Rattle.vps_definition.specs.Views.{refs_of, sets_of}
use Rattle.vps_laws.specs.Claims.{well_formed_written}
use Rattle.vps_laws.proofs.Units.{written_read}
use Rattle.vps_laws.proofs.Views.{page_count, well_formed_viewed}
use Rattle.layer_sets.specs.Masks.{bit_of, bit_at}
use Rattle.layer_sets.specs.Closed.{Closed, cover_first, row_mask}
use Rattle.record_layers.specs.Turns.{Stored}
use Rattle.record_layers.specs.Record.{record_masks}
use Rattle.record_sets.specs.Rows.{row_of}

-- the record is well formed, and the first masks are what its layers reach
pub record Masked (r closed : List ℕ) : Type 0 where
  pub formed : well_formed r ≡ true
  pub masks : Closed (refers_by (refs_of r)) closed (get_or r 0 0)

pub masked_by : (r : List ℕ) {n : ℕ} {before after : List ℕ} → well_formed r ≡ true → 64 ≤ length before → n ≡ get_or r 0 0 → Stored (flags_from n 0 (drop 9 r)) n before after → Masked r after
masked_by r {before = before} {after = after} w l e S = record { formed = w; masks = record_masks r before after w l (subst (λ (m : ℕ). Stored (flags_from m 0 (drop 9 r)) m before after) e S) }

module _ (r : List ℕ) (w : well_formed r ≡ true) where
  -- ── How many ────────────────────────────────────────────────────────
  pub count_read : {s v : ℕ} → s ≡ start_of r 4 → v ≡ get_or r s 0 → v ≡ total_num_olss (get_or r 0 0) (sets_of r)
  unfolding set_count from_section
  count_read {s} e f =
      let W = well_formed_written today r w in
      f ∙ ap (λ (k : ℕ). get_or r k 0) (sym (add-zero s)) ∙ sym (get_or-drop s r 0 0) ∙ ap (λ (k : ℕ). get_or (drop k r) 0 0) e
      ∙ sym (page_count today W.0 r _ (written_read today r W.0 W.1)).0

  -- ── By mode ─────────────────────────────────────────────────────────
  pub sets_given : sets_of r ≡ sets_in (get_or r 0 0) (get_or r 5 0) (get_or r 6 0) (from_section r 2)
  sets_given = (well_formed_viewed today r w).1.seen.sets_numbered

  pub sets_each : (get_or r 5 0 ≡ 0 → ⊥) → sets_of r ≡ each_layer
  unfolding sets_in
  sets_each e = sets_given ∙ rw (ne_eqb (get_or r 5 0) 0 e) refl

  pub sets_up_to : get_or r 5 0 ≡ 0 → (get_or r 6 0 ≡ 2 → ⊥) → sets_of r ≡ up_to
  unfolding sets_in
  sets_up_to e m = sets_given ∙ rw (eq-eqb (get_or r 5 0) 0 e, ne_eqb (get_or r 6 0) 2 m) refl

  pub sets_chosen : get_or r 5 0 ≡ 0 → get_or r 6 0 ≡ 2 → sets_of r ≡ chosen (rows_from (get_or r 0 0) (get_or (from_section r 2) 0 0) (drop 1 (from_section r 2)))
  unfolding sets_in
  sets_chosen e m = sets_given ∙ rw (eq-eqb (get_or r 5 0) 0 e, eq-eqb (get_or r 6 0) 2 m) refl

  -- ── Masks ───────────────────────────────────────────────────────────
  mask_as : (i : ℕ) {sets : Sets} → sets_of r ≡ sets → set_mask (get_or r 0 0) (refs_of r) sets i ≡ set_mask (get_or r 0 0) (refs_of r) (sets_of r) i
  mask_as i e = ap (λ (s : Sets). set_mask (get_or r 0 0) (refs_of r) s i) (sym e)

  pub mask_each : (i : ℕ) → (get_or r 5 0 ≡ 0 → ⊥) → mask_of 64 (eqb i) ≡ set_mask (get_or r 0 0) (refs_of r) (sets_of r) i
  unfolding set_mask in_set
  mask_each i e = mask_as i (sets_each e)

  pub mask_up_to : (i : ℕ) → get_or r 5 0 ≡ 0 → (get_or r 6 0 ≡ 2 → ⊥) → mask_of 64 (λ j. leb j i) ≡ set_mask (get_or r 0 0) (refs_of r) (sets_of r) i
  unfolding set_mask in_set
  mask_up_to i e m = mask_as i (sets_up_to e m)

  pub mask_first_set : (i : ℕ) → get_or r 5 0 ≡ 0 → get_or r 6 0 ≡ 2 → i ≡ 0 → mask_of 64 (eqb 0) ≡ set_mask (get_or r 0 0) (refs_of r) (sets_of r) i
  unfolding set_mask in_set
  mask_first_set zero e m z = mask_as 0 (sets_chosen e m)
  mask_first_set (suc i) e m z = absurd (omega (arith, z))

  pub mask_row : (i : ℕ) → get_or r 5 0 ≡ 0 → get_or r 6 0 ≡ 2 → (i ≡ 0 → ⊥)
      → mask_of 64 (included (get_or r 0 0) (refers_by (refs_of r)) (flagged (row_of r (i - 1)))) ≡ set_mask (get_or r 0 0) (refs_of r) (sets_of r) i
  unfolding set_mask in_set row_of
  mask_row zero e m z = absurd (z refl)
  mask_row (suc i) e m z =
      let k : suc i - 1 ≡ i = omega arith in
      ap (λ (j : ℕ). mask_of 64 (included (get_or r 0 0) (refers_by (refs_of r)) (flagged (row_of r j)))) k ∙ mask_as (suc i) (sets_chosen e m)

-- a row's layers, with all that they reach
pub row_covered : (r closed : List ℕ) (k : ℕ) {n m : ℕ} {masks flags : List ℕ} → Masked r closed → n ≡ get_or r 0 0 → masks ≡ take n closed → flags ≡ row_of r k → m ≡ mask_of 64 (flagged flags)
    → mask_of 64 (with_reached (length masks) (bit_at masks) (bit_of m)) ≡ mask_of 64 (included (get_or r 0 0) (refers_by (refs_of r)) (flagged (row_of r k)))
row_covered r closed k {n} {m} {masks} M e f g h =
    let few : get_or r 0 0 ≤ 64 = (well_formed_viewed today r M.formed).1.seen.few in
    ap (λ (x : List ℕ). mask_of 64 (with_reached (length x) (bit_at x) (bit_of m))) f
    ∙ cover_first closed n (bit_of m)
    ∙ ap (λ (k : ℕ). mask_of 64 (with_reached k (bit_at closed) (bit_of m))) e
    ∙ row_mask (refers_by (refs_of r)) (flagged (row_of r k)) closed (get_or r 0 0) m few M.masks (h ∙ ap (λ (x : List ℕ). mask_of 64 (flagged x)) g)
