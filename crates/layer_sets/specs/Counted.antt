-- How many output layer sets there are, and how many have more than one layer, by the closed masks of the layers.
use Rattle.std.specs.Prelude.{ℕ, zero, suc, ◌-◌, ◌≤◌, ◌≡◌, refl, List, [], ltb, length, get_or}
use Rattle.std.proofs.Common.{arith, sym, ap, ◌∙◌}
use Rattle.vps_definition.specs.OutputLayerSets.{Sets, flagged, refers_by, total_num_olss, num_multi_layer_olss}
use Rattle.vps_definition.specs.OutputLayerSets.Sets.{each_layer, up_to, chosen}
use Rattle.vps_laws.specs.OutputLayerSets.{count_ext, multi_chosen, multi_each_layer, multi_up_to, total_each_layer, total_up_to, total_chosen}
use Rattle.layer_sets.specs.Closed.{Closed, row_many}
use Rattle.layer_sets.specs.Flags.{flagged_short}
use Rattle.layer_sets.specs.References.{Below, refers_below}
use Rattle.layer_sets.specs.Rows.{RowsHeld}

-- the closed masks are those of n layers with these references
pub record Known (refs : List (List ℕ)) (closed : List ℕ) (n : ℕ) : Type 0 where
  pub some : 1 ≤ n
  pub few : n ≤ 64
  pub below : Below refs
  pub masks : Closed (refers_by refs) closed n

-- T and M of sets
pub record Counted (n : ℕ) (refs : List (List ℕ)) (sets : Sets) (total multi : ℕ) : Type 0 where
  pub all : total ≡ total_num_olss n sets
  pub many : multi ≡ num_multi_layer_olss n refs sets

-- ── T and M by mode ───────────────────────────────────────────────────
pub counted_each_layer : (n : ℕ) (refs : List (List ℕ)) → Counted n refs each_layer n 0
counted_each_layer n refs = record { all = sym (total_each_layer n); many = sym (multi_each_layer n refs) }

pub counted_up_to : (n : ℕ) (refs : List (List ℕ)) → 1 ≤ n → Counted n refs up_to n (n - 1)
counted_up_to zero refs l = absurd (omega arith)
counted_up_to (suc n) refs l = record { all = sym (total_up_to (suc n)); many = omega arith ∙ sym (multi_up_to n refs) }

pub counted_chosen : (n : ℕ) {refs rows : List (List ℕ)} {closed : List ℕ} {total multi : ℕ} → Known refs closed n → RowsHeld n closed rows total multi → Counted n refs (chosen rows) total multi
counted_chosen zero K R = absurd (omega (arith, K.some))
counted_chosen (suc n) {refs} {rows} {closed} K R =
    record {
      all = sym R.count ∙ sym (total_chosen (suc n) rows);
      many =
          R.many
          ∙ count_ext (length rows) _ _ (λ k l. ap (ltb 1)
          (row_many (refers_by refs) (flagged (get_or rows k [])) closed (suc n) _ K.few K.masks refl (refers_below K.below)
          (λ j e. omega (arith, flagged_short (get_or rows k []) j e, R.short k))))
          ∙ sym (multi_chosen n refs rows);
    }
