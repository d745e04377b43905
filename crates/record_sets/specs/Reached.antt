-- What a set of rows has, it has with all references: of a layer that is in it those to which the layer refers are in it, and so on.
use Rattle.std.specs.Prelude.{ℕ, suc, ◌<◌, ◌≡◌, List, Bool, true, get_or}
use Rattle.std.proofs.Common.{sym, ap, ◌∙◌, inr, ⊎_elim}
use Rattle.vps_definition.specs.OutputLayerSets.{Sets, Reaches, included, flagged, refers_by, in_set, total_num_olss}
use Rattle.vps_definition.specs.OutputLayerSets.Reaches.{direct, through}
use Rattle.vps_definition.specs.Writing.{well_formed}
use Rattle.vps_definition.specs.Views.{refs_of, sets_of, layer_in_set}
use Rattle.vps_laws.specs.OutputLayerSets.{included_sound, included_complete}
use Rattle.layer_sets.specs.References.{refers_below}
use Rattle.record_sets.specs.Few.{set_low, references_below}
use Rattle.record_sets.specs.Rows.{row_of}
use Rattle.record_sets.specs.Sets.{sets_chosen}

-- a reference more
reaches_on : (d : ℕ → ℕ → Bool) → ((i j : ℕ) → d i j ≡ true → j < i) → {i j k : ℕ} → Reaches d i j → d j k ≡ true → Reaches d i k
reaches_on d below (direct {i = i} {j = j} e) f = through (below i j e) e (direct f)
reaches_on d below (through l e r) f = through l e (reaches_on d below r f)

included_on : (n : ℕ) (d : ℕ → ℕ → Bool) (p : ℕ → Bool) → ((i j : ℕ) → d i j ≡ true → j < i) → (i j : ℕ) → i < n → included n d p i ≡ true → d i j ≡ true → included n d p j ≡ true
included_on n d p below i j l e f =
    included_complete n d p j (inr (⊎_elim
    {C = (k : ℕ) × (k < n) × (p k ≡ true) × Reaches d k j}
    (λ g. (i, l, g, direct f))
    (λ r. (r.0, r.1, r.2, reaches_on d below r.3 f))
    (included_sound n d p i e)))

module _ (r : List ℕ) (w : well_formed r ≡ true) (each : get_or r 5 0 ≡ 0) (mode : get_or r 6 0 ≡ 2) where
  pub references_in : (k : ℕ) → suc k < total_num_olss (get_or r 0 0) (sets_of r) → (i j : ℕ) → layer_in_set r (suc k) i ≡ true → refers_by (refs_of r) i j ≡ true → layer_in_set r (suc k) j ≡ true
  unfolding layer_in_set in_set row_of
  references_in k l i j e f =
      let given : (m : ℕ) → in_set (get_or r 0 0) (refs_of r) (sets_of r) (suc k) m ≡ included (get_or r 0 0) (refers_by (refs_of r)) (flagged (row_of r k)) m =
      λ m. ap (λ (s : Sets). in_set (get_or r 0 0) (refs_of r) s (suc k) m) (sets_chosen r w each mode) in
      given j
      ∙ included_on (get_or r 0 0) (refers_by (refs_of r)) (flagged (row_of r k)) (refers_below (references_below r w)) i j (set_low r w (suc k) l i e) (sym (given i) ∙ e) f
