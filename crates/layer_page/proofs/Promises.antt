-- What is promised of the layer page of every well-formed record, by the page's bytes.
use Rattle.std.specs.Prelude.{ℕ, suc, ◌+◌, ◌*◌, ◌<◌, ◌≤◌, ◌≡◌, ◌↔◌, List, Bool, true, false, ◌&&◌, leb, ltb, eqb, length, get_or, take, drop, count_by}
use Rattle.std.proofs.Common.{sym, ap, ◌∙◌, arith, eqb-true, eq-eqb, lt-ltb, inl}
use Rattle.vps_definition.specs.OutputLayerSets.{Sets, flagged, refers_by, in_set, total_num_olss, num_layers_in_ols}
use Rattle.vps_definition.specs.Writing.{well_formed}
use Rattle.vps_definition.specs.Views.{refs_of, sets_of, layer_in_set}
use Rattle.vps_laws.specs.OutputLayerSets.{included_complete}
use Rattle.record_sets.specs.Few.{few_layers, few_sets, some_sets, set_low, mode_two}
use Rattle.record_sets.specs.Reached.{references_in}
use Rattle.record_sets.specs.Rows.{row_of}
use Rattle.record_sets.specs.Sets.{sets_each, sets_up_to, sets_chosen}
use Rattle.layer_page.specs.Page.{place, columns, page_of}
use Rattle.layer_page.specs.Places.{place_none, place_out}
use Rattle.layer_page.specs.Lines.{marked, marks, columns_stand, places_stand, place_stands}
use Rattle.layer_page.specs.Answers as Answers

module _ (r : List ℕ) (w : well_formed r ≡ true) where
  -- how many layers there are, and how many sets
  abbrev pub layers : ℕ
  layers = get_or r 0 0

  abbrev pub sets : ℕ
  sets = total_num_olss (get_or r 0 0) (sets_of r)

  -- ── The page ────────────────────────────────────────────────────────
  -- 72 bytes for each set
  pub page_length : length (page_of r) ≡ 72 * sets
  page_length = Answers.page_length r w

  -- ── Line k ──────────────────────────────────────────────────────────
  module _ (k : ℕ) (l : k < sets) where
    place_at : (i : ℕ) → i < 64 → get_or (page_of r) (72 * k + (7 + i)) 0 ≡ place layers (layer_in_set r k) i
    unfolding page_of layer_in_set
    place_at i h = place_stands layers (few_layers r w).1 (refs_of r) (sets_of r) sets k (omega (arith, few_sets r w)) l i h

    hash : (i : ℕ) → i < 64 → eqb 35 (get_or (page_of r) (72 * k + (7 + i)) 0) ≡ (ltb i layers && layer_in_set r k i)
    hash i h = ap (eqb 35) (place_at i h) ∙ marked layers (layer_in_set r k) i

    low : (i : ℕ) → layer_in_set r k i ≡ true → i < layers
    unfolding layer_in_set
    low i e = set_low r w k l i e

    -- place i is # exactly if layer i is in set k
    pub hash_iff_in_set : (i : ℕ) → i < 64 → (get_or (page_of r) (72 * k + (7 + i)) 0 ≡ 35) ↔ (layer_in_set r k i ≡ true)
    hash_iff_in_set i h = (
      λ e. both (ltb i layers) (layer_in_set r k i) (sym (hash i h) ∙ eq-eqb 35 _ (sym e)),
      λ e. sym (eqb-true 35 _ (hash i h ∙ ap (λ (b : Bool). ltb i layers && b) e ∙ ap (λ (b : Bool). b && true) (lt-ltb i layers (low i e)))),
    )
      where
        both : (a b : Bool) → (a && b) ≡ true → b ≡ true
        both true b e = e
        both false b e = absurd (let n : ◌≡◌ {A = ℕ} 0 1 = cc in omega arith)

    -- of the record's layers a dot stands for one that is not in it
    pub dot_where_not : (i : ℕ) → i < layers → layer_in_set r k i ≡ false → get_or (page_of r) (72 * k + (7 + i)) 0 ≡ 46
    dot_where_not i h e = place_at i (omega (arith, h, (few_layers r w).1)) ∙ sym (place_out layers (layer_in_set r k) i h e)

    -- and behind them blanks
    pub blank_behind : (i : ℕ) → layers ≤ i → i < 64 → get_or (page_of r) (72 * k + (7 + i)) 0 ≡ 32
    blank_behind i h g = place_at i g ∙ sym (place_none layers (layer_in_set r k) i h)

    -- the layer count is how many # stand there
    pub layers_counted : take 7 (drop (72 * k) (page_of r)) ≡ columns k (count_by (eqb 35) (take 64 (drop (72 * k + 7) (page_of r))))
    unfolding page_of num_layers_in_ols
    layers_counted =
        let few : layers ≤ 64 = (few_layers r w).1 in
        let most : sets ≤ 1000 = omega (arith, few_sets r w) in
        columns_stand layers few (refs_of r) (sets_of r) sets k most l
        ∙ sym (ap (columns k) (ap (count_by (eqb 35)) (places_stand layers few (refs_of r) (sets_of r) sets k most l) ∙ marks layers (in_set layers (refs_of r) (sets_of r) k) few))

  -- ── Which layers a set has ──────────────────────────────────────────
  given : (k i : ℕ) {s : Sets} → sets_of r ≡ s → layer_in_set r k i ≡ in_set layers (refs_of r) s k i
  unfolding layer_in_set
  given k i e = ap (λ (s : Sets). in_set layers (refs_of r) s k i) e

  -- each layer a set: set k is layer k alone
  pub layer_alone : (get_or r 5 0 ≡ 0 → ⊥) → (k i : ℕ) → layer_in_set r k i ≡ eqb k i
  unfolding in_set
  layer_alone e k i = given k i (sets_each r w e)

  -- modes 0 and 1: set k has layers 0 to k
  pub layers_up_to : get_or r 5 0 ≡ 0 → (get_or r 6 0 ≡ 2 → ⊥) → (k i : ℕ) → layer_in_set r k i ≡ leb i k
  unfolding in_set
  layers_up_to e m k i = given k i (sets_up_to r w e m)

  -- ── Rows of output layers ───────────────────────────────────────────
  module _ (each : get_or r 5 0 ≡ 0) (mode : get_or r 6 0 ≡ 2) where
    -- set 0 is layer 0 alone
    pub first_is_layer_0 : (i : ℕ) → layer_in_set r 0 i ≡ eqb 0 i
    first_is_layer_0 = mode_two r w each mode

    pub hash_at_layer_0 : (i : ℕ) → i < 64 → (get_or (page_of r) (7 + i) 0 ≡ 35) ↔ (i ≡ 0)
    hash_at_layer_0 i h =
        let here : 72 * 0 + (7 + i) ≡ 7 + i = omega arith in
        let H = hash_iff_in_set 0 (some_sets r w) i h in (
          λ e. sym (eqb-true 0 i (sym (first_is_layer_0 i) ∙ H.0 (ap (λ (p : ℕ). get_or (page_of r) p 0) here ∙ e))),
          λ e. ap (λ (p : ℕ). get_or (page_of r) p 0) (sym here) ∙ H.1 (first_is_layer_0 i ∙ eq-eqb 0 i (sym e)),
        )

    -- the output layers of row k are in set k + 1
    pub output_layers_in : (k i : ℕ) → flagged (row_of r k) i ≡ true → layer_in_set r (suc k) i ≡ true
    unfolding in_set row_of
    output_layers_in k i e = given (suc k) i (sets_chosen r w each mode) ∙ included_complete layers (refers_by (refs_of r)) (flagged (row_of r k)) i (inl e)

    -- and with a layer the layers to which it refers
    module _ (k : ℕ) (l : suc k < sets) where
      pub references_marked : (i j : ℕ) → i < 64 → j < 64 → refers_by (refs_of r) i j ≡ true
          → get_or (page_of r) (72 * suc k + (7 + i)) 0 ≡ 35 → get_or (page_of r) (72 * suc k + (7 + j)) 0 ≡ 35
      references_marked i j h g f e = (hash_iff_in_set (suc k) l j g).1 (references_in r w each mode k l i j ((hash_iff_in_set (suc k) l i h).0 e) f)

      -- those two steps away too
      pub two_steps_marked : (i m j : ℕ) → i < 64 → m < 64 → j < 64 → refers_by (refs_of r) i m ≡ true → refers_by (refs_of r) m j ≡ true
          → get_or (page_of r) (72 * suc k + (7 + i)) 0 ≡ 35 → get_or (page_of r) (72 * suc k + (7 + j)) 0 ≡ 35
      two_steps_marked i m j h g n f f' e = references_marked m j g n f' (references_marked i m h g f e)
