-- How many layers and sets a well-formed record has at the most and at the least, and that its sets have layers of the record only.
use Rattle.std.specs.Prelude.{ℕ, zero, suc, ◌+◌, ◌≤◌, ◌<◌, ◌≡◌, refl, List, [], Bool, true, false, cond, ltb, eqb, length, get_or, drop}
use Rattle.std.proofs.Common.{sym, ap, ◌∙◌, arith, eqb-true, leb-true, ltb-true, ltb-false, subst}
use Rattle.std.proofs.lemmas.Bool.{false≢true}
use Rattle.vps_definition.specs.Rules.{today}
use Rattle.vps_definition.specs.OutputLayerSets.{Sets, flagged, refers_by, in_set, total_num_olss}
use Rattle.vps_definition.specs.OutputLayerSets.Sets.{each_layer, up_to, chosen}
use Rattle.vps_definition.specs.Writing.{well_formed}
use Rattle.vps_definition.specs.Layout.{from_section, flags_from, entry_length, rows_from, sets_in}
use Rattle.vps_definition.specs.Views.{refs_of, sets_of, layer_in_set}
use Rattle.vps_laws.proofs.Bound.{sets_most}
use Rattle.vps_laws.proofs.Views.{well_formed_viewed}
use Rattle.layer_sets.specs.Flags.{flagged_short}
use Rattle.layer_sets.specs.References.{Below, refers_below}
use Rattle.layer_sets.specs.Closed.{included_low}
use Rattle.record_layers.specs.Turns.{flags_short}
use Rattle.record_sets.specs.Rows.{row_short}
use Rattle.record_sets.specs.Sets.{sets_given, sets_chosen}

-- ── Layers of the record only ─────────────────────────────────────────
-- the flags that the Layers section holds are of layers below
flags_below : (n i : ℕ) (x : List ℕ) (k : ℕ) → length (get_or (flags_from n i x) k []) ≤ i + k
unfolding flags_from
flags_below zero i x k = omega arith
flags_below (suc n) i x zero = omega (arith, flags_short i x)
flags_below (suc n) i x (suc k) = omega (arith, flags_below n (i + 1) (drop (entry_length i x) x) k)

module _ (n : ℕ) (refs : List (List ℕ)) (some : 1 ≤ n) (B : Below refs) where
  row_low : (rows : List (List ℕ)) → ((k : ℕ) → length (get_or rows k []) ≤ n) → (i j : ℕ) → in_set n refs (chosen rows) i j ≡ true → j < n
  unfolding in_set
  row_low rows short zero j e = omega (arith, some, eqb-true 0 j e)
  row_low rows short (suc i) j e = go (ltb j n) refl
    where
      flag : (j : ℕ) → flagged (get_or rows i []) j ≡ true → j < n
      flag j f = omega (arith, flagged_short (get_or rows i []) j f, short i)

      go : (b : Bool) → ltb j n ≡ b → j < n
      go true l = ltb-true j n l
      go false l = absurd (false≢true (sym (included_low n (refers_by refs) (flagged (get_or rows i [])) (refers_below B) flag j (ltb-false j n l)) ∙ e))

  given_low : (each mode : ℕ) (x : List ℕ) (i j : ℕ) → i < total_num_olss n (sets_in n each mode x) → in_set n refs (sets_in n each mode x) i j ≡ true → j < n
  unfolding sets_in total_num_olss in_set
  given_low each mode x i j = go (eqb each 0) (eqb mode 2)
    where
      rows : List (List ℕ)
      rows = rows_from n (get_or x 0 0) (drop 1 x)

      go : (b c : Bool) → i < total_num_olss n (cond b (cond c (chosen rows) up_to) each_layer) → in_set n refs (cond b (cond c (chosen rows) up_to) each_layer) i j ≡ true → j < n
      go true true l e = row_low rows (row_short n (get_or x 0 0) (drop 1 x)) i j e
      go true false l e = omega (arith, l, leb-true j i e)
      go false c l e = omega (arith, l, eqb-true i j e)

-- there is a set, in every mode
some_given : (n each mode : ℕ) (x : List ℕ) → 1 ≤ n → 1 ≤ total_num_olss n (sets_in n each mode x)
unfolding sets_in total_num_olss
some_given n each mode x l = go (eqb each 0) (eqb mode 2)
  where
    go : (b c : Bool) → 1 ≤ total_num_olss n (cond b (cond c (chosen (rows_from n (get_or x 0 0) (drop 1 x))) up_to) each_layer)
    go true true = omega arith
    go true false = l
    go false c = l

-- ── Of every well-formed record ───────────────────────────────────────
module _ (r : List ℕ) (w : well_formed r ≡ true) where
  pub few_layers : (1 ≤ get_or r 0 0) × (get_or r 0 0 ≤ 64)
  few_layers = let seen = (well_formed_viewed today r w).1.seen in (seen.some, seen.few)

  pub few_sets : total_num_olss (get_or r 0 0) (sets_of r) ≤ 257
  few_sets =
      let R = (well_formed_viewed today r w).1 in
      let few : R.read.h.layers ≤ 64 = omega (arith, R.seen.count, R.seen.few) in
      rw (R.seen.count, R.seen.sets_is) ((sets_most R.read.h few).holds _ R.read.at₂ R.read.sets_read)

  pub some_sets : 1 ≤ total_num_olss (get_or r 0 0) (sets_of r)
  some_sets = rw (sets_given r w) (some_given (get_or r 0 0) (get_or r 5 0) (get_or r 6 0) (from_section r 2) few_layers.0)

  pub references_below : Below (refs_of r)
  references_below = record {
    short = λ k.
        let seen = (well_formed_viewed today r w).1.seen in
        omega (arith, flags_below (get_or r 0 0) 0 (drop 9 r) k, ap (λ (f : List (List ℕ)). length (get_or f k [])) seen.refs_numbered);
  }

  pub set_low : (i : ℕ) → i < total_num_olss (get_or r 0 0) (sets_of r) → (j : ℕ) → in_set (get_or r 0 0) (refs_of r) (sets_of r) i j ≡ true → j < get_or r 0 0
  set_low i l j e =
      given_low (get_or r 0 0) (refs_of r) few_layers.0 references_below (get_or r 5 0) (get_or r 6 0) (from_section r 2) i j
      (subst (λ (s : Sets). i < total_num_olss (get_or r 0 0) s) (sets_given r w) l)
      (ap (λ (s : Sets). in_set (get_or r 0 0) (refs_of r) s i j) (sym (sets_given r w)) ∙ e)

  pub mode_two : get_or r 5 0 ≡ 0 → get_or r 6 0 ≡ 2 → (j : ℕ) → layer_in_set r 0 j ≡ eqb 0 j
  unfolding layer_in_set in_set
  mode_two e m j = ap (λ (s : Sets). in_set (get_or r 0 0) (refs_of r) s 0 j) (sets_chosen r w e m)
