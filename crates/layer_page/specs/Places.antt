-- The places of a line, one by one.
use Rattle.std.specs.Prelude.{ℕ, zero, suc, ◌+◌, ◌≤◌, ◌<◌, ◌≡◌, refl, List, [], ◌∷◌, ◌++◌, Bool, true, false, length, take, set}
use Rattle.std.proofs.Common.{sym, ap, ◌∙◌, arith, add-one, lt-ltb, le-ltb, length-append}
use Rattle.std.proofs.lemmas.List.{take_more_set}
use Rattle.layer_page.specs.Page.{place, places}

module _ (n : ℕ) (is_in : ℕ → Bool) where
  -- ── A place ─────────────────────────────────────────────────────────
  pub place_none : (j : ℕ) → n ≤ j → 32 ≡ place n is_in j
  unfolding place
  place_none j h = rw (le-ltb j n h) refl

  pub place_in : (j : ℕ) → j < n → is_in j ≡ true → 35 ≡ place n is_in j
  unfolding place
  place_in j h e = rw (lt-ltb j n h, e) refl

  pub place_out : (j : ℕ) → j < n → is_in j ≡ false → 46 ≡ place n is_in j
  unfolding place
  place_out j h e = rw (lt-ltb j n h, e) refl

  -- ── All places ──────────────────────────────────────────────────────
  pub places_length : (j : ℕ) → length (places n is_in j) ≡ j
  unfolding places
  places_length zero = refl
  places_length (suc j) = omega (arith, length-append (places n is_in j) (place n is_in j ∷ []), places_length j)

  -- a place more, stored behind the others
  pub places_more : {j v : ℕ} (x : List ℕ) → j < length x → v ≡ place n is_in j → take j x ≡ places n is_in j → take (j + 1) (set x j v) ≡ places n is_in (j + 1)
  unfolding places
  places_more {j} {v} x l e f =
      take_more_set x j v l ∙ (λ i. f i ++ (e i ∷ [])) ∙ ap (places n is_in) (sym (add-one j))
