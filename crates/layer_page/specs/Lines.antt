-- How long a line is, and where the parts of a page stand.
use Rattle.std.specs.Prelude.{ℕ, zero, suc, ◌+◌, ◌*◌, ◌-◌, ◌^◌, ◌≤◌, ◌<◌, ◌≡◌, refl, List, [], ◌∷◌, ◌++◌, Bool, true, false, cond, ◌&&◌, ltb, eqb, length, get_or, take, drop, sum_by, count_by}
use Rattle.std.proofs.Common.{sym, ap, ◌∙◌, arith, add-zero, length-append, take_all, take_at, take-take, drop_at, drop-drop, get_or-take, get_or-drop, eqb-true, lt-ltb, le-ltb}
use Rattle.std.proofs.Math.ListN.{get_or-append}
use Rattle.std.proofs.Math.Seq.{get_or-append_seam}
use Rattle.std.proofs.lemmas.Bool.{eqb-false}
use Rattle.std.proofs.lemmas.List.{drop-append-le, take-append-le, length-drop, get_or-append_right, drop-take}
use Rattle.std.proofs.lemmas.List.Sums.{sum_by-append}
use Rattle.texts.specs.Bytes.{bytes}
use Rattle.text_numbers.specs.Decimal.{decimal, enough_places, places_most}
use Rattle.text_numbers.specs.Aligned.{right_aligned, aligned_length}
use Rattle.vps_definition.specs.OutputLayerSets.{Sets, digit, count_below, in_set, num_layers_in_ols}
use Rattle.vps_laws.specs.OutputLayerSets.{count_ext}
use Rattle.layer_sets.specs.Closed.{count_cut}
use Rattle.layer_sets.specs.Rows.{count_suc}
use Rattle.layer_page.specs.Page.{place, places, columns, line, set_line, set_lines}
use Rattle.layer_page.specs.Places.{places_length}

-- ── A line ────────────────────────────────────────────────────────────
-- a number has no more digits than its limit
decimal_short : (k n : ℕ) → k ≤ 19 → n < 10 ^ suc k → length (decimal n) ≤ suc k
decimal_short k n l h = omega (arith, places_most (suc k) n, ap length (enough_places k 19 n l h))

pub columns_length : (index count : ℕ) → index < 1000 → count < 100 → length (columns index count) ≡ 7
unfolding columns bytes
columns_length index count l m =
    let a : length (right_aligned 3 (decimal index)) ≡ 3 = aligned_length 3 (decimal index) (decimal_short 2 index (omega arith) (omega (arith, l))) in
    let b : length (right_aligned 2 (decimal count)) ≡ 2 = aligned_length 2 (decimal count) (decimal_short 1 count (omega arith) (omega (arith, m))) in
    omega (
      arith,
      a,
      b,
      length-append (right_aligned 3 (decimal index) ++ (32 ∷ []) ++ right_aligned 2 (decimal count)) (32 ∷ []),
      length-append (right_aligned 3 (decimal index) ++ (32 ∷ [])) (right_aligned 2 (decimal count)),
      length-append (right_aligned 3 (decimal index)) (32 ∷ []),
    )

count_most : (n : ℕ) (p : ℕ → Bool) → count_below n p ≤ n
unfolding count_below
count_most zero p = omega arith
count_most (suc n) p = let l : count_below n (λ j. p (suc j)) ≤ n = count_most n (λ j. p (suc j)) in go (p 0) l
  where
    go : (b : Bool) → count_below n (λ j. p (suc j)) ≤ n → digit b + count_below n (λ j. p (suc j)) ≤ suc n
    go true l = omega (arith, l)
    go false l = omega (arith, l)

-- ── The places of a line ──────────────────────────────────────────────
module _ (n : ℕ) (is_in : ℕ → Bool) where
  places_at : (t j : ℕ) → j < t → get_or (places n is_in t) j 0 ≡ place n is_in j
  unfolding places
  places_at zero j l = absurd (omega (arith, l))
  places_at (suc t) j l = go (places_at t j) (eqb j t) refl
    where
      go : (j < t → get_or (places n is_in t) j 0 ≡ place n is_in j) → (b : Bool) → eqb j t ≡ b → get_or (places n is_in t ++ (place n is_in t ∷ [])) j 0 ≡ place n is_in j
      go g true e =
          let s : j ≡ t = eqb-true j t e in
          ap (λ (i : ℕ). get_or (places n is_in t ++ (place n is_in t ∷ [])) i 0) (s ∙ sym (places_length n is_in t))
          ∙ get_or-append_seam (places n is_in t) (place n is_in t) [] 0 ∙ ap (place n is_in) (sym s)
      go g false e =
          let m : j < t = omega (arith, l, eqb-false j t e) in
          get_or-append (places n is_in t) (place n is_in t ∷ []) 0 j (omega (arith, m, places_length n is_in t)) ∙ g m

  -- a # stands where there is a layer that is in the set
  pub marked : (j : ℕ) → eqb 35 (place n is_in j) ≡ (ltb j n && is_in j)
  unfolding place
  marked j = go (ltb j n) (is_in j)
    where
      go : (b c : Bool) → eqb 35 (cond b (cond c 35 46) 32) ≡ (b && c)
      go true true = refl
      go true false = refl
      go false c = refl

  marks_counted : (j : ℕ) → count_by (eqb 35) (places n is_in j) ≡ count_below j (λ i. ltb i n && is_in i)
  unfolding places count_below
  marks_counted zero = refl
  marks_counted (suc j) =
      sum_by-append (λ (x : ℕ). cond (eqb 35 x) 1 0) (places n is_in j) (place n is_in j ∷ [])
      ∙ ap (λ (k : ℕ). count_by (eqb 35) (places n is_in j) + k) (one (place n is_in j))
      ∙ ap (λ (k : ℕ). k + digit (eqb 35 (place n is_in j))) (marks_counted j)
      ∙ ap (λ (b : Bool). count_below j (λ i. ltb i n && is_in i) + digit b) (marked j)
      ∙ sym (count_suc j (λ i. ltb i n && is_in i))
    where
      one : (x : ℕ) → sum_by (λ (x : ℕ). cond (eqb 35 x) 1 0) (x ∷ []) ≡ digit (eqb 35 x)
      one x = go (eqb 35 x)
        where
          go : (b : Bool) → 0 + cond b 1 0 ≡ digit b
          go true = refl
          go false = refl

  -- there are as many as the set has layers
  pub marks : n ≤ 64 → count_by (eqb 35) (places n is_in 64) ≡ count_below n is_in
  marks l =
      let e : 64 ≡ n + (64 - n) = omega (arith, l) in
      marks_counted 64
      ∙ ap (λ (k : ℕ). count_below k (λ i. ltb i n && is_in i)) e
      ∙ count_cut n (64 - n) (λ i. ltb i n && is_in i) (λ j h. ap (λ (b : Bool). b && is_in j) (le-ltb j n h))
      ∙ count_ext n (λ i. ltb i n && is_in i) is_in (λ j h. ap (λ (b : Bool). b && is_in j) (lt-ltb j n h))

-- ── Of n layers with these references ─────────────────────────────────
module _ (n : ℕ) (few : n ≤ 64) (refs : List (List ℕ)) (sets : Sets) where
  layers_most : (k : ℕ) → num_layers_in_ols n refs sets k < 100
  unfolding num_layers_in_ols
  layers_most k = omega (arith, few, count_most n (in_set n refs sets k))

  set_columns : (k : ℕ) → k < 1000 → length (columns k (num_layers_in_ols n refs sets k)) ≡ 7
  set_columns k l = columns_length k (num_layers_in_ols n refs sets k) l (layers_most k)

  -- a line has 71 characters and a line feed
  pub line_length : (k : ℕ) → k < 1000 → length (set_line n refs sets k) ≡ 72
  unfolding set_line line bytes
  line_length k l =
      let c : List ℕ = columns k (num_layers_in_ols n refs sets k) in
      let p : List ℕ = places n (in_set n refs sets k) 64 in
      omega (arith, set_columns k l, places_length n (in_set n refs sets k) 64, length-append (c ++ p) (10 ∷ []), length-append c p)

  -- so many lines have
  pub lines_length : (k : ℕ) → k ≤ 1000 → length (set_lines n refs sets k) ≡ 72 * k
  unfolding set_lines
  lines_length zero l = refl
  lines_length (suc k) l = omega (arith, length-append (set_lines n refs sets k) (set_line n refs sets k), lines_length k (omega (arith, l)), line_length k l)

  -- line k of t
  pub line_at : (t k : ℕ) → t ≤ 1000 → k < t → take 72 (drop (72 * k) (set_lines n refs sets t)) ≡ set_line n refs sets k
  unfolding set_lines
  line_at zero k l h = absurd (omega (arith, h))
  line_at (suc t) k l h = go (line_at t k (omega (arith, l))) (eqb k t) refl
    where
      long : length (set_lines n refs sets t) ≡ 72 * t
      long = lines_length t (omega (arith, l))

      go : (k < t → take 72 (drop (72 * k) (set_lines n refs sets t)) ≡ set_line n refs sets k) → (b : Bool) → eqb k t ≡ b
          → take 72 (drop (72 * k) (set_lines n refs sets t ++ set_line n refs sets t)) ≡ set_line n refs sets k
      go g true e =
          let s : k ≡ t = eqb-true k t e in
          ap (take 72) (drop_at (set_lines n refs sets t) (set_line n refs sets t) (72 * k) (omega (arith, long, s)))
          ∙ take_all 72 (set_line n refs sets t) (omega (arith, line_length t (omega (arith, l)))) ∙ ap (set_line n refs sets) (sym s)
      go g false e =
          let m : k < t = omega (arith, h, eqb-false k t e) in
          ap (take 72) (drop-append-le (72 * k) (set_lines n refs sets t) (set_line n refs sets t) (omega (arith, long, m)))
          ∙ take-append-le 72 (drop (72 * k) (set_lines n refs sets t)) (set_line n refs sets t) (omega (arith, length-drop (72 * k) (set_lines n refs sets t), long, m))
          ∙ g m

  -- ── The parts of line k of t ────────────────────────────────────────
  module _ (t k : ℕ) (l : t ≤ 1000) (h : k < t) where
    abbrev pub all : List ℕ
    all = set_lines n refs sets t

    abbrev pub front : List ℕ
    front = columns k (num_layers_in_ols n refs sets k)

    abbrev pub back : List ℕ
    back = places n (in_set n refs sets k) 64

    front_length : length front ≡ 7
    front_length = set_columns k (omega (arith, l, h))

    both_length : length (front ++ back) ≡ 71
    both_length = omega (arith, front_length, places_length n (in_set n refs sets k) 64, length-append front back)

    part_at : (at count : ℕ) → at + count ≤ 72 → take count (drop (72 * k + at) all) ≡ take count (drop at (set_line n refs sets k))
    part_at at count g =
        let x : List ℕ = drop (72 * k) all in
        ap (take count) (sym (drop-drop at (72 * k) all))
        ∙ sym (drop-take at count x) ∙ ap (drop at) (sym (take-take (at + count) 72 x g)) ∙ drop-take at count (take 72 x)
        ∙ ap (λ (y : List ℕ). take count (drop at y)) (line_at t k l h)

    pub columns_stand : take 7 (drop (72 * k) all) ≡ columns k (num_layers_in_ols n refs sets k)
    unfolding set_line line bytes
    columns_stand =
        ap (λ (i : ℕ). take 7 (drop i all)) (sym (add-zero (72 * k))) ∙ part_at 0 7 (omega arith)
        ∙ take-append-le 7 (front ++ back) (10 ∷ []) (omega (arith, both_length)) ∙ take_at front back 7 front_length

    pub places_stand : take 64 (drop (72 * k + 7) all) ≡ places n (in_set n refs sets k) 64
    unfolding set_line line bytes
    places_stand =
        part_at 7 64 (omega arith)
        ∙ ap (take 64) (drop-append-le 7 (front ++ back) (10 ∷ []) (omega (arith, both_length)) ∙ ap (λ (x : List ℕ). x ++ (10 ∷ [])) (drop_at front back 7 front_length))
        ∙ take_at back (10 ∷ []) 64 (places_length n (in_set n refs sets k) 64)

    pub place_stands : (j : ℕ) → j < 64 → get_or all (72 * k + (7 + j)) 0 ≡ place n (in_set n refs sets k) j
    unfolding set_line line bytes
    place_stands j m =
        sym (get_or-drop (72 * k) all (7 + j) 0) ∙ sym (get_or-take 72 (drop (72 * k) all) (7 + j) 0 (omega (arith, m)))
        ∙ ap (λ (x : List ℕ). get_or x (7 + j) 0) (line_at t k l h)
        ∙ get_or-append (front ++ back) (10 ∷ []) 0 (7 + j) (omega (arith, m, both_length))
        ∙ get_or-append_right front back 7 (7 + j) 0 front_length (omega arith)
        ∙ ap (λ (i : ℕ). get_or back i 0) (omega arith)
        ∙ places_at n (in_set n refs sets k) 64 j m
