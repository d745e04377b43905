-- Closed masks: each has the layers that its layer reaches. A row's layers and how many there are follow from them.
use Rattle.std.specs.Prelude.{ℕ, zero, suc, ◌+◌, ◌-◌, ◌^◌, ◌<◌, ◌≤◌, ◌≡◌, refl, List, Bool, true, false, ◌&&◌, ◌||◌, length, set, get_or, take, min}
use Rattle.std.proofs.Common.{suc-le-suc, arith, add-zero, length-take, get_or-take, zero-add, suc-add, ◌∙◌, ⊎_elim, below_more, get_or-set_same, get_or-set_other}
use Rattle.std.proofs.lemmas.List.{get_or_past}
use Rattle.std.proofs.Math.Numerals.{add-one}
use Rattle.std.proofs.Math.Path.{sym, ap}
use Rattle.std.proofs.Math.Bool.{or_assoc, or-false, and-false}
use Rattle.vps_definition.specs.OutputLayerSets.{any_below, digit, count_below, with_reached, reaches, included, Reaches, mask_of}
use Rattle.vps_definition.specs.OutputLayerSets.Reaches.{direct, through}
use Rattle.vps_laws.specs.OutputLayerSets.{with_ext, reaches_law, reaches_ext, included_sound, count_ext, count_none}
use Rattle.layer_sets.specs.Masks.{bit_of, bit_at}
use Rattle.layer_sets.specs.MaskLaws.{mask_ext, mask_bit, mask_of_bits, bit_empty}

-- the masks of the layers below n
pub record Closed (refers : ℕ → ℕ → Bool) (closed : List ℕ) (n : ℕ) : Type 0 where
  pub masks : (k : ℕ) → k < n → get_or closed k 0 ≡ mask_of 64 (reaches refers k)

-- ── The turns of `cover` ──────────────────────────────────────────────
module _ (closed : List ℕ) (m : ℕ) where
  pub cover_none : m < 2 ^ 64 → m ≡ mask_of 64 (with_reached 0 (bit_at closed) (bit_of m))
  unfolding with_reached any_below
  cover_none h = sym (mask_of_bits 64 m h) ∙ mask_ext 64 _ _ (λ j l. sym (or-false (bit_of m j)))

  pub cover_more : (k all : ℕ) → bit_of m k ≡ true → all ≡ mask_of 64 (with_reached k (bit_at closed) (bit_of m))
      → mask_of 64 (λ j. bit_of all j || bit_of (get_or closed k 0) j) ≡ mask_of 64 (with_reached (k + 1) (bit_at closed) (bit_of m))
  unfolding with_reached any_below bit_at
  cover_more k all e ih =
      mask_ext 64 _ _ (λ j l.
      ap (λ (b : Bool). b || bit_of (get_or closed k 0) j) (ap (λ (x : ℕ). bit_of x j) ih ∙ mask_bit 64 _ j l)
      ∙ rw add-one (or_assoc (bit_of m j) _ _ ∙ simp e))

  pub cover_same : (k all : ℕ) → bit_of m k ≡ false → all ≡ mask_of 64 (with_reached k (bit_at closed) (bit_of m))
      → all ≡ mask_of 64 (with_reached (k + 1) (bit_at closed) (bit_of m))
  unfolding with_reached any_below bit_at
  cover_same k all e ih = ih ∙ mask_ext 64 _ _ (λ j l. rw add-one (simp (e, or-false)))

-- ── The first masks ───────────────────────────────────────────────────
-- numbers that fail add none
any_past : (f : ℕ → Bool) (m d : ℕ) → ((k : ℕ) → m ≤ k → k < m + d → f k ≡ false) → any_below (m + d) f ≡ any_below m f
unfolding any_below
any_past f m zero h = ap (λ (n : ℕ). any_below n f) (add-zero m)
any_past f m (suc d) h =
    let e : m + suc d ≡ suc (m + d) = omega arith in
    ap (λ (n : ℕ). any_below n f) e ∙ ap (λ (b : Bool). any_below (m + d) f || b) (h (m + d) (omega arith) (omega arith)) ∙ or-false _
    ∙ any_past f m d (λ k u v. h k u (omega arith))

-- a layer without a mask reaches nothing
reached_first : (masks : List ℕ) (n : ℕ) (p : ℕ → Bool) (j : ℕ) → with_reached (length (take n masks)) (bit_at (take n masks)) p j ≡ with_reached n (bit_at masks) p j
unfolding with_reached bit_at
reached_first masks n p j =
    let m : ℕ = length (take n masks) in
    let l : m ≡ min n (length masks) = length-take n masks in
    let e : m + (n - m) ≡ n = omega (arith, l) in
    let past : (k : ℕ) → m ≤ k → k < m + (n - m) → (p k && bit_of (get_or masks k 0) j) ≡ false =
    λ k u v.
    ap (λ (x : ℕ). p k && bit_of x j) (get_or_past masks k 0 (omega (arith, l, u, v, e)))
    ∙ ap (λ (b : Bool). p k && b) (bit_empty j) ∙ and-false (p k) in
    with_ext m (bit_at (take n masks)) (bit_at masks) p p j refl (λ k u. refl) (λ k u. ap (λ (x : ℕ). bit_of x j) (get_or-take n masks k 0 (omega (arith, l, u))))
    ∙ ap (λ (b : Bool). p j || b) (sym (any_past _ m (n - m) past))
    ∙ ap (λ (k : ℕ). with_reached k (bit_at masks) p j) e

-- by the first n masks alone, or by all where there are fewer, `cover` gives what the layers below n reach
pub cover_first : (masks : List ℕ) (n : ℕ) (p : ℕ → Bool)
    → mask_of 64 (with_reached (length (take n masks)) (bit_at (take n masks)) p) ≡ mask_of 64 (with_reached n (bit_at masks) p)
cover_first masks n p = mask_ext 64 _ _ (λ j l. reached_first masks n p j)

-- ── One layer more ────────────────────────────────────────────────────
-- masks that stand for the rows r and the set p
row_bits : (r : ℕ → ℕ → Bool) (p : ℕ → Bool) (closed : List ℕ) (n m : ℕ) → n ≤ 64
    → ((k : ℕ) → k < n → get_or closed k 0 ≡ mask_of 64 (r k)) → ((j : ℕ) → j < 64 → bit_of m j ≡ p j)
    → (j : ℕ) → j < 64 → with_reached n (bit_at closed) (bit_of m) j ≡ with_reached n r p j
unfolding bit_at
row_bits r p closed n m h below e j l =
    with_ext n _ _ _ _ j (e j l) (λ k u. e k (omega arith)) (λ k u. ap (λ (x : ℕ). bit_of x j) (below k u) ∙ mask_bit 64 (r k) j l)

-- layers that are not yet there change nothing
pub closed_as : (d e : ℕ → ℕ → Bool) (closed : List ℕ) (n : ℕ) → ((k : ℕ) → k < n → (l : ℕ) → d k l ≡ e k l) → Closed d closed n → Closed e closed n
closed_as d e closed n h C =
    record { masks = λ k l. C.masks k l ∙ mask_ext 64 _ _ (λ j u. reaches_ext d e k j (λ i v. h i (omega arith))) }

-- the mask that `close` stores for layer i, whose direct layers are those of m
pub closed_more : (d : ℕ → ℕ → Bool) (closed : List ℕ) (i m : ℕ) → i < length closed → i < 64 → Closed d closed i → ((j : ℕ) → j < 64 → bit_of m j ≡ d i j)
    → Closed d (set closed i (mask_of 64 (with_reached i (bit_at closed) (bit_of m)))) (i + 1)
closed_more d closed i m h n C e =
    record {
      masks =
          below_more _ i
          (λ k l. get_or-set_other closed i k _ 0 (omega arith) ∙ C.masks k l)
          (get_or-set_same closed i _ 0 h
          ∙ mask_ext 64 _ _ (λ j l. row_bits (reaches d) (d i) closed i m (omega arith) C.masks e j l ∙ sym (reaches_law d i j)));
    }

-- ── The layers of a row ───────────────────────────────────────────────
-- its output layers p, and all that they reach
pub row_mask : (d : ℕ → ℕ → Bool) (p : ℕ → Bool) (closed : List ℕ) (n m : ℕ) → n ≤ 64 → Closed d closed n → m ≡ mask_of 64 p
    → mask_of 64 (with_reached n (bit_at closed) (bit_of m)) ≡ mask_of 64 (included n d p)
unfolding included
row_mask d p closed n m h C e =
    mask_ext 64 _ _ (row_bits (reaches d) p closed n m h C.masks (λ j l. ap (λ (x : ℕ). bit_of x j) e ∙ mask_bit 64 p j l))

-- nothing counts from n on where the property holds of none there
pub count_cut : (n k : ℕ) (p : ℕ → Bool) → ((j : ℕ) → n ≤ j → p j ≡ false) → count_below (n + k) p ≡ count_below n p
unfolding count_below
count_cut zero k p h = rw zero-add (count_none k p (λ j l. h j (omega arith)))
count_cut (suc n) k p h =
    rw suc-add (ap (λ (x : ℕ). digit (p 0) + x) (count_cut n k (λ j. p (suc j)) (λ j l. h (suc j) (suc-le-suc l))))

-- references go down, so that what is reached lies below
reached_below : (d : ℕ → ℕ → Bool) → ((i j : ℕ) → d i j ≡ true → j < i) → {i j : ℕ} → Reaches d i j → j < i
reached_below d h (direct {i = i} {j = j} e) = h i j e
reached_below d h (through {i = i} {k = k} {j = j} l e r) = let u : j < k = reached_below d h r in omega arith

-- no layer from n on is in a row of n layers
pub included_low : (n : ℕ) (d : ℕ → ℕ → Bool) (p : ℕ → Bool) → ((i j : ℕ) → d i j ≡ true → j < i) → ((j : ℕ) → p j ≡ true → j < n) → (j : ℕ) → n ≤ j → included n d p j ≡ false
included_low n d p hd hp j l = go (included n d p j) refl
  where
    never : included n d p j ≡ true → ⊥
    never e = ⊎_elim (λ e. let u : j < n = hp j e in omega arith) (λ r. let u : j < r.0 = reached_below d hd r.3 in omega (arith, r.1)) (included_sound n d p j e)

    go : (b : Bool) → included n d p j ≡ b → b ≡ false
    go true e = absurd (never e)
    go false e = refl

-- what `is_multi` says of a row
pub row_many : (d : ℕ → ℕ → Bool) (p : ℕ → Bool) (closed : List ℕ) (n m : ℕ) → n ≤ 64 → Closed d closed n → m ≡ mask_of 64 p
    → ((i j : ℕ) → d i j ≡ true → j < i) → ((j : ℕ) → p j ≡ true → j < n)
    → count_below 64 (bit_of (mask_of 64 (with_reached n (bit_at closed) (bit_of m)))) ≡ count_below n (included n d p)
row_many d p closed n m h C e hd hp =
    let k : n + (64 - n) ≡ 64 = omega arith in
    count_ext 64 _ _ (λ j l. ap (λ (x : ℕ). bit_of x j) (row_mask d p closed n m h C e) ∙ mask_bit 64 _ j l)
    ∙ ap (λ (x : ℕ). count_below x (included n d p)) (sym k)
    ∙ count_cut n (64 - n) (included n d p) (included_low n d p hd hp)
