-- Masks as sets of layers: or is union, one shifted is a single layer, ones are counted.
use Rattle.std.specs.Prelude.{ℕ, zero, suc, ◌+◌, ◌*◌, ◌-◌, ◌/◌, ◌%◌, ◌^◌, ◌<◌, ◌≤◌, max, ◌≡◌, refl, Bool, true, false, ◌||◌, ltb, leb, eqb}
use Rattle.std.proofs.Common.{suc-le-suc, pow-suc, mod-lt, div-add-mod', div-one, add-zero, one-mul, div-lt_iff_lt-mul, zero-lt-suc, le_of_suc-le-suc, lt_of_lt_of_le, arith, sym, ap, ap₂, ◌∙◌, ne_eqb, lit<, shr-shr, shl_exact, pow_mono, eqb-true, ltb-true, ltb-false, le-leb}
use Rattle.std.proofs.Math.Nat.{div-eq_of_lt, zero-div}
use Rattle.std.proofs.Math.Bool.{or-false}
use Rattle.std.proofs.Math.Dec.{eqb-zero-suc, eqb-suc-zero, eqb-suc-suc}
use Rattle.std.proofs.Math.Arith.{digits_div, digits_mod, lt-one}
use Rattle.std.specs.Int.Bits.{bit_or, or_step}
use Rattle.std.specs.Int.Count.{ones, ones_step}
use Rattle.lists.specs.Table.{every_below, every_below_lem}
use Rattle.vps_definition.specs.OutputLayerSets.{digit, count_below, mask_of}
use Rattle.layer_sets.specs.Masks.{bit_of}

digit_lt : (b : Bool) → digit b < 2
digit_lt true = omega arith
digit_lt false = omega arith

half : (m : ℕ) (b : Bool) → (m * 2 + digit b) / 2 ≡ m
half m b = digits_div m (digit_lt b)

low : (m : ℕ) (b : Bool) → (m * 2 + digit b) % 2 ≡ digit b
low m b = digits_mod m (digit_lt b)

max_digit : (a b : Bool) → max (digit a) (digit b) ≡ digit (a || b)
max_digit true true = refl
max_digit true false = refl
max_digit false true = refl
max_digit false false = refl

pub mask_ext : (n : ℕ) (p q : ℕ → Bool) → ((j : ℕ) → j < n → p j ≡ q j) → mask_of n p ≡ mask_of n q
unfolding mask_of
mask_ext zero p q h = refl
mask_ext (suc n) p q h =
    ap₂ (λ (x : ℕ) (b : Bool). x * 2 + digit b) (mask_ext n _ _ (λ j l. h (suc j) (suc-le-suc l))) (h 0 (omega arith))

pub mask_or : (n : ℕ) (p q : ℕ → Bool) → bit_or (mask_of n p) (mask_of n q) ≡ mask_of n (λ j. p j || q j)
unfolding mask_of
mask_or zero p q = refl
mask_or (suc n) p q =
    or_step (mask_of (suc n) p) (mask_of (suc n) q)
    ∙ simp (half, low, mask_or n, max_digit)

pub mask_ones : (n : ℕ) (p : ℕ → Bool) → ones (mask_of n p) ≡ count_below n p
unfolding mask_of count_below ones
mask_ones zero p = refl
mask_ones (suc n) p = ones_step (mask_of (suc n) p) ∙ simp (half, low, mask_ones n)

-- ── Single bits ───────────────────────────────────────────────────────

bit_zero : (m : ℕ) → bit_of m 0 ≡ eqb (m % 2) 1
unfolding bit_of
bit_zero m = simp (div-one)

bit_suc : (m j : ℕ) → bit_of m (suc j) ≡ bit_of (m / 2) j
unfolding bit_of
bit_suc m j = ap (λ (x : ℕ). eqb (x % 2) 1) (ap (λ (x : ℕ). m / 2 ^ x) (omega arith) ∙ sym (shr-shr m 1 j))

eqb_digit : (b : Bool) → eqb (digit b) 1 ≡ b
eqb_digit true = refl
eqb_digit false = refl

pub mask_bit : (n : ℕ) (p : ℕ → Bool) (j : ℕ) → j < n → bit_of (mask_of n p) j ≡ p j
unfolding mask_of
mask_bit zero p j h = absurd (omega arith)
mask_bit (suc n) p zero h = bit_zero (mask_of (suc n) p) ∙ simp (low, eqb_digit)
mask_bit (suc n) p (suc j) h =
    bit_suc (mask_of (suc n) p) j ∙ simp half (mask_bit n _ j (le_of_suc-le-suc h))

digit_eqb : (d : ℕ) → d < 2 → digit (eqb d 1) ≡ d
digit_eqb zero h = refl
digit_eqb (suc zero) h = refl
digit_eqb (suc (suc d)) h = absurd (omega arith)

pub mask_of_bits : (n m : ℕ) → m < 2 ^ n → mask_of n (bit_of m) ≡ m
unfolding mask_of
mask_of_bits zero m h = sym (lt-one h)
mask_of_bits (suc n) m h =
    ap₂ (λ (x y : ℕ). x * 2 + y)
    (mask_ext n _ _ (λ j l. bit_suc m j) ∙ mask_of_bits n (m / 2) (half_lt n h))
    (ap digit (bit_zero m) ∙ digit_eqb (m % 2) (mod-lt m (omega arith)))
    ∙ div-add-mod' m 2
  where
    half_lt : {m : ℕ} (k : ℕ) → m < 2 ^ suc k → m / 2 < 2 ^ k
    half_lt {m} k h = (div-lt_iff_lt-mul (zero-lt-suc 1)).1 (rw (pow-suc 2 k) at h)

pub mask_none : (n : ℕ) (p : ℕ → Bool) → ((j : ℕ) → p j ≡ false) → mask_of n p ≡ 0
unfolding mask_of
mask_none zero p h = refl
mask_none (suc n) p h = simp (mask_none n (λ j. p (suc j)) (λ j. h (suc j)), h 0)

pub mask_single : (n k : ℕ) → k < n → mask_of n (eqb k) ≡ 2 ^ k
unfolding mask_of
mask_single zero k h = absurd (omega arith)
mask_single (suc n) zero h = simp (mask_none n (λ j. eqb zero (suc j)) eqb-zero-suc)
mask_single (suc n) (suc k) h =
    ap₂ (λ (x : ℕ) (b : Bool). x * 2 + digit b)
    (mask_ext n _ _ (λ j l. eqb-suc-suc k j) ∙ mask_single n k (le_of_suc-le-suc h)) (eqb-suc-zero k)
    ∙ add-zero (2 ^ k * 2) ∙ sym (pow-suc 2 k)

-- a layer more
pub mask_with : (n : ℕ) (p : ℕ → Bool) (k : ℕ) → k < n → bit_or (mask_of n p) (2 ^ k) ≡ mask_of n (λ j. p j || eqb k j)
mask_with n p k h = ap (bit_or (mask_of n p)) (sym (mask_single n k h)) ∙ mask_or n p (eqb k)

one_shl : (j : ℕ) → j < 64 → 1 * 2 ^ j % 2 ^ 64 ≡ 2 ^ j
one_shl j h = shl_exact {a = 1} 1 j 64 (lit< tt) (omega arith) ∙ one-mul (2 ^ j)

-- `m | (1 << j)`
pub set_bit_lem : (m j : ℕ) → m < 2 ^ 64 → j < 64 → bit_or m (1 * 2 ^ j % 2 ^ 64) ≡ mask_of 64 (λ k. bit_of m k || eqb j k)
set_bit_lem m j hm hj = ap₂ bit_or (sym (mask_of_bits 64 m hm)) (one_shl j hj) ∙ mask_with 64 (bit_of m) j hj

-- no mask has a layer from 64 on, and none is added there
pub bit_high : (m j : ℕ) → m < 2 ^ 64 → 64 ≤ j → bit_of m j ≡ false
unfolding bit_of
bit_high m j hm hj = ap (λ (x : ℕ). eqb (x % 2) 1) (div-eq_of_lt (lt_of_lt_of_le hm (pow_mono hj)))

pub set_none : (m j : ℕ) → m < 2 ^ 64 → 64 ≤ j → m ≡ mask_of 64 (λ k. bit_of m k || eqb j k)
set_none m j hm hj =
    sym (mask_of_bits 64 m hm)
    ∙ mask_ext 64 _ _ (λ k l. sym (ap (λ (b : Bool). bit_of m k || b) (ne_eqb j k (λ e. omega arith)) ∙ or-false (bit_of m k)))

-- the empty mask has no layer
pub bit_empty : (j : ℕ) → bit_of 0 j ≡ false
unfolding bit_of
bit_empty j = ap (λ (x : ℕ). eqb (x % 2) 1) (zero-div (2 ^ j))

-- so with one layer more it has that one alone
pub mask_only : (i : ℕ) → mask_of 64 (λ k. bit_of 0 k || eqb i k) ≡ mask_of 64 (eqb i)
mask_only i = mask_ext 64 _ _ (λ k l. ap (λ (b : Bool). b || eqb i k) (bit_empty k))

-- ── The first layers ──────────────────────────────────────────────────
-- all bits, shifted down by those that are too many: computed for each layer
first_test : ℕ → Bool
first_test i = eqb (18446744073709551615 / 2 ^ (63 - i)) (mask_of 64 (λ j. leb j i))

first_tested : every_below first_test 64 ≡ true
unfolding first_test mask_of
first_tested = refl

pub mask_first : (i : ℕ) → 18446744073709551615 / 2 ^ (63 - i) ≡ mask_of 64 (λ j. leb j i)
unfolding first_test
mask_first i = go (ltb i 64) refl
  where
    go : (b : Bool) → ltb i 64 ≡ b → 18446744073709551615 / 2 ^ (63 - i) ≡ mask_of 64 (λ j. leb j i)
    go true e = eqb-true _ _ (every_below_lem first_test 64 first_tested i (ltb-true i 64 e))
    go false e =
        let far : 64 ≤ i = ltb-false i 64 e in
        let none : 63 - i ≡ 0 = omega (arith, far) in
        ap (λ (k : ℕ). 18446744073709551615 / 2 ^ k) none ∙ eqb-true _ _ (every_below_lem first_test 64 first_tested 63 (lit< tt))
        ∙ mask_ext 64 _ _ (λ j l. le-leb j 63 (omega (arith, l)) ∙ sym (le-leb j i (omega (arith, l, far))))

-- `a | b`
pub or_bits : (a b : ℕ) → a < 2 ^ 64 → b < 2 ^ 64 → bit_or a b ≡ mask_of 64 (λ k. bit_of a k || bit_of b k)
or_bits a b ha hb = ap₂ bit_or (sym (mask_of_bits 64 a ha)) (sym (mask_of_bits 64 b hb)) ∙ mask_or 64 (bit_of a) (bit_of b)

-- `count_ones`
pub ones_bits : (m : ℕ) → m < 2 ^ 64 → ones m ≡ count_below 64 (bit_of m)
ones_bits m h = ap ones (sym (mask_of_bits 64 m h)) ∙ mask_ones 64 (bit_of m)
