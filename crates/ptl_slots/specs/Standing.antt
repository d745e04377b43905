-- Numbers that stand in the record's rest, and zeros past its end.
use Rattle.std.specs.Prelude.{ℕ, zero, suc, ◌+◌, ◌≤◌, ◌<◌, ◌≡◌, refl, List, [], ◌∷◌, ◌++◌, Bool, true, false, leb, length, get_or, take, drop}
use Rattle.std.proofs.Common.{sym, ap, ap₂, ◌∙◌, add-zero, zero-add, arith, leb-true, leb-false, drop_of_length-le}
use Rattle.std.proofs.lemmas.List.{take_all}
use Rattle.vps_definition.specs.Words.{sum}

-- n numbers, the first of which stands i numbers on
unfoldable pub standing : (n i : ℕ) → List ℕ → List ℕ
standing zero i x = []
standing (suc n) i x = get_or x i 0 ∷ standing n (i + 1) x

-- ── Behind others ─────────────────────────────────────────────────────
pub get_behind : (at j : ℕ) (l : List ℕ) → get_or (drop at l) j 0 ≡ get_or l (at + j) 0
get_behind zero j l = ap (λ (k : ℕ). get_or l k 0) (sym (zero-add j))
get_behind (suc at) j [] = refl
get_behind (suc at) j (v ∷ l) =
    let e : suc (at + j) ≡ suc at + j = omega arith in
    get_behind at j l ∙ ap (λ (k : ℕ). get_or (v ∷ l) k 0) e

take_none : (n : ℕ) → ◌≡◌ {A = List ℕ} (take n []) []
take_none zero = refl
take_none (suc n) = refl

drop_none : (n : ℕ) → ◌≡◌ {A = List ℕ} (drop n []) []
drop_none zero = refl
drop_none (suc n) = refl

pub drop_behind : (at n : ℕ) (l : List ℕ) → drop n (drop at l) ≡ drop (at + n) l
drop_behind zero n l = ap (λ (k : ℕ). drop k l) (sym (zero-add n))
drop_behind (suc at) n [] = drop_none n ∙ sym (drop_none (suc at + n))
drop_behind (suc at) n (v ∷ l) =
    let e : suc (at + n) ≡ suc at + n = omega arith in
    drop_behind at n l ∙ ap (λ (k : ℕ). drop k (v ∷ l)) e

-- ── More numbers, and fewer ───────────────────────────────────────────
pub length_standing : (n i : ℕ) (x : List ℕ) → length (standing n i x) ≡ n
unfolding standing
length_standing zero i x = refl
length_standing (suc n) i x = ap suc (length_standing n (i + 1) x)

pub get_standing : (n i k : ℕ) (x : List ℕ) → k < n → get_or (standing n i x) k 0 ≡ get_or x (i + k) 0
unfolding standing
get_standing zero i k x h = absurd (omega arith)
get_standing (suc n) i zero x h = ap (λ (j : ℕ). get_or x j 0) (sym (add-zero i))
get_standing (suc n) i (suc k) x h =
    let e : i + 1 + k ≡ i + suc k = omega arith in
    get_standing n (i + 1) k x (omega arith) ∙ ap (λ (j : ℕ). get_or x j 0) e

-- the same from a later place on
pub standing_past : (n at i : ℕ) (x : List ℕ) → standing n i (drop at x) ≡ standing n (at + i) x
unfolding standing
standing_past zero at i x = refl
standing_past (suc n) at i x =
    let e : at + (i + 1) ≡ at + i + 1 = omega arith in
    ap₂ (λ (v : ℕ) (l : List ℕ). v ∷ l) (get_behind at i x) (standing_past n at (i + 1) x ∙ ap (λ (j : ℕ). standing n j x) e)

pub standing_drop : (n i : ℕ) (x : List ℕ) → standing n i (drop 1 x) ≡ standing n (i + 1) x
standing_drop n i x = let e : 1 + i ≡ i + 1 = omega arith in standing_past n 1 i x ∙ ap (λ (j : ℕ). standing n j x) e

pub standing_append : (n k i : ℕ) (x : List ℕ) → standing (n + k) i x ≡ standing n i x ++ standing k (i + n) x
unfolding standing
standing_append zero k i x = rw (zero-add k, add-zero i) refl
standing_append (suc n) k i x =
    let e : suc n + k ≡ suc (n + k) = omega arith in
    let p : i + 1 + n ≡ i + suc n = omega arith in
    ap (λ (j : ℕ). standing j i x) e ∙ ap (λ (l : List ℕ). get_or x i 0 ∷ l) (standing_append n k (i + 1) x ∙ ap (λ (j : ℕ). standing n (i + 1) x ++ standing k j x) p)

pub standing_last : (n i : ℕ) (x : List ℕ) → standing (n + 1) i x ≡ standing n i x ++ (get_or x (i + n) 0 ∷ [])
unfolding standing
standing_last n i x = standing_append n 1 i x

pub standing_behind : (k n i : ℕ) (x : List ℕ) → drop k (standing (k + n) i x) ≡ standing n (i + k) x
unfolding standing
standing_behind zero n i x = rw (zero-add n, add-zero i) refl
standing_behind (suc k) n i x =
    let e : suc k + n ≡ suc (k + n) = omega arith in
    let p : i + 1 + k ≡ i + suc k = omega arith in
    ap (λ (j : ℕ). drop (suc k) (standing j i x)) e ∙ standing_behind k n (i + 1) x ∙ ap (λ (q : ℕ). standing n q x) p

-- ── Their sum ─────────────────────────────────────────────────────────
-- past the end there are zeros
sum_standing : (n : ℕ) (x : List ℕ) → sum (standing n 0 x) ≡ sum (take n x)
unfolding standing sum
sum_standing zero x = refl
sum_standing (suc n) [] = omega (arith, ap sum (standing_drop n 0 []), sum_standing n [], ap sum (take_none n))
sum_standing (suc n) (v ∷ x) = ap (λ (l : List ℕ). v + sum l) (sym (standing_drop n 0 (v ∷ x))) ∙ ap (λ (k : ℕ). v + k) (sum_standing n x)

-- a count that is right up to `most`, and above it where the right one is
pub record Capped (most all r : ℕ) : Type 0 where
  pub exact : r ≤ most → r ≡ all
  pub over : most < r → most < all

-- the sum of the first i numbers, and one number more
pub sum_more : (i : ℕ) (l : List ℕ) → i < length l → sum (take i l) + get_or l i 0 ≡ sum (take (i + 1) l)
unfolding sum
sum_more i [] h = absurd (omega arith)
sum_more zero (v ∷ l) h = omega arith
sum_more (suc i) (v ∷ l) h =
    let e : suc i + 1 ≡ suc (i + 1) = omega arith in
    omega (arith, sum_more i l (omega arith), ap (λ (k : ℕ). sum (take k (v ∷ l))) e)

-- it is no greater than that of all
sum_front : (i : ℕ) (l : List ℕ) → sum (take i l) ≤ sum l
unfolding sum
sum_front zero l = omega arith
sum_front (suc i) [] = omega arith
sum_front (suc i) (v ∷ l) = omega (arith, sum_front i l)

module _ (x l : List ℕ) (count i most : ℕ) {s : ℕ} (e : l ≡ take count x) (is : s ≡ sum (take i l)) where
  -- where it is too large, so is that of all
  pub capped_over : most < s → Capped most (sum (standing count 0 x)) s
  capped_over h = record {
    exact = λ k. absurd (omega (arith, h, k));
    over = λ k. omega (arith, h, is, sum_front i l, ap sum e, sum_standing count x);
  }

  -- behind the last number it is that of all
  pub capped_all : length l ≤ i → Capped most (sum (standing count 0 x)) s
  capped_all h = record { exact = λ k. all; over = λ k. omega (arith, k, all) }
    where
      all : s ≡ sum (standing count 0 x)
      all = is ∙ ap sum (take_all i l h ∙ e) ∙ sym (sum_standing count x)

module _ {most all r : ℕ} (C : Capped most all r) where
  pub capped_exact : all ≤ most → r ≡ all
  capped_exact h = go (leb r most) refl
    where
      go : (b : Bool) → leb r most ≡ b → r ≡ all
      go true e = C.exact (leb-true r most e)
      go false e = absurd (omega (arith, C.over (leb-false r most e)))

  -- what is left of a list is the same behind either count
  pub capped_drop : (x : List ℕ) → length x ≤ most → drop r x ≡ drop all x
  capped_drop x h = go (leb r most) refl
    where
      go : (b : Bool) → leb r most ≡ b → drop r x ≡ drop all x
      go true e = ap (λ (k : ℕ). drop k x) (C.exact (leb-true r most e))
      go false e =
          let l : most < r = leb-false r most e in
          let a : length x ≤ r = omega arith in
          let b : length x ≤ all = omega (arith, C.over l) in
          drop_of_length-le x a ∙ sym (drop_of_length-le x b)
