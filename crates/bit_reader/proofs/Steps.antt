-- What the steps of the bit reader rest on, over plain numbers.
use Prim.Native.Nat.{ℕ, zero, suc, ◌+◌, ◌*◌, ◌-◌, ◌/◌, ◌%◌, ◌^◌, ◌≤◌, ◌<◌}
use mathlib.Core.Path.{◌≡◌, refl, sym, ap, ◌∙◌}
use mathlib.Core.List.{List, [], ◌∷◌, ◌++◌}
use mathlib.Core.Bool.{Bool, true, false, cond}
use native.Mathlib.Nat.{two-pow-succ, zero-div, one-mul}
use native.Mathlib.Omega.{arith}
use native.Mathlib.Numerals.{add-one}
use borrow.Author.Tests.{ltb-true, ltb-false, lt-ltb, le-leb, eqb-true, eqb-false}
use lib.Count.{count_leading_zeros, leading_of_zero, leading_top}
use lib.Dec.{leb, ltb}
use Rattle.std.proofs.lemmas.Bool.{lt-leb}
use lib.ListN.{length, get_or, drop, replicate, length-replicate, drop_of_length-le}
use lib.Seq.{drop-cons}
use lib.Pow.{high, low, pow_pos, pow_mono, mod-pow-add, shl_lt, shl-shr, shr-shr}
use Rattle.std.specs.List.{list_any}
use Rattle.std.proofs.Common.{nat_eq, not}
use Rattle.refusals.specs.Number.{code_too_long, code_past_end}
use Rattle.bits.specs.Bits.{bit_at, field_at, field_width, ones_from, to_boundary, bits_of}
use Rattle.bits.specs.Reading.{more_data}
use Rattle.bits.specs.Code.{zeros_at, code_behind, code_at}
use Rattle.bits.specs.Code.Taken.{taken, refused}
use Rattle.bits.specs.FieldLaws.{bit_lt, one_inside, field_lt, field_one, field_split, field_high, field_low, BitsAt, bits_right, bits_field, bits_of_zero, field_byte}
use Rattle.bit_fields.specs.Window.{window_start, window_start_le, Laid, window_ends_inside}
use Rattle.bits.specs.RestLaws.{rest_ones_from}
use Rattle.bits.specs.OneLaws.{ones_past_end, ones_behind_zeros, ones_in_field}
use Rattle.bits.specs.CodeLaws.{zeros_found, zeros_to_end, zeros_past_end, zeros_all, code_at_lem}

-- ── Fields ────────────────────────────────────────────────────────────
-- a width of 32 at the most is the field's width
pub width_is : (w : ℕ) → w ≤ 32 → field_width w ≡ w
width_is w h = go (ltb w 32) refl
  where
    go : (t : Bool) → ltb w 32 ≡ t → cond t w 32 ≡ w
    go true e = refl
    go false e = omega (arith, ltb-false w 32 e)

-- ── Codes ─────────────────────────────────────────────────────────────
-- a field of 0 is zeros, and a field of 1 is zeros and then a one
bits_of_zero_field : (s : List ℕ) (at n : ℕ) → field_at s at n ≡ 0 → BitsAt s at (replicate n 0)
bits_of_zero_field s at n e = rw (e, bits_of_zero n) at (bits_field s at n)

bits_of_one_field : (s : List ℕ) (at k : ℕ) → field_at s at (suc k) ≡ 1 → BitsAt s at (replicate k 0 ++ (1 ∷ []))
unfolding bits_of
bits_of_one_field s at k e = rw (e, bits_of, bits_of_zero k) at (bits_field s at (suc k))

-- a window without a one is 0
no_one : (window : ℕ) → window < 2 ^ 32 → count_leading_zeros 32 window ≡ 32 → window ≡ 0
no_one zero l z = refl
no_one (suc w) l z = let t = leading_top 32 (suc w) (omega arith) l in absurd (omega (arith, z, t.1))

zeros_only : (s : List ℕ) (at : ℕ) {window : ℕ} → window ≡ field_at s at 32 → count_leading_zeros 32 window ≡ 32 → field_at s at 32 ≡ 0
zeros_only s at {window} w z = sym w ∙ no_one window (omega (arith, w, field_lt s at 32)) z

-- 32 zeros are no code
pub no_code : (s : List ℕ) (at : ℕ) {window : ℕ} → window ≡ field_at s at 32 → count_leading_zeros 32 window ≡ 32 → at + 31 < 8 * length s → code_at s at ≡ refused code_too_long
unfolding code_at
no_code s at w z h = rw (zeros_all s at 32 (omega arith) (bits_of_zero_field s at 32 (zeros_only s at w z))) refl

-- fewer, up to the end, are the prefix of a code that the end cuts
pub zeros_cut : (s : List ℕ) (at : ℕ) {window : ℕ} → window ≡ field_at s at 32 → count_leading_zeros 32 window ≡ 32 → 8 * length s ≤ at + 31 → code_at s at ≡ refused code_past_end
unfolding code_at code_behind
zeros_cut s at w z l = rw (counted (ltb at (8 * length s)) refl, lt-ltb n 32 (omega arith), lt-leb (at + n + 1 + n) (8 * length s) (omega arith)) refl
  where
    n : ℕ
    n = 8 * length s - at

    zeros : field_at s at n ≡ 0
    zeros =
        let m : n + (32 - n) ≡ 32 = omega arith in
        sym (rw m at (field_high s at n (32 - n))) ∙ rw (zeros_only s at w z, zero-div (2 ^ (32 - n))) refl

    counted : (t : Bool) → ltb at (8 * length s) ≡ t → zeros_at s at 32 ≡ n
    counted true f = let g = ltb-true at (8 * length s) f in zeros_to_end s at 32 n (omega arith) (omega arith) (bits_of_zero_field s at n zeros)
    counted false f = let g = ltb-false at (8 * length s) f in zeros_past_end s at 32 g ∙ omega arith

-- behind k zeros stands the first one, and the code is the number in k + 1 bits from it on, less one, if all of them stand inside
pub record FirstOne (s : List ℕ) (at k : ℕ) : Type 0 where
  pub short : k < 32
  pub some : 1 ≤ field_at s (at + k) (k + 1)
  pub whole : at + 2 * k < 8 * length s → code_at s at ≡ taken (field_at s (at + k) (k + 1) - 1) (at + k + (k + 1))
  pub cut : 8 * length s ≤ at + 2 * k → code_at s at ≡ refused code_past_end

-- the one stands inside, and so may its suffix or not
suffix_cut : (s : List ℕ) (at k : ℕ) → k < 32 → at + k < 8 * length s → BitsAt s at (replicate k 0 ++ (1 ∷ [])) → 8 * length s ≤ at + 2 * k → code_at s at ≡ refused code_past_end
unfolding code_at code_behind
suffix_cut s at k h i b l = rw (zeros_found s at 32 k h i b, lt-ltb k 32 h, lt-leb (at + k + 1 + k) (8 * length s) (omega arith)) refl

one_behind : (s : List ℕ) (at k : ℕ) → k < 32 → field_at s at (suc k) ≡ 1 → FirstOne s at k
one_behind s at k h f =
    let b : BitsAt s at (replicate k 0 ++ (1 ∷ [])) = bits_of_one_field s at k f in
    let o : bit_at s (at + k) ≡ 1 = rw length-replicate at (bits_right s at (replicate k 0) (1 ∷ []) b).0 in
    let a : k + 1 ≡ 1 + k = omega arith in
    let d : field_at s (at + k) (k + 1) ≡ 2 ^ k + field_at s (at + k + 1) k = rw (a, field_split s (at + k) 1 k, field_one s (at + k), o, one-mul) refl in
    let p = pow_pos k in
    let v : 2 ^ k - 1 + field_at s (at + k + 1) k ≡ field_at s (at + k) (k + 1) - 1 = omega arith in
    let y : at + k + 1 + k ≡ at + k + (k + 1) = omega arith in
    record {
      short = h;
      some = omega arith;
      whole = λ l. code_at_lem s at k h (omega (arith, l)) b ∙ rw (v, y) refl;
      cut = suffix_cut s at k h (one_inside s (at + k) o) b;
    }

-- a number from 2 ^ j on and below twice that has a 1 above its j lowest bits
top_is_one : (a j : ℕ) → 2 ^ j ≤ a → a < 2 ^ suc j → a / 2 ^ j ≡ 1
top_is_one a j f g =
    let x : 1 * 2 ^ j + (a - 2 ^ j) ≡ a = omega arith in
    rw x at (high 1 j {lo = a - 2 ^ j} (omega (arith, two-pow-succ j)))

pub first_one : (s : List ℕ) (at window : ℕ) → window ≡ field_at s at 32 → (count_leading_zeros 32 window ≡ 32 → ⊥) → FirstOne s at (count_leading_zeros 32 window)
first_one s at window e m = let n = λ (z : window ≡ 0). m (ap (count_leading_zeros 32) z ∙ leading_of_zero 32) in let t = leading_top 32 window (omega arith) (omega (arith, field_lt s at 32)) in go (count_leading_zeros 32 window) t.0 t.1 (omega (arith, t.2)) (omega (arith, t.3))
  where
    go : (k j : ℕ) → k + suc j ≡ 32 → 2 ^ j ≤ field_at s at 32 → field_at s at 32 < 2 ^ suc j → FirstOne s at k
    go k j e f g =
        let m : suc k + j ≡ 32 = omega arith in
        one_behind s at k (omega arith) (sym (rw m at (field_high s at (suc k) j)) ∙ top_is_one (field_at s at 32) j f g)

-- ── Codes that stand whole in a window ────────────────────────────────
-- the window's bits from a place on, shifted to its front
pub rest_of_window : (s : List ℕ) (i at window k : ℕ) → window ≡ field_at s (8 * i) 64 → k ≡ at - 8 * i → 8 * i ≤ at → k ≤ 63 → window * 2 ^ k % 2 ^ 64 ≡ field_at s at (64 - k) * 2 ^ k
rest_of_window s i at window k e q h l =
    let j : ℕ = 64 - k in
    let n : 64 ≡ j + k = omega arith in
    let m : 64 ≡ k + j = omega arith in
    let a : 8 * i + k ≡ at = omega arith in
    let low_bits : window % 2 ^ j ≡ field_at s at j = e' m ∙ field_low s (8 * i) k j ∙ rw a refl in
    ap (λ (w : ℕ). window * 2 ^ k % 2 ^ w) n ∙ mod-pow-add (window * 2 ^ k) j k ∙ rw (shl-shr window k, low_bits) (omega (arith, nothing_below k))
  where
    e' : 64 ≡ k + (64 - k) → window % 2 ^ (64 - k) ≡ field_at s (8 * i) (k + (64 - k)) % 2 ^ (64 - k)
    e' m = rw (e, ← m) refl

    nothing_below : (k : ℕ) → window * 2 ^ k % 2 ^ k ≡ 0
    nothing_below k = let z : window * 2 ^ k + 0 ≡ window * 2 ^ k = omega arith in rw z at (low window k {lo = 0} (pow_pos k))

-- its first n bits
first_of_rest : (s : List ℕ) (at k rest n : ℕ) → rest ≡ field_at s at (64 - k) * 2 ^ k → k ≤ 63 → n ≤ 64 - k → rest / 2 ^ (64 - n) ≡ field_at s at n
first_of_rest s at k rest n e h l =
    let m : ℕ = 64 - k - n in
    let w : 64 - n ≡ k + m = omega arith in
    let f : 64 - k ≡ n + m = omega arith in
    ap (λ (x : ℕ). x / 2 ^ (64 - n)) (e ∙ ap (λ (j : ℕ). field_at s at j * 2 ^ k) f) ∙ ap (λ (j : ℕ). field_at s at (n + m) * 2 ^ k / 2 ^ j) w ∙ shifted m
  where
    shifted : (m : ℕ) → field_at s at (n + m) * 2 ^ k / 2 ^ (k + m) ≡ field_at s at n
    shifted m = rw (← shr-shr (field_at s at (n + m) * 2 ^ k) k m, shl-shr (field_at s at (n + m)) k) (field_high s at n m)

-- where the first one stands behind z bits, those are zeros
none_before : (s : List ℕ) (at z : ℕ) → field_at s at (suc z) ≡ 1 → field_at s at z ≡ 0
unfolding field_at
none_before s at z one = omega (arith, bit_lt s (at + z))

-- a code of z zeros before its one, whole in the window: its number, and where it ends
pub record NearCode (s : List ℕ) (at num z : ℕ) : Type 0 where
  pub fits : num < 4294967296
  pub some : 1 ≤ num
  pub code : code_at s at ≡ taken (num - 1) (at + 2 * z + 1)

pub near_code : (s : List ℕ) (at k rest : ℕ) → k ≤ 63 → at + (64 - k) ≤ 8 * length s → rest ≡ field_at s at (64 - k) * 2 ^ k → 2 * count_leading_zeros 64 rest ≤ 63 - k → NearCode s at (rest / 2 ^ (63 - 2 * count_leading_zeros 64 rest)) (count_leading_zeros 64 rest)
near_code s at k rest h i e l = let t = leading_top 64 rest (positive rest l) small in go (count_leading_zeros 64 rest) t.0 t.1 t.2 t.3 l
  where
    small : rest < 2 ^ 64
    small = let m : 64 - k + k ≡ 64 = omega arith in rw e (rw m at (shl_lt (64 - k) k (field_lt s at (64 - k))))

    positive : (a : ℕ) → 2 * count_leading_zeros 64 a ≤ 63 - k → zero < a
    positive zero l = absurd (omega (arith, leading_of_zero 64))
    positive (suc a) l = omega arith

    go : (z j : ℕ) → z + suc j ≡ 64 → 2 ^ j ≤ rest → rest < 2 ^ suc j → 2 * z ≤ 63 - k → NearCode s at (rest / 2 ^ (63 - 2 * z)) z
    go z j q f g l =
        let d : 64 - suc z ≡ j = omega arith in
        let one : field_at s at (suc z) ≡ 1 = sym (first_of_rest s at k rest (suc z) e h (omega arith)) ∙ rw d (top_is_one rest j f g) in
        let o = one_behind s at z (omega arith) one in
        let x : 63 - 2 * z ≡ 64 - (z + (z + 1)) = omega arith in
        let n : rest / 2 ^ (63 - 2 * z) ≡ field_at s at (z + (z + 1)) = rw x (first_of_rest s at k rest (z + (z + 1)) e h (omega arith)) in
        let y : rest / 2 ^ (63 - 2 * z) ≡ field_at s (at + z) (z + 1) = n ∙ field_split s at z (z + 1) ∙ rw (none_before s at z one) (omega arith) in
        let p : 2 ^ (z + 1) ≤ 2 ^ 32 = pow_mono {i = z + 1} {j = 32} (omega arith) in
        let b : at + z + (z + 1) ≡ at + 2 * z + 1 = omega arith in
        record { fits = omega (arith, field_lt s (at + z) (z + 1)); some = omega (arith, o.some); code = o.whole (omega (arith, i, l)) ∙ rw (y, b) refl }

-- and the same of the window that is laid for the place
pub code_in_window : (s : List ℕ) (at : ℕ) {window k : ℕ} → Laid s at window k → k ≤ 63
    → 2 * count_leading_zeros 64 (window * 2 ^ k % 2 ^ 64) ≤ 63 - k
    → NearCode s at (window * 2 ^ k % 2 ^ 64 / 2 ^ (63 - 2 * count_leading_zeros 64 (window * 2 ^ k % 2 ^ 64))) (count_leading_zeros 64 (window * 2 ^ k % 2 ^ 64))
code_in_window s at {window} {k} W h l =
    let i = window_start (length s) (at / 8) in
    let below : 8 * i ≤ at = omega (arith, window_start_le (length s) (at / 8)) in
    near_code s at k (window * 2 ^ k % 2 ^ 64) h (omega (arith, W.before, below, window_ends_inside (length s) (at / 8) W.full)) (rest_of_window s i at window k W.bits W.before below h) l

-- ── Trailing bits ─────────────────────────────────────────────────────
-- behind the stop bit the boundary is as far as the byte's bits behind it
pub behind_stop : (at : ℕ) → to_boundary (at + 1) ≡ 7 - at % 8
behind_stop at = omega arith

-- a bit that is not 0 is 1
pub bit_one : (s : List ℕ) (at : ℕ) → (bit_at s at ≡ 0 → ⊥) → bit_at s at ≡ 1
bit_one s at n = omega (arith, bit_lt s at)

-- ── More data ─────────────────────────────────────────────────────────
-- the bytes from one on have a one where some of them is not 0
module _ (s : List ℕ) (small : (k : ℕ) → get_or s k 0 < 256) where
  abbrev OneFrom : ℕ → Type 0
  OneFrom i = list_any (λ b. not (nat_eq b 0)) (drop i s) ≡ leb 1 (ones_from s (8 * i))

  none_from : (i : ℕ) → length s ≤ i → OneFrom i
  none_from i h = rw (drop_of_length-le s h, ones_past_end s (8 * i) (omega arith)) refl

  byte_from : (i : ℕ) → i < length s → OneFrom (i + 1) → (t : Bool) → nat_eq (get_or s i 0) 0 ≡ t → OneFrom i
  byte_from i h next true e =
      let b : field_at s (8 * i) 8 ≡ 0 = field_byte s i (small i) ∙ eqb-true (get_or s i 0) 0 e in
      let n : 8 * i + 8 ≡ 8 * (i + 1) = omega arith in
      let q : drop i s ≡ get_or s i 0 ∷ drop (i + 1) s = drop-cons s i 0 h ∙ rw (add-one i) refl in
      rw (q, e, ones_behind_zeros s (8 * i) 8 b, n) next
  byte_from i h next false e =
      let b : 0 < field_at s (8 * i) 8 = rw (field_byte s i (small i)) (omega (arith, eqb-false (get_or s i 0) 0 e)) in
      rw (drop-cons s i 0 h, e, le-leb 1 (ones_from s (8 * i)) (ones_in_field s (8 * i) 8 b)) refl

  ones_up_to : (n i : ℕ) → length s ≤ i + n → OneFrom i
  ones_up_to zero i h = none_from i (omega arith)
  ones_up_to (suc n) i h = go (ltb i (length s)) refl (ones_up_to n (i + 1) (omega arith))
    where
      go : (t : Bool) → ltb i (length s) ≡ t → OneFrom (i + 1) → OneFrom i
      go true e next = byte_from i (ltb-true i (length s) e) next (nat_eq (get_or s i 0) 0) refl
      go false e next = none_from i (ltb-false i (length s) e)

  pub any_one : OneFrom 0
  any_one = ones_up_to (length s) 0 (omega arith)

-- the rest of the place's own byte, and the bytes behind it
module _ (s : List ℕ) (at : ℕ) where
  abbrev rest : ℕ
  rest = field_at s (at + 1) (field_width (7 - at % 8))

  rest_is : rest ≡ field_at s (at + 1) (7 - at % 8)
  rest_is = ap (field_at s (at + 1)) (width_is (7 - at % 8) (omega arith))

  pub more_here : (rest ≡ 0 → ⊥) → true ≡ more_data s at
  unfolding more_data
  more_here n =
      let f : field_at s (at + 1) (7 - at % 8) ≡ 0 → ⊥ = λ e. n (rest_is ∙ e) in
      rw (le-leb 1 (ones_from s (at + 1)) (ones_in_field s (at + 1) (7 - at % 8) (omega (arith, f)))) refl

  pub more_behind : rest ≡ 0 → leb 1 (ones_from (drop (at / 8 + 1) s) 0) ≡ more_data s at
  unfolding more_data
  more_behind z =
      let q : at + 1 + (7 - at % 8) ≡ 8 * (at / 8 + 1) = omega arith in
      let o : ones_from s (at + 1) ≡ ones_from s (8 * (at / 8 + 1)) = ones_behind_zeros s (at + 1) (7 - at % 8) (sym rest_is ∙ z) ∙ ap (ones_from s) q in
      rw (o, rest_ones_from s (at / 8 + 1)) refl
