-- What the fields rest on, over plain numbers.
use Prim.Native.Nat.{ℕ, zero, suc, ◌+◌, ◌*◌, ◌-◌, ◌/◌, ◌%◌, ◌^◌, ◌≤◌, ◌<◌}
use mathlib.Core.Path.{◌≡◌, refl, sym, ap, ◌∙◌}
use mathlib.Core.List.{List, ◌++◌}
use mathlib.Core.Bool.{Bool, true, false, cond}
use native.Mathlib.Nat.{one-mul}
use native.Mathlib.Omega.{arith}
use lib.Dec.{ltb, lit<, lit≤}
use lib.ListN.{length, get_or, take, drop}
use Rattle.std.proofs.lemmas.List.{take-append-drop}
use lib.Pow.{shl_exact, pow_mono}
use Rattle.bits.specs.Bits.{field_at, field_width}
use Rattle.bits.specs.RestLaws.{rest_field}
use Rattle.bits.specs.FieldLaws.{field_lt, bit_past_end, field_split, field_within, field_byte, field_agree, agree_append}

-- the power that a shift of 1 gives
pub one_shl : (k w : ℕ) → k < w → 1 * 2 ^ k % 2 ^ w ≡ 2 ^ k
one_shl k w h = shl_exact 1 k w (lit< tt) (omega arith) ∙ one-mul (2 ^ k)

-- one byte behind some
pub byte_more : (s : List ℕ) (i : ℕ) {number byte : ℕ} → number ≡ field_at s 0 (8 * i) → byte ≡ get_or s i 0 → get_or s i 0 < 256 → number * 256 + byte ≡ field_at s 0 (8 * (i + 1))
byte_more s i e f h =
    let q : 8 * i + 8 ≡ 8 * (i + 1) = omega arith in
    let z : 0 + 8 * i ≡ 8 * i = omega arith in
    rw (e, f, ← field_byte s i h) (rw (q, z) at (sym (field_split s 0 (8 * i) 8)))

-- up to seven bytes leave room for one more
pub room_for_byte : (s : List ℕ) (i : ℕ) → i < 8 → field_at s 0 (8 * i) < 2 ^ 56
room_for_byte s i h = let p : 2 ^ (8 * i) ≤ 2 ^ 56 = pow_mono {i = 8 * i} {j = 56} (omega arith) in omega (arith, field_lt s 0 (8 * i))

-- past the end a field is 0
pub field_past_end : (s : List ℕ) (at w : ℕ) → 8 * length s ≤ at → field_at s at w ≡ 0
unfolding field_at
field_past_end s at zero h = refl
field_past_end s at (suc w) h = omega (arith, field_past_end s at w h, bit_past_end s (at + w) (omega arith))

-- the first bytes, one by one
abbrev pub eight : List ℕ → ℕ
eight s =
    get_or s 0 0 * 72057594037927936 + get_or s 1 0 * 281474976710656 + get_or s 2 0 * 1099511627776 + get_or s 3 0 * 4294967296
    + get_or s 4 0 * 16777216 + get_or s 5 0 * 65536 + get_or s 6 0 * 256 + get_or s 7 0

module _ (s : List ℕ) (h : (j : ℕ) → get_or s j 0 < 256) where
  pub two_bytes : get_or s 0 0 * 256 + get_or s 1 0 ≡ field_at s 0 16
  two_bytes =
      let a : field_at s 0 8 ≡ get_or s 0 0 = field_byte s 0 (h 0) in
      let b : field_at s 0 8 * 256 + get_or s 1 0 ≡ field_at s 0 16 = byte_more s 1 refl refl (h 1) in
      omega (arith, a, b)

  pub eight_bytes : eight s ≡ field_at s 0 64
  eight_bytes =
      let b : field_at s 0 16 * 256 + get_or s 2 0 ≡ field_at s 0 24 = byte_more s 2 refl refl (h 2) in
      let c : field_at s 0 24 * 256 + get_or s 3 0 ≡ field_at s 0 32 = byte_more s 3 refl refl (h 3) in
      let d : field_at s 0 32 * 256 + get_or s 4 0 ≡ field_at s 0 40 = byte_more s 4 refl refl (h 4) in
      let e : field_at s 0 40 * 256 + get_or s 5 0 ≡ field_at s 0 48 = byte_more s 5 refl refl (h 5) in
      let f : field_at s 0 48 * 256 + get_or s 6 0 ≡ field_at s 0 56 = byte_more s 6 refl refl (h 6) in
      let g : field_at s 0 56 * 256 + get_or s 7 0 ≡ field_at s 0 64 = byte_more s 7 refl refl (h 7) in
      omega (arith, two_bytes, b, c, d, e, f, g)

-- the bits of the first n bytes, where so many are there, are the list's
pub first_bits : (s : List ℕ) (n : ℕ) → n ≤ length (take n s) → field_at (take n s) 0 (8 * n) ≡ field_at s 0 (8 * n)
first_bits s n h =
    field_agree (take n s) (take n s ++ drop n s) 0 (8 * n) (8 * n) (agree_append (take n s) (drop n s) (8 * n) (omega (arith, h))) (omega arith)
    ∙ ap (λ (x : List ℕ). field_at x 0 (8 * n)) (take-append-drop n s)

-- a field in the rest that begins with its byte
pub field_in_rest : (s : List ℕ) {rest : List ℕ} (at w : ℕ) → rest ≡ drop (at / 8) s → field_at rest (at % 8) w ≡ field_at s at w
field_in_rest s at w e =
    let q : 8 * (at / 8) + at % 8 ≡ at = omega arith in
    rw (e, rest_field s (at / 8) (at % 8) w, q) refl

-- a field in the first n bits
pub field_in_first : (s : List ℕ) (n at w : ℕ) → at + w ≤ n → field_at s 0 n / 2 ^ (n - (at + w)) % 2 ^ w ≡ field_at s at w
field_in_first s n at w l =
    let e : n - (at + w) ≡ 0 + n - (at + w) = omega arith in
    rw e (field_within s 0 n at w (omega arith) (omega arith))

-- a field in the window of n bits that starts at a byte
pub field_in_window : (s : List ℕ) (i n at w : ℕ) → 8 * i ≤ at → at - 8 * i + w ≤ n → field_at s (8 * i) n / 2 ^ (n - (at - 8 * i + w)) % 2 ^ w ≡ field_at s at w
field_in_window s i n at w h l =
    let e : n - (at - 8 * i + w) ≡ 8 * i + n - (at + w) = omega arith in
    rw e (field_within s (8 * i) n at w h (omega arith))

-- a field that is asked for has a width
pub width_some : (w : ℕ) → 1 ≤ w → 1 ≤ field_width w
width_some w h = go (ltb w 32)
  where
    go : (t : Bool) → 1 ≤ cond t w 32
    go true = h
    go false = lit≤ tt
