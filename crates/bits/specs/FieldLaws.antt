-- Laws of bits and fields, over every place and width.
use Rattle.std.specs.Prelude.{ℕ, zero, suc, ◌+◌, ◌*◌, ◌-◌, ◌/◌, ◌%◌, ◌^◌, ◌≤◌, ◌<◌, ◌≡◌, refl, List, [], ◌∷◌, ◌++◌, Bool, true, false, ltb, length, get_or, replicate}
use Rattle.std.proofs.Common.{sym, ◌∙◌, append_assoc, append-nil, mod-lt, mul-add, add_comm, add-one, arith, ltb-true, ltb-false, lit<, lit≤, length-append, shr-shr}
use Rattle.std.proofs.Math.Path.{ap}
use Rattle.std.proofs.Math.Nat.{two-pow-succ, add-zero, zero-div}
use Rattle.std.specs.Int.Count.{ones, ones_step}
use Rattle.std.proofs.Math.ListN.{get_or-eq_default, get_or-append}
use Rattle.std.proofs.Math.Pow.{high, low}
use Rattle.bits.specs.Bits.{bit_at, field_at, ones_at, bits_of}

-- ── Bits ──────────────────────────────────────────────────────────────
pub bit_lt : (s : List ℕ) (at : ℕ) → bit_at s at < 2
unfolding bit_at
bit_lt s at = mod-lt _ (lit< tt)

pub bit_past_end : (s : List ℕ) (at : ℕ) → 8 * length s ≤ at → bit_at s at ≡ 0
unfolding bit_at
bit_past_end s at h =
    let l : length s ≤ at / 8 = omega arith in
    rw (get_or-eq_default s 0 l) (rw zero-div refl)

-- a one stands among the bytes
pub one_inside : (s : List ℕ) (at : ℕ) → bit_at s at ≡ 1 → at < 8 * length s
one_inside s at e = go (ltb at (8 * length s)) refl
  where
    go : (t : Bool) → ltb at (8 * length s) ≡ t → at < 8 * length s
    go true h = ltb-true at (8 * length s) h
    go false h = absurd (omega (arith, bit_past_end s at (ltb-false at (8 * length s) h)))

-- ── Fields ────────────────────────────────────────────────────────────
pub field_lt : (s : List ℕ) (at w : ℕ) → field_at s at w < 2 ^ w
unfolding field_at
field_lt s at zero = lit< tt
field_lt s at (suc w) = omega (arith, field_lt s at w, bit_lt s (at + w), two-pow-succ w)

pub field_one : (s : List ℕ) (at : ℕ) → field_at s at 1 ≡ bit_at s at
unfolding field_at
field_one s at = rw add-zero (omega arith)

-- a field is its first a bits, and then its last b
pub field_split : (s : List ℕ) (at a b : ℕ) → field_at s at (a + b) ≡ field_at s at a * 2 ^ b + field_at s (at + a) b
unfolding field_at
field_split s at a zero = rw add-zero (omega arith)
field_split s at a (suc b) =
    let e : a + suc b ≡ suc (a + b) = omega arith in
    let i : at + (a + b) ≡ at + a + b = omega arith in
    rw (e, field_at) (rw (field_split s at a b, i, two-pow-succ b) (double (field_at s at a) (2 ^ b) (field_at s (at + a) b) (bit_at s (at + a + b))))
  where
    double : (x p y z : ℕ) → (x * p + y) * 2 + z ≡ x * (p + p) + (y * 2 + z)
    double x p y z = omega (arith, mul-add x p p)

-- the first bits of a field, and its last
pub field_high : (s : List ℕ) (at a b : ℕ) → field_at s at (a + b) / 2 ^ b ≡ field_at s at a
field_high s at a b = rw (field_split s at a b) (high (field_at s at a) b (field_lt s (at + a) b))

pub field_low : (s : List ℕ) (at a b : ℕ) → field_at s at (a + b) % 2 ^ b ≡ field_at s (at + a) b
field_low s at a b = rw (field_split s at a b) (low (field_at s at a) b (field_lt s (at + a) b))

-- a field among the bits of a wider one
pub field_within : (s : List ℕ) (p n at w : ℕ) → p ≤ at → at + w ≤ p + n → field_at s p n / 2 ^ (p + n - (at + w)) % 2 ^ w ≡ field_at s at w
field_within s p n at w h l =
    let b : ℕ = p + n - (at + w) in
    let m : n ≡ at - p + w + b = omega arith in
    let a : p + (at - p) ≡ at = omega arith in
    let f : field_at s p n / 2 ^ b ≡ field_at s p (at - p + w) = ap (λ (k : ℕ). field_at s p k / 2 ^ b) m ∙ field_high s p (at - p + w) b in
    rw f (field_low s p (at - p) w ∙ rw a refl)

-- a bit by its byte and its place there
pub bit_of_byte : (s : List ℕ) (i k : ℕ) → k < 8 → bit_at s (8 * i + k) ≡ get_or s i 0 / 2 ^ (7 - k) % 2
unfolding bit_at
bit_of_byte s i k h =
    let d : (8 * i + k) / 8 ≡ i = omega arith in
    let m : (8 * i + k) % 8 ≡ k = omega arith in
    rw (d, m) refl

-- the first k bits of a byte
byte_high : (s : List ℕ) (i k : ℕ) → get_or s i 0 < 256 → k ≤ 8 → field_at s (8 * i) k ≡ get_or s i 0 / 2 ^ (8 - k)
unfolding field_at
byte_high s i zero h l = omega arith
byte_high s i (suc k) h l =
    let e : 8 - k ≡ 8 - suc k + 1 = omega arith in
    let d : 7 - k ≡ 8 - suc k = omega arith in
    let y : get_or s i 0 / 2 ^ (8 - k) ≡ get_or s i 0 / 2 ^ (8 - suc k) / 2 = rw e (sym (shr-shr (get_or s i 0) (8 - suc k) 1)) in
    let b : bit_at s (8 * i + k) ≡ get_or s i 0 / 2 ^ (8 - suc k) % 2 = bit_of_byte s i k (omega arith) ∙ rw d refl in
    omega (arith, byte_high s i k h (omega arith))

-- eight bits from a boundary are a byte
pub field_byte : (s : List ℕ) (i : ℕ) → get_or s i 0 < 256 → field_at s (8 * i) 8 ≡ get_or s i 0
field_byte s i h = byte_high s i 8 h (lit≤ tt) ∙ omega arith

-- ── Ones ──────────────────────────────────────────────────────────────
pub ones_of_field : (s : List ℕ) (at w : ℕ) → ones_at s at w ≡ ones (field_at s at w)
unfolding ones_at field_at ones
ones_of_field s at zero = refl
ones_of_field s at (suc w) =
    let b = bit_lt s (at + w) in
    let h : (field_at s at w * 2 + bit_at s (at + w)) / 2 ≡ field_at s at w = omega arith in
    let l : (field_at s at w * 2 + bit_at s (at + w)) % 2 ≡ bit_at s (at + w) = omega arith in
    rw (ones_step (field_at s at w * 2 + bit_at s (at + w)), h, l, ← ones_of_field s at w) (omega arith)

pub ones_split : (s : List ℕ) (at a b : ℕ) → ones_at s at (a + b) ≡ ones_at s at a + ones_at s (at + a) b
unfolding ones_at
ones_split s at a zero = rw add-zero (omega arith)
ones_split s at a (suc b) =
    let e : a + suc b ≡ suc (a + b) = omega arith in
    let i : at + (a + b) ≡ at + a + b = omega arith in
    rw (e, ones_at) (rw (ones_split s at a b, i) (omega arith))

pub ones_first : (s : List ℕ) (at n : ℕ) → ones_at s at (suc n) ≡ bit_at s at + ones_at s (at + 1) n
ones_first s at n =
    let e : suc n ≡ 1 + n = omega arith in
    let o : ones_at s at 1 ≡ bit_at s at = unfold ones_at in rw add-zero (omega arith) in
    ap (ones_at s at) e ∙ ones_split s at 1 n ∙ ap (λ (k : ℕ). k + ones_at s (at + 1) n) o

-- ── Bits that stand at a place ────────────────────────────────────────
abbrev pub BitsAt : List ℕ → ℕ → List ℕ → Type 0
BitsAt s at [] = Unit {0}
BitsAt s at (b ∷ x) = (bit_at s at ≡ b) × BitsAt s (at + 1) x

pub bits_left : (s : List ℕ) (at : ℕ) (x y : List ℕ) → BitsAt s at (x ++ y) → BitsAt s at x
bits_left s at [] y h = tt
bits_left s at (b ∷ x) y h = (h.0, bits_left s (at + 1) x y h.1)

pub bits_right : (s : List ℕ) (at : ℕ) (x y : List ℕ) → BitsAt s at (x ++ y) → BitsAt s (at + length x) y
bits_right s at [] y h = rw add-zero h
bits_right s at (b ∷ x) y h =
    let e : at + suc (length x) ≡ at + 1 + length x = omega arith in
    rw e (bits_right s (at + 1) x y h.1)

pub bits_join : (s : List ℕ) (at : ℕ) (x y : List ℕ) → BitsAt s at x → BitsAt s (at + length x) y → BitsAt s at (x ++ y)
bits_join s at [] y h k = rw add-zero at k
bits_join s at (b ∷ x) y h k =
    let e : at + suc (length x) ≡ at + 1 + length x = omega arith in
    (h.0, bits_join s (at + 1) x y h.1 (rw e at k))

pub bits_length : (w v : ℕ) → length (bits_of w v) ≡ w
unfolding bits_of
bits_length zero v = refl
bits_length (suc w) v = rw (length-append, bits_length w (v / 2)) (omega arith)

-- the w bits of v read as v
pub field_bits : (s : List ℕ) (at w v : ℕ) → v < 2 ^ w → BitsAt s at (bits_of w v) → field_at s at w ≡ v
unfolding field_at bits_of
field_bits s at zero v f h = omega arith
field_bits s at (suc w) v f h =
    let i : field_at s at w ≡ v / 2 = field_bits s at w (v / 2) (omega (arith, two-pow-succ w)) (bits_left s at (bits_of w (v / 2)) _ h) in
    let j : bit_at s (at + length (bits_of w (v / 2))) ≡ v % 2 = (bits_right s at (bits_of w (v / 2)) _ h).0 in
    let k : bit_at s (at + w) ≡ v % 2 = rw (bits_length w (v / 2)) at j in
    omega arith

-- the bits read are the bits of what is read
pub bits_field : (s : List ℕ) (at w : ℕ) → BitsAt s at (bits_of w (field_at s at w))
unfolding field_at bits_of
bits_field s at zero = tt
bits_field s at (suc w) =
    let b = bit_lt s (at + w) in
    let i : (field_at s at w * 2 + bit_at s (at + w)) / 2 ≡ field_at s at w = omega arith in
    let j : (field_at s at w * 2 + bit_at s (at + w)) % 2 ≡ bit_at s (at + w) = omega arith in
    rw (i, j) (bits_join s at (bits_of w (field_at s at w)) (bit_at s (at + w) ∷ []) (bits_field s at w) (rw bits_length (refl, tt)))

-- the bits of v, the highest first
pub bits_first : (w v : ℕ) → bits_of (suc w) v ≡ v / 2 ^ w % 2 ∷ bits_of w v
unfolding bits_of
bits_first zero v = let e : v / 2 ^ 0 ≡ v = omega arith in rw e refl
bits_first (suc w) v = rw (bits_first w (v / 2)) (ap (λ (n : ℕ). n % 2 ∷ bits_of (suc w) v) (shr-shr v 1 w ∙ rw (add_comm 1 w, add-one w) refl))

-- the first a bits of v, and its last b
pub bits_split : (a b v : ℕ) → bits_of (a + b) v ≡ bits_of a (v / 2 ^ b) ++ bits_of b v
unfolding bits_of
bits_split a zero v =
    let e : v / 2 ^ 0 ≡ v = omega arith in
    rw (add-zero a, e, append-nil) refl
bits_split a (suc b) v =
    let e : a + suc b ≡ suc (a + b) = omega arith in
    let h : v / 2 / 2 ^ b ≡ v / 2 ^ suc b = shr-shr v 1 b ∙ rw (add_comm 1 b, add-one b) refl in
    rw (e, bits_of) (rw (bits_split a b (v / 2), h) (append_assoc (bits_of a (v / 2 ^ suc b)) (bits_of b (v / 2)) (v % 2 ∷ [])))

-- bits above the w lowest don't count
pub bits_over : (w v : ℕ) → bits_of w (2 ^ w + v) ≡ bits_of w v
unfolding bits_of
bits_over zero v = refl
bits_over (suc w) v =
    let h : (2 ^ suc w + v) / 2 ≡ 2 ^ w + v / 2 = omega (arith, two-pow-succ w) in
    let l : (2 ^ suc w + v) % 2 ≡ v % 2 = omega (arith, two-pow-succ w) in
    rw (h, l, bits_over w (v / 2)) refl

-- zeros
pub bits_of_zero : (w : ℕ) → bits_of w 0 ≡ replicate w 0
unfolding bits_of
bits_of_zero zero = refl
bits_of_zero (suc w) = bits_first w 0 ∙ rw (zero-div (2 ^ w), bits_of_zero w) refl

-- ── Two lists of bytes that agree ─────────────────────────────────────
-- the bits below q are the same
abbrev pub Agree : List ℕ → List ℕ → ℕ → Type 0
Agree s s' q = (i : ℕ) → i < q → bit_at s i ≡ bit_at s' i

pub field_agree : (s s' : List ℕ) (at w q : ℕ) → Agree s s' q → at + w ≤ q → field_at s at w ≡ field_at s' at w
unfolding field_at
field_agree s s' at zero q h f = refl
field_agree s s' at (suc w) q h f = rw (field_agree s s' at w q h (omega arith), h (at + w) (omega arith)) refl

pub bits_agree : (s s' : List ℕ) (at q : ℕ) (x : List ℕ) → Agree s s' q → at + length x ≤ q → BitsAt s at x → BitsAt s' at x
bits_agree s s' at q [] h f b = tt
bits_agree s s' at q (y ∷ x) h f b = (sym (h at (omega arith)) ∙ b.0, bits_agree s s' (at + 1) q x h (omega arith) b.1)

-- bytes appended leave the bits before them as they were
pub agree_append : (s x : List ℕ) (q : ℕ) → q ≤ 8 * length s → Agree s (s ++ x) q
unfolding bit_at
agree_append s x q l i h = ap (λ (n : ℕ). n / 2 ^ (7 - i % 8) % 2) (sym (get_or-append s x 0 (i / 8) (omega arith)))
