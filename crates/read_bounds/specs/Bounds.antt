-- Reading the table never takes a place or a cursor past the limit, whatever the bytes are: each count is bounded by its field's
-- width or by a check.
use Rattle.std.specs.Prelude.{ℕ, zero, suc, ◌+◌, ◌*◌, ◌-◌, ◌^◌, ◌≤◌, ◌<◌, ◌≡◌, List, [], ◌∷◌, length, get_or, drop}
use Rattle.std.proofs.Common.{add-zero, arith, length-drop}
use Rattle.std.proofs.Math.Nat.{two-pow-succ}
use Rattle.vps_definition.specs.Words.{sum}
use Rattle.vps_definition.specs.ProfileTierLevel.{number_of}
use Rattle.vps_definition.specs.Vps.{Header, Head, head}
use Rattle.vps_laws.specs.Reading.{Each}
use Rattle.vps_laws.specs.Keeps.{Below}

-- ── The first fields ──────────────────────────────────────────────────
-- by the width of vps_max_layers_minus1, and by a check
pub record Small (h : Header) : Type 0 where
  pub layers : h.layers ≤ 64
  pub sublayers : h.max_sublayers_minus1 ≤ 6

-- ── Profile, tier, level ──────────────────────────────────────────────
-- n fields of w bits
pub record Fields (n w : ℕ) (l : List ℕ) : Type 0 where
  pub count : length l ≡ n
  pub small : Below (2 ^ w) l

-- flags are at most as many as there are
pub sum_most : (l : List ℕ) → Below 2 l → sum l ≤ length l
unfolding sum
sum_most [] h = omega arith
sum_most (v ∷ l) h = omega (arith, h.0, sum_most l h.1)

-- and n bits behind a number below 2 ^ k make one below 2 ^ (k + n)
number_most : (k a : ℕ) (l : List ℕ) → a < 2 ^ k → Below 2 l → number_of a l < 2 ^ (k + length l)
unfolding number_of
number_most k a [] g h = rw add-zero g
number_most k a (b ∷ l) g h =
    let e : suc k + length l ≡ k + suc (length l) = omega arith in
    rw (← e) (number_most (suc k) (a * 2 + b) l (omega (arith, two-pow-succ k, h.0)) h.1)

below_drop : (n k : ℕ) (l : List ℕ) → Below n l → Below n (drop k l)
below_drop n zero l h = h
below_drop n (suc k) [] h = tt
below_drop n (suc k) (v ∷ l) h = below_drop n k l h.1

-- 77 bits, of which the last eight say how many follow
pub additional_most : (l : List ℕ) → Fields 77 1 l → 77 + number_of 0 (drop 69 l) - 77 ≤ 255
additional_most l f =
    let e : length (drop 69 l) ≡ 8 = omega (arith, length-drop 69 l, f.count) in
    let q : number_of 0 (drop 69 l) < 2 ^ (0 + 8) = rw e at (number_most 0 0 (drop 69 l) (omega arith) (below_drop 2 69 l f.small)) in
    omega arith

-- each max tid is at most 6, by a check
abbrev pub Low : List Head → Type 0
Low heads = Each (λ h. h.max_tid ≤ 6) heads

pub low_at : (heads : List Head) (i : ℕ) → Low heads → (get_or heads i (head 0 0)).max_tid ≤ 6
low_at [] i h = omega arith
low_at (x ∷ heads) zero h = h.0
low_at (x ∷ heads) (suc i) h = low_at heads i h.1

-- ── The whole ─────────────────────────────────────────────────────────
-- the words of all sections
abbrev pub most_words : ℕ
most_words = 794967
