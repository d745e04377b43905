-- Laws of codes: which bits they are, and what is read where they stand.
use Rattle.std.specs.Prelude.{ℕ, zero, suc, ◌+◌, ◌*◌, ◌-◌, ◌/◌, ◌^◌, ◌≤◌, ◌<◌, ◌≡◌, refl, List, [], ◌∷◌, ◌++◌, Bool, true, false, cond, ◌&&◌, ltb, leb, eqb, length, replicate}
use Rattle.std.proofs.Common.{sym, ap, ◌∙◌, append_assoc, add-zero, arith, lit<, length-append, pow_mono, ltb-true, ltb-false, leb-true, eqb-true, lt-ltb, le-ltb, le-leb, eq-eqb, ne_eqb}
use Rattle.std.proofs.Math.Nat.{two-pow-succ, one-le-pow, div-eq_of_lt}
use Rattle.std.specs.Int.Count.{count_leading_zeros}
use Rattle.std.proofs.lemmas.Nat.{leading_top}
use Rattle.std.proofs.lemmas.List.{length-replicate}
use Rattle.std.proofs.Math.Pow.{high}
use Rattle.std.proofs.lemmas.Bool.{eqb-false}
use Rattle.refusals.specs.Number.{code_too_long, code_past_end}
use Rattle.bits.specs.Bits.{bit_at, field_at, bits_of}
use Rattle.bits.specs.Code.{zeros_at, code_behind, code_at, prefix_length, code_of}
use Rattle.bits.specs.Code.Taken.{taken, refused}
use Rattle.bits.specs.FieldLaws.{bit_lt, field_lt, BitsAt, bits_join, bits_length, bits_field, bits_first, bits_split, bits_over, bits_of_zero}

-- ── The prefix of zeros ───────────────────────────────────────────────
-- k zeros and then a one: k zeros are counted
pub zeros_found : (s : List ℕ) (at n k : ℕ) → k < n → at + k < 8 * length s → BitsAt s at (replicate k 0 ++ (1 ∷ [])) → zeros_at s at n ≡ k
unfolding zeros_at
zeros_found s at zero k f g h = absurd (omega arith)
zeros_found s at (suc n) zero f g h = rw (lt-ltb at (8 * length s) (omega arith), ne_eqb (bit_at s at) 0 (λ e. omega (arith, h.0))) refl
zeros_found s at (suc n) (suc k) f g h =
    rw (lt-ltb at (8 * length s) (omega arith), eq-eqb (bit_at s at) 0 h.0)
    (ap suc (zeros_found s (at + 1) n k (omega arith) (omega arith) h.1))

-- k zeros and then the end: k zeros are counted
pub zeros_to_end : (s : List ℕ) (at n k : ℕ) → k ≤ n → at + k ≡ 8 * length s → BitsAt s at (replicate k 0) → zeros_at s at n ≡ k
unfolding zeros_at
zeros_to_end s at zero k f g h = omega arith
zeros_to_end s at (suc n) zero f g h = rw (le-ltb at (8 * length s) (omega arith)) refl
zeros_to_end s at (suc n) (suc k) f g h =
    rw (lt-ltb at (8 * length s) (omega arith), eq-eqb (bit_at s at) 0 h.0)
    (ap suc (zeros_to_end s (at + 1) n k (omega arith) (omega arith) h.1))

-- past the end no zeros are counted
pub zeros_past_end : (s : List ℕ) (at n : ℕ) → 8 * length s ≤ at → zeros_at s at n ≡ 0
unfolding zeros_at
zeros_past_end s at zero h = refl
zeros_past_end s at (suc n) h = rw (le-ltb at (8 * length s) h) refl

-- n zeros: all are counted
pub zeros_all : (s : List ℕ) (at n : ℕ) → at + n ≤ 8 * length s → BitsAt s at (replicate n 0) → zeros_at s at n ≡ n
unfolding zeros_at
zeros_all s at zero g h = refl
zeros_all s at (suc n) g h =
    rw (lt-ltb at (8 * length s) (omega arith), eq-eqb (bit_at s at) 0 h.0)
    (ap suc (zeros_all s (at + 1) n (omega arith) h.1))

-- the other way: the zeros that are counted stand there, and a one behind them where the bytes don't end
pub zeros_stand : (s : List ℕ) (at n : ℕ) → BitsAt s at (replicate (zeros_at s at n) 0)
unfolding zeros_at
zeros_stand s at zero = tt
zeros_stand s at (suc n) = go (zeros_stand s (at + 1) n) (ltb at (8 * length s)) (eqb (bit_at s at) 0) refl
  where
    go : BitsAt s (at + 1) (replicate (zeros_at s (at + 1) n) 0) → (a b : Bool) → eqb (bit_at s at) 0 ≡ b → BitsAt s at (replicate (cond (a && b) (suc (zeros_at s (at + 1) n)) 0) 0)
    go h false b e = tt
    go h true false e = tt
    go h true true e = (eqb-true (bit_at s at) 0 e, h)

pub zeros_le : (s : List ℕ) (at n : ℕ) → zeros_at s at n ≤ n
unfolding zeros_at
zeros_le s at zero = omega arith
zeros_le s at (suc n) = go (zeros_le s (at + 1) n) (ltb at (8 * length s) && eqb (bit_at s at) 0)
  where
    go : zeros_at s (at + 1) n ≤ n → (a : Bool) → cond a (suc (zeros_at s (at + 1) n)) 0 ≤ suc n
    go h true = omega arith
    go h false = omega arith

pub zeros_one : (s : List ℕ) (at n : ℕ) → zeros_at s at n < n → at + zeros_at s at n < 8 * length s → bit_at s (at + zeros_at s at n) ≡ 1
unfolding zeros_at
zeros_one s at zero f g = absurd (omega arith)
zeros_one s at (suc n) f g = go (zeros_one s (at + 1) n) (ltb at (8 * length s)) refl (eqb (bit_at s at) 0) refl f g
  where
    go : (zeros_at s (at + 1) n < n → at + 1 + zeros_at s (at + 1) n < 8 * length s → bit_at s (at + 1 + zeros_at s (at + 1) n) ≡ 1)
        → (a : Bool) → ltb at (8 * length s) ≡ a → (b : Bool) → eqb (bit_at s at) 0 ≡ b
        → cond (a && b) (suc (zeros_at s (at + 1) n)) 0 < suc n
        → at + cond (a && b) (suc (zeros_at s (at + 1) n)) 0 < 8 * length s
        → bit_at s (at + cond (a && b) (suc (zeros_at s (at + 1) n)) 0) ≡ 1
    go h false e b f k l = absurd (omega (arith, ltb-false at (8 * length s) e))
    go h true e false f k l = rw add-zero (one (bit_at s at) (bit_lt s at) (eqb-false (bit_at s at) 0 f))
      where
        one : (b : ℕ) → b < 2 → (b ≡ 0 → ⊥) → b ≡ 1
        one zero g m = absurd (m refl)
        one (suc zero) g m = refl
        one (suc (suc b)) g m = absurd (omega arith)
    go h true e true f k l =
        let q : at + suc (zeros_at s (at + 1) n) ≡ at + 1 + zeros_at s (at + 1) n = omega arith in
        rw q (h (omega arith) (omega arith))

-- ── The length of a code ──────────────────────────────────────────────
-- what a prefix length says of its number
pub record Prefix (v k : ℕ) : Type 0 where
  pub least : 2 ^ k ≤ v + 1
  pub most : v + 1 < 2 ^ suc k
  pub short : k < 32

pub prefix_of : (v : ℕ) → v < 4294967295 → Prefix v (prefix_length v)
prefix_of v h =
    let t = leading_top 32 (v + 1) (omega arith) (omega arith) in
    let e : t.0 ≡ 31 - count_leading_zeros 32 (v + 1) = omega (arith, t.1) in
    record { least = rw e at t.2; most = rw e at t.3; short = omega arith }

-- and there is but one such length
not_less : (v j k : ℕ) → 2 ^ k ≤ v + 1 → v + 1 < 2 ^ suc j → j < k → ⊥
not_less v j k f g h = let p : 2 ^ suc j ≤ 2 ^ k = pow_mono h in omega arith

pub prefix_is : (v k : ℕ) → Prefix v k → prefix_length v ≡ k
prefix_is v k p =
    let w : 2 ^ suc k ≤ 2 ^ 32 = pow_mono p.short in
    let q = prefix_of v (omega (arith, p.most)) in
    go (ltb (prefix_length v) k) refl (ltb k (prefix_length v)) refl q
  where
    go : (a : Bool) → ltb (prefix_length v) k ≡ a → (b : Bool) → ltb k (prefix_length v) ≡ b → Prefix v (prefix_length v) → prefix_length v ≡ k
    go true e b f q = absurd (not_less v (prefix_length v) k p.least q.most (ltb-true (prefix_length v) k e))
    go false e true f q = absurd (not_less v k (prefix_length v) q.least p.most (ltb-true k (prefix_length v) f))
    go false e false f q = omega (arith, ltb-false (prefix_length v) k e, ltb-false k (prefix_length v) f)

pub code_length : (v : ℕ) → length (code_of v) ≡ prefix_length v + 1 + prefix_length v
unfolding code_of
code_length v = simp (length-append, length-replicate, bits_length) refl

-- a code is one field: the number and one, in twice the prefix and one bits
one_field : (k f : ℕ) → f < 2 ^ k → replicate k 0 ++ (1 ∷ []) ++ bits_of k f ≡ bits_of (2 * k + 1) (2 ^ k + f)
one_field k f h =
    let e : 2 * k + 1 ≡ k + suc k = omega arith in
    let t : (2 ^ k + f) / 2 ^ suc k ≡ 0 = div-eq_of_lt (omega (arith, two-pow-succ k)) in
    let o : 1 * 2 ^ k + f ≡ 2 ^ k + f = omega arith in
    let q : (2 ^ k + f) / 2 ^ k ≡ 1 = rw o at (high 1 k h) in
    append_assoc (replicate k 0) (1 ∷ []) (bits_of k f)
    ∙ sym (rw (e, bits_split k (suc k) (2 ^ k + f), t, bits_of_zero k, bits_first k (2 ^ k + f), q, bits_over k f) refl)

pub code_is_field : (v : ℕ) → v < 4294967295 → code_of v ≡ bits_of (2 * prefix_length v + 1) (v + 1)
unfolding code_of
code_is_field v h =
    let k : ℕ = prefix_length v in
    let p = prefix_of v h in
    let g : 2 ^ k + (v + 1 - 2 ^ k) ≡ v + 1 = omega arith in
    one_field k (v + 1 - 2 ^ k) (omega (arith, two-pow-succ k)) ∙ ap (bits_of (2 * k + 1)) g

-- ── Reading a code ────────────────────────────────────────────────────
-- k zeros and a one, with k bits behind them, that stand among the bytes
pub code_at_lem : (s : List ℕ) (at k : ℕ) → k < 32 → at + k + 1 + k ≤ 8 * length s → BitsAt s at (replicate k 0 ++ (1 ∷ [])) → code_at s at ≡ taken (2 ^ k - 1 + field_at s (at + k + 1) k) (at + k + 1 + k)
unfolding code_at code_behind
code_at_lem s at k f g h = rw (zeros_found s at 32 k f (omega arith) h, lt-ltb k 32 f, le-leb (at + k + 1 + k) (8 * length s) g) refl

-- the code of 2 ^ k - 1 + f, f below 2 ^ k, is k zeros, a one and f's k bits
pub code_of_lem : (k f : ℕ) → k < 32 → f < 2 ^ k → code_of (2 ^ k - 1 + f) ≡ replicate k 0 ++ (1 ∷ []) ++ bits_of k f
unfolding code_of
code_of_lem k f h l =
    let o = one-le-pow k 2 (lit< tt) in
    let p : Prefix (2 ^ k - 1 + f) k = record { least = omega arith; most = omega (arith, two-pow-succ k); short = h } in
    let g : 2 ^ k - 1 + f + 1 - 2 ^ k ≡ f = omega arith in
    rw (prefix_is (2 ^ k - 1 + f) k p, g) refl

-- a code that is taken is whole: its bits stand among the bytes, and it is the code of its number
pub record Whole (s : List ℕ) (at v next : ℕ) : Type 0 where
  pub inside : next ≤ 8 * length s
  pub small : v < 4294967295
  pub behind : next ≡ at + length (code_of v)
  pub stands : BitsAt s at (code_of v)

whole : (s : List ℕ) (at k : ℕ) → k < 32 → at + k + 1 + k ≤ 8 * length s → BitsAt s at (replicate k 0) → bit_at s (at + k) ≡ 1 → Whole s at (2 ^ k - 1 + field_at s (at + k + 1) k) (at + k + 1 + k)
whole s at k f i z o =
    let l = field_lt s (at + k + 1) k in
    let w : 2 ^ suc k ≤ 2 ^ 32 = pow_mono f in
    let x : ℕ = field_at s (at + k + 1) k in
    let c : code_of (2 ^ k - 1 + x) ≡ replicate k 0 ++ (1 ∷ []) ++ bits_of k x = code_of_lem k x f l in
    let n : length {A = ℕ} (replicate k 0 ++ (1 ∷ [])) ≡ k + 1 = simp (length-append, length-replicate) refl in
    let m : at + (k + 1) ≡ at + k + 1 = omega arith in
    let a : BitsAt s at (replicate k 0 ++ (1 ∷ [])) = bits_join s at (replicate k 0) (1 ∷ []) z (rw length-replicate (o, tt)) in
    let b : BitsAt s at (replicate k 0 ++ (1 ∷ []) ++ bits_of k x) = bits_join s at (replicate k 0 ++ (1 ∷ [])) (bits_of k x) a (rw (n, m) (bits_field s (at + k + 1) k)) in
    let y : length {A = ℕ} (replicate k 0 ++ (1 ∷ []) ++ bits_of k x) ≡ k + 1 + k = simp (length-append, length-replicate, bits_length) refl in
    record { inside = i; small = omega (arith, two-pow-succ k); behind = rw c (omega arith); stands = rw c b }

pub code_whole : (s : List ℕ) (at v next : ℕ) → code_at s at ≡ taken v next → Whole s at v next
unfolding code_at code_behind
code_whole s at v next e = go (zeros_at s at 32) (zeros_stand s at 32) (zeros_one s at 32) (ltb (zeros_at s at 32) 32) refl (leb (at + zeros_at s at 32 + 1 + zeros_at s at 32) (8 * length s)) refl e
  where
    go : (k : ℕ) → BitsAt s at (replicate k 0) → (k < 32 → at + k < 8 * length s → bit_at s (at + k) ≡ 1)
        → (a : Bool) → ltb k 32 ≡ a → (b : Bool) → leb (at + k + 1 + k) (8 * length s) ≡ b
        → cond a (cond b (taken (2 ^ k - 1 + field_at s (at + k + 1) k) (at + k + 1 + k)) (refused code_past_end)) (refused code_too_long) ≡ taken v next
        → Whole s at v next
    go k z o true f true g h =
        let i = leb-true (at + k + 1 + k) (8 * length s) g in
        let x : 2 ^ k - 1 + field_at s (at + k + 1) k ≡ v = cc in
        let y : at + k + 1 + k ≡ next = cc in
        rw (← x, ← y) (whole s at k (ltb-true k 32 f) i z (o (ltb-true k 32 f) (omega arith)))
    go k z o true f false g h = absurd (let n : ◌≡◌ {A = ℕ} 0 1 = cc in omega arith)
    go k z o false f b g h = absurd (let n : ◌≡◌ {A = ℕ} 0 1 = cc in omega arith)

-- how far a code goes: the place never falls, and moves by at most 63
pub record Near (at next : ℕ) : Type 0 where
  pub least : at ≤ next
  pub most : next ≤ at + 63

pub code_near : (s : List ℕ) (at v next : ℕ) → code_at s at ≡ taken v next → Near at next
unfolding code_at code_behind
code_near s at v next e = go (ltb (zeros_at s at 32) 32) refl (leb (at + zeros_at s at 32 + 1 + zeros_at s at 32) (8 * length s)) e
  where
    k : ℕ
    k = zeros_at s at 32

    go : (a : Bool) → ltb k 32 ≡ a → (b : Bool)
        → cond a (cond b (taken (2 ^ k - 1 + field_at s (at + k + 1) k) (at + k + 1 + k)) (refused code_past_end)) (refused code_too_long) ≡ taken v next
        → Near at next
    go true f true h = let y : at + k + 1 + k ≡ next = cc in let l = ltb-true k 32 f in record { least = omega arith; most = omega arith }
    go true f false h = absurd (let n : ◌≡◌ {A = ℕ} 0 1 = cc in omega arith)
    go false f b h = absurd (let n : ◌≡◌ {A = ℕ} 0 1 = cc in omega arith)
