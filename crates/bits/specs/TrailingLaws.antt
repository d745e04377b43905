-- The trailing bits: where they stand, what they are read as, and which bits they use.
use Rattle.std.specs.Prelude.{ℕ, ◌+◌, ◌*◌, ◌%◌, ◌≤◌, ◌<◌, ◌≡◌, refl, List, Bool, true, false, cond, ltb, eqb, length, replicate}
use Rattle.std.proofs.Common.{sym, ◌∙◌, arith, ltb-true, eqb-true, lt-ltb, eq-eqb, pow_pos}
use Rattle.std.proofs.lemmas.List.{length-replicate}
use Rattle.refusals.specs.Answer.Answer.{success, refusal}
use Rattle.bits.specs.Bits.{bit_at, field_at, to_boundary}
use Rattle.bits.specs.Reading.{trailing_at}
use Rattle.bits.specs.Writing.{trailing_bits}
use Rattle.bits.specs.FieldLaws.{BitsAt, Agree, field_bits, bits_of_zero, field_agree}

-- a boundary is reached
pub boundary : (at : ℕ) → (at + to_boundary at) % 8 ≡ 0
boundary at = omega arith

-- zeros read as 0
pub zeros_field : (s : List ℕ) (at n : ℕ) → BitsAt s at (replicate n 0) → field_at s at n ≡ 0
zeros_field s at n h = field_bits s at n 0 (pow_pos n) (rw (bits_of_zero n) h)

-- the trailing bits that stand at a place, and the place behind them
pub record Trails (s : List ℕ) (at next : ℕ) : Type 0 where
  pub inside : at < 8 * length s
  pub stop : bit_at s at ≡ 1
  pub zeros : field_at s (at + 1) (to_boundary (at + 1)) ≡ 0
  pub behind : next ≡ at + 1 + to_boundary (at + 1)

past : {A : Type 0} {n next : ℕ} → refusal n ≡ success next → A
past e = absurd (let n : ◌≡◌ {A = ℕ} 0 1 = cc in omega arith)

-- trailing bits are read exactly where they stand
pub trails : (s : List ℕ) (at next : ℕ) → trailing_at s at ≡ success next → Trails s at next
unfolding trailing_at
trails s at next e = go (ltb at (8 * length s)) refl (eqb (bit_at s at) 1) refl (eqb (field_at s (at + 1) (to_boundary (at + 1))) 0) refl e
  where
    go : (a : Bool) → ltb at (8 * length s) ≡ a → (b : Bool) → eqb (bit_at s at) 1 ≡ b → (c : Bool) → eqb (field_at s (at + 1) (to_boundary (at + 1))) 0 ≡ c
        → cond a (cond b (cond c (success (at + 1 + to_boundary (at + 1))) (refusal 29)) (refusal 28)) (refusal 27) ≡ success next → Trails s at next
    go true f true g true h i =
        record {
          inside = ltb-true at (8 * length s) f;
          stop = eqb-true (bit_at s at) 1 g;
          zeros = eqb-true (field_at s (at + 1) (to_boundary (at + 1))) 0 h;
          behind = cc;
        }
    go true f true g false h i = past i
    go true f false g c h i = past i
    go false f b g c h i = past i

pub trailing_read : (s : List ℕ) (at next : ℕ) → Trails s at next → trailing_at s at ≡ success next
unfolding trailing_at
trailing_read s at next t =
    rw (lt-ltb at (8 * length s) t.inside, eq-eqb (bit_at s at) 1 t.stop, eq-eqb (field_at s (at + 1) (to_boundary (at + 1))) 0 t.zeros, t.behind) refl

-- those that the writer gives are such
pub trailing_stands : (s : List ℕ) (at : ℕ) → at < 8 * length s → BitsAt s at (trailing_bits at) → Trails s at (at + 1 + to_boundary (at + 1))
trailing_stands s at l h = record { inside = l; stop = h.0; zeros = zeros_field s (at + 1) (to_boundary (at + 1)) h.1; behind = refl }

pub trailing_length : (at : ℕ) → length (trailing_bits at) ≡ 1 + to_boundary (at + 1)
trailing_length at = let l : length {A = ℕ} (replicate (to_boundary (at + 1)) 0) ≡ to_boundary (at + 1) = length-replicate (to_boundary (at + 1)) 0 in omega arith

-- they end at a boundary among the bytes
pub trails_boundary : (s : List ℕ) (at next : ℕ) → Trails s at next → next % 8 ≡ 0
trails_boundary s at next t = rw t.behind (boundary (at + 1))

pub trails_inside : (s : List ℕ) (at next : ℕ) → Trails s at next → next ≤ 8 * length s
trails_inside s at next t = let i = t.inside in let b = t.behind in omega arith

-- and go by the bits before their end alone
pub trails_agree : (s s' : List ℕ) (at next : ℕ) → Trails s at next → Agree s s' next → next ≤ 8 * length s' → Trails s' at next
trails_agree s s' at next t a l =
    let b = t.behind in
    record {
      inside = omega arith;
      stop = sym (a at (omega arith)) ∙ t.stop;
      zeros = sym (field_agree s s' (at + 1) (to_boundary (at + 1)) next a (omega arith)) ∙ t.zeros;
      behind = b;
    }
