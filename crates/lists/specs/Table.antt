-- A table's rule: one test that computes over all its numbers, and one law that gives it of each.
use Rattle.std.specs.Prelude.{ℕ, zero, suc, ◌<◌, ◌≡◌, refl, Bool, true, false, ◌&&◌, eqb}
use Rattle.std.proofs.Common.{ap, ◌∙◌, not-suc-le-zero, arith, eqb-true}
use Rattle.std.proofs.lemmas.Bool.{false≢true, eqb-false}

pub and_both : (a b : Bool) → (a && b) ≡ true → (a ≡ true) × (b ≡ true)
and_both true b e = (refl, e)
and_both false b e = absurd (false≢true e)

-- the test passes of every number below n
abbrev pub every_below : (ℕ → Bool) → ℕ → Bool
every_below f zero = true
every_below f (suc n) = f n && every_below f n

pub every_below_lem : (f : ℕ → Bool) (n : ℕ) → every_below f n ≡ true → (k : ℕ) → k < n → f k ≡ true
every_below_lem f zero e k h = absurd (not-suc-le-zero h)
every_below_lem f (suc n) e k h = go (and_both (f n) (every_below f n) e).0 (every_below_lem f n (and_both (f n) (every_below f n) e).1 k) (eqb k n) refl
  where
    go : f n ≡ true → (k < n → f k ≡ true) → (b : Bool) → eqb k n ≡ b → f k ≡ true
    go here below true q = ap f (eqb-true k n q) ∙ here
    go here below false q = below (omega (arith, eqb-false k n q, h))
