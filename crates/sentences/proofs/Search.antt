-- A search up the numbers, to an end that is among them: those that it has passed are none that is sought.
use Rattle.std.specs.Prelude.{ℕ, ◌+◌, ◌-◌, ◌≤◌, ◌≡◌, refl, List, [], ◌∷◌, Bool, true, false, leb, MatchOption, ⊤}
use Rattle.std.proofs.Common.{sym, ap, subst, ◌∙◌, arith, leb-true, leb-false, Option, None, Some}
use Rattle.std.specs.List.{FoldsTo}
use Rattle.std.specs.Fn.{CalledAt}
use Rattle.std.specs.Iterator.{Yields, YieldsThen}
use Rattle.std.specs.Range.{range_inclusive_left}
use Rattle.std.specs.declared.ops.RangeInclusive.{RangeInclusive}
use denote.Ref.{Bor}
use denote.Param.Members.{Mut}

-- how many numbers are left
abbrev pub left : RangeInclusive ℕ → ℕ
left a = range_inclusive_left (λ (s e : ℕ). e - s) a

-- a step up
abbrev pub ups : RangeInclusive ℕ → Option ℕ → RangeInclusive ℕ → Type 0
ups a r b = (b.end ≡ a.end) × MatchOption r ((left a ≡ 0) × (b ≡ a)) (λ x. (x ≡ a.start) × (left b + 1 ≡ left a) × (b.exhausted ≡ false → b.start ≡ a.start + 1))

-- the next number is the first of those that are left
next : (start end : ℕ) (done : Bool) (more : ℕ) → more + 1 ≡ left (record { start = start; end = end; exhausted = done }) → start + (more + 1) ≡ end + 1
next start end true more h = absurd (omega (arith, h))
next start end false more h = omega (arith, h)

module _ {F : Type 0} {g : Mut F (Bor ℕ × Unit {0}) Bool} (f : F) (Yes No : ℕ → Type 0)
    (yes : (x : ℕ) (q : F) → CalledAt g f x true q → Yes x)
    (no : (x : ℕ) (q : F) → CalledAt g f x false q → (q ≡ f) × No x) where
  -- what holds where n numbers up to the end are left
  record Passed (end n : ℕ) : Type 0 where
    some : n ≤ end
    before : (k : ℕ) → 1 ≤ k → k + n ≤ end → No k

  -- one number more has been passed
  one_more : (x n n' end : ℕ) → n + 1 ≡ n' → x + (n + 1) ≡ end + 1 → No x → Passed end n' → Passed end n
  one_more x n n' end l at h P = record {
    some = omega (arith, P.some, l);
    before = λ k low high. go k low high (leb (k + n') end) refl;
  }
    where
      go : (k : ℕ) → 1 ≤ k → k + n ≤ end → (b : Bool) → leb (k + n') end ≡ b → No k
      go k low high true e = P.before k low (leb-true (k + n') end e)
      go k low high false e = subst No {x = x} {y = k} (omega (arith, high, l, at, leb-false (k + n') end e)) h

  passed : (xs : List ℕ) (a : RangeInclusive ℕ) (j : F) (b : RangeInclusive ℕ) → Yields ups a xs b → FoldsTo (λ p x q. CalledAt g p x false q) f xs j
      → Passed a.end (left a) → (j ≡ f) × (b.end ≡ a.end) × Passed a.end (left b)
  passed [] a j b y d P = (sym d, ap (λ (r : RangeInclusive ℕ). r.end) (sym y), subst (λ (r : RangeInclusive ℕ). Passed a.end (left r)) y P)
  passed (x ∷ xs) a j b y d P =
      let n = no x d.0 d.1 in
      let at = next a.start a.end a.exhausted (left y.0) y.1.1.1 in
      let more = one_more x (left y.0) (left a) a.end y.1.1.1 (omega (arith, at, y.1.1.0)) n.1 P in
      let h = passed xs y.0 j b y.2 (subst (λ k. FoldsTo (λ p x q. CalledAt g p x false q) k xs j) n.0 d.2) (subst (λ e. Passed e (left y.0)) (sym y.1.0) more) in
      (h.0, h.1 ∙ y.1.0, subst (λ e. Passed e (left b)) y.1.0 h.2)

  -- the first that is sought, or none
  pub first_up : (end : ℕ) (a u : RangeInclusive ℕ) (r : Option ℕ) → (a.end ≡ end) × (left a ≡ end)
      → (xs : List ℕ) × (j : F) × YieldsThen ups a xs r u × FoldsTo (λ p x q. CalledAt g p x false q) f xs j × MatchOption r ⊤ (λ x. (h : F) × CalledAt g j x true h)
      → MatchOption r ((k : ℕ) → 1 ≤ k → k ≤ end → No k) (λ i. (1 ≤ i) × (i ≤ end) × Yes i)
  first_up end a u r is d = go r d.2.2 d.4
    where
      start : Passed a.end (left a)
      start = record { some = omega (arith, is.0, is.1); before = λ k low high. absurd (omega (arith, low, high, is.0, is.1)) }

      h : (d.1 ≡ f) × (d.2.0.end ≡ a.end) × Passed a.end (left d.2.0)
      h = passed d.0 a d.1 d.2.0 d.2.1 d.3 start

      go : (o : Option ℕ) → ups d.2.0 o u → MatchOption o ⊤ (λ x. (k : F) × CalledAt g d.1 x true k) → MatchOption o ((k : ℕ) → 1 ≤ k → k ≤ end → No k) (λ i. (1 ≤ i) × (i ≤ end) × Yes i)
      go None e c = λ k low high. h.2.before k low (omega (arith, high, e.1.0, is.0))
      go (Some i) e c =
          let at = next d.2.0.start d.2.0.end d.2.0.exhausted (left u) e.1.1 in
          (omega (arith, at, e.1.0, e.1.1, h.1, h.2.some, is.0), omega (arith, at, e.1.0, h.1, is.0), yes i c.0 (subst (λ k. CalledAt g k i true c.0) h.0 c.1))
