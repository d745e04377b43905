-- general_constraints_info() read in the record's order: the eight bits that say how many more there are stand 69 bits on.
use Rattle.std.specs.Prelude.{ℕ, zero, suc, ◌+◌, ◌*◌, ◌-◌, ◌<◌, ◌≡◌, refl, List, [], ◌∷◌, drop, Result}
use Rattle.std.proofs.Common.{sym, ◌∙◌, subst₂, add-zero, zero-add}
use Rattle.std.proofs.Math.Path.{ap, subst}
use native.Mathlib.Omega.{arith}
use Rattle.bits.specs.Bits.{field_at}
use Rattle.bits.specs.FieldLaws.{field_one}
use Rattle.vps_definition.specs.Syntax.{Syntax, ◌>>=◌, keeping, Outcome, run}
use Rattle.vps_definition.specs.Syntax.Syntax.{field, keep, done}
use Rattle.vps_definition.specs.Syntax.Token.{number}
use Rattle.vps_definition.specs.Syntax.Outcome.{accepted}
use Rattle.vps_definition.specs.Words.{inferred, nothing, keeps, loop, repeat}
use Rattle.vps_definition.specs.ProfileTierLevel.{ahead, number_of, constraint_bit, constraints}
use Rattle.refusals.specs.declared.refusal.Refusal.{Refusal}
use Rattle.reading.specs.declared.Reading.{Reading}
use Rattle.reading.specs.Fits.{limit, Room, Fits}
use Rattle.reading.specs.Meets.{After, Meets}
use Rattle.reading.specs.Silent.{run_silent, fits_silent}

-- ── Bits ──────────────────────────────────────────────────────────────
-- the n bits from a place on
unfoldable bits_from : List ℕ → ℕ → ℕ → List ℕ
bits_from s at zero = []
bits_from s at (suc n) = field_at s at 1 ∷ bits_from s (at + 1) n

bits_drop : (s : List ℕ) (at k n : ℕ) → drop k (bits_from s at (k + n)) ≡ bits_from s (at + k) n
unfolding bits_from
bits_drop s at zero n = rw (zero-add n, add-zero at) refl
bits_drop s at (suc k) n =
    let e : suc k + n ≡ suc (k + n) = omega arith in
    let p : at + 1 + k ≡ at + suc k = omega arith in
    ap (λ (j : ℕ). drop (suc k) (bits_from s at j)) e ∙ bits_drop s (at + 1) k n ∙ ap (λ (q : ℕ). bits_from s q n) p

-- their number, behind w bits that stand before them
bits_number : (s : List ℕ) (at w n : ℕ) → number_of (field_at s at w) (bits_from s (at + w) n) ≡ field_at s at (w + n)
unfolding bits_from number_of field_at
bits_number s at w zero = ap (field_at s at) (sym (add-zero w))
bits_number s at w (suc n) =
    let p : at + w + 1 ≡ at + suc w = omega arith in
    let q : suc w + n ≡ w + suc n = omega arith in
    ap (λ (b : ℕ). number_of (field_at s at w * 2 + b) (bits_from s (at + w + 1) n)) (field_one s (at + w))
    ∙ ap (λ (k : ℕ). number_of (field_at s at (suc w)) (bits_from s k n)) p
    ∙ bits_number s at (suc w) n
    ∙ ap (field_at s at) q

length_bits : (s : List ℕ) (at : ℕ) → number_of 0 (drop 69 (bits_from s at 77)) ≡ field_at s (at + 69) 8
unfolding field_at
length_bits s at = ap (number_of 0) (bits_drop s at 69 8) ∙ ap (λ (p : ℕ). number_of 0 (bits_from s p 8)) (sym (add-zero (at + 69))) ∙ bits_number s (at + 69) 0 8

-- ── The bits ahead, and then kept ─────────────────────────────────────
run_ahead : (n i : ℕ) (s : List ℕ) (at : ℕ) → run (ahead n i) s at ≡ accepted (bits_from s at n) [] (at + n)
unfolding ahead bits_from run
run_ahead zero i s at = ap (accepted [] []) (sym (add-zero at))
run_ahead (suc n) i s at =
    let p : at + 1 + n ≡ at + suc n = omega arith in
    run_silent (ahead n (i + 1)) (λ l. done (field_at s at 1 ∷ l)) s (at + 1) (run_ahead n (i + 1) s (at + 1)) ∙ ap (accepted (field_at s at 1 ∷ bits_from s (at + 1) n) []) p

-- the turns of a loop of one table are alike
turn_alike : (n i j : ℕ) (x : Unit {0}) → loop (λ i x. constraint_bit) n i x ≡ loop (λ i x. constraint_bit) n j x
unfolding loop
turn_alike zero i j x = refl
turn_alike (suc n) i j x = λ t. constraint_bit >>= λ y. turn_alike n (i + 1) (j + 1) y t

turn_first : (n : ℕ) → repeat (suc n) constraint_bit ≡ field 1 0 (λ v. repeat n constraint_bit)
unfolding repeat loop constraint_bit nothing ◌>>=◌
turn_first n = λ t. field 1 0 (λ v. turn_alike n 1 0 tt t)

-- bits that were read ahead and are kept now are those of the first turns
run_kept : (n m : ℕ) (s : List ℕ) (at : ℕ) → run (keeps (bits_from s at n) >>= λ k. repeat m constraint_bit) s (at + n) ≡ run (repeat (n + m) constraint_bit) s at
unfolding bits_from keeps nothing ◌>>=◌ run
run_kept zero m s at = rw (add-zero at, zero-add m) refl
run_kept (suc n) m s at =
    let p : at + suc n ≡ at + 1 + n = omega arith in
    let e : suc (n + m) ≡ suc n + m = omega arith in
    ap (λ (q : ℕ). keeping (number (field_at s at 1)) (run (keeps (bits_from s (at + 1) n) >>= λ k. repeat m constraint_bit) s q)) p
    ∙ ap (keeping (number (field_at s at 1))) (run_kept n m s (at + 1))
    ∙ ap (λ (v : ℕ). keeping (number v) (run (repeat (n + m) constraint_bit) s (at + 1))) (sym (add-zero (field_at s at 1)))
    ∙ ap (λ (x : Syntax (Unit {0})). run x s at) (sym (turn_first (n + m)) ∙ ap (λ (j : ℕ). repeat j constraint_bit) e)

fits_kept : (n m : ℕ) (s : List ℕ) (at k : ℕ) → Fits (keeps (bits_from s at n) >>= λ k. repeat m constraint_bit) s (at + n) k → Fits (repeat (n + m) constraint_bit) s at k
unfolding bits_from keeps nothing ◌>>=◌ Fits
fits_kept zero m s at k h = subst₂ (λ (j p : ℕ). Fits (repeat j constraint_bit) s p k) (sym (zero-add m)) (add-zero at) h
fits_kept (suc n) m s at k h =
    let p : at + suc n ≡ at + 1 + n = omega arith in
    let e : suc (n + m) ≡ suc n + m = omega arith in
    subst (λ (x : Syntax (Unit {0})). Fits x s at k) (sym (turn_first (n + m)) ∙ ap (λ (j : ℕ). repeat j constraint_bit) e)
    (record { near = omega (arith, h.0.near); few = h.0.few }, fits_kept n m s (at + 1) (k + 1) (subst (λ (q : ℕ). Fits (keeps (bits_from s (at + 1) n) >>= λ k. repeat m constraint_bit) s q (k + 1)) p h.1))

-- ── The whole ─────────────────────────────────────────────────────────
-- the length, and then all bits
abbrev pub in_order : ℕ → Syntax (Unit {0})
in_order v = inferred v >>= λ n. repeat n constraint_bit

module _ (s : List ℕ) (at : ℕ) where
  abbrev more : ℕ
  more = field_at s (at + 69) 8

  abbrev behind : List ℕ → Syntax (Unit {0})
  behind fixed = inferred (77 + number_of 0 (drop 69 fixed)) >>= λ n. keeps fixed >>= λ k. repeat (n - 77) constraint_bit

  -- behind the bits ahead
  last : behind (bits_from s at 77) ≡ keep (77 + more) (keeps (bits_from s at 77) >>= λ k. repeat more constraint_bit)
  unfolding inferred ◌>>=◌
  last =
      let e : 77 + more - 77 ≡ more = omega arith in
      ap (λ (v : ℕ). inferred (77 + v) >>= λ n. keeps (bits_from s at 77) >>= λ k. repeat (n - 77) constraint_bit) (length_bits s at)
      ∙ ap (λ (v : ℕ). keep (77 + more) (keeps (bits_from s at 77) >>= λ k. repeat v constraint_bit)) e

  run_constraints : run constraints s at ≡ run (in_order (77 + more)) s at
  unfolding constraints inferred ◌>>=◌ run
  run_constraints =
      run_silent (ahead 77 1) behind s at (run_ahead 77 1 s at)
      ∙ ap (λ (x : Syntax (Unit {0})). run x s (at + 77)) last
      ∙ ap (keeping (number (77 + more))) (run_kept 77 more s at)

  fits_constraints : (k : ℕ) → Fits constraints s at k → Fits (in_order (77 + more)) s at k
  unfolding constraints inferred ◌>>=◌ Fits
  fits_constraints k h =
      let F : Fits (keep (77 + more) (keeps (bits_from s at 77) >>= λ k. repeat more constraint_bit)) s (at + 77) k = subst (λ (x : Syntax (Unit {0})). Fits x s (at + 77) k) last (fits_silent (ahead 77 1) behind s at (run_ahead 77 1 s at) k h) in
      (record { near = omega (arith, F.0.near); few = F.0.few }, fits_kept 77 more s at (k + 1) F.1)

  near_constraints : (k : ℕ) → Fits constraints s at k → at < limit
  unfolding constraints ahead ◌>>=◌ Fits
  near_constraints k h = h.0.near

-- who infers the length from the bits ahead and goes along all in the record's order, meets the table
pub meets_constraints : {s s' : Reading} {v : ℕ} {r : Result (Unit {0}) Refusal} → (s.at < limit → v ≡ 77 + field_at s.bytes.now (s.at + 69) 8)
    → Meets (Unit {0}) (in_order v) s r s' → Meets (Unit {0}) constraints s r s'
meets_constraints {s} {s'} {v} {r} l M = record { kept = M.kept; goes = went }
  where
    went : Fits constraints s.bytes.now s.at s.n → After (run constraints s.bytes.now s.at) s r s'
    went F =
        let i : v ≡ 77 + field_at s.bytes.now (s.at + 69) 8 = l (near_constraints s.bytes.now s.at s.n F) in
        let N : Meets (Unit {0}) (in_order (77 + field_at s.bytes.now (s.at + 69) 8)) s r s' = subst (λ (n : ℕ). Meets (Unit {0}) (in_order n) s r s') i M in
        subst (λ (x : Outcome (Unit {0})). After x s r s') (sym (run_constraints s.bytes.now s.at)) (N.goes (fits_constraints s.bytes.now s.at s.n F))

-- the table's first step finds room
pub room_constraints : (s : List ℕ) (at n : ℕ) → Fits constraints s at n → Room at n
unfolding constraints ahead ◌>>=◌ Fits
room_constraints s at n h = h.0
