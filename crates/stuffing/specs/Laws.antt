-- What holds of adding and removing, for every list of bytes.
use Rattle.std.specs.Prelude.{ℕ, ◌+◌, ◌*◌, ◌/◌, ◌≤◌, List, [], ◌∷◌, ◌++◌, Bool, true, false, cond, ◌&&◌, ◌≡◌, refl, leb, ltb, eqb, length}
use Rattle.std.proofs.Common.{append_assoc, sym, ap, ◌∙◌, arith, leb-true, leb-false, ltb-false, ne_eqb}
use Rattle.stuffing.specs.Stuffing.{unstuff, zeros_behind, zeros_added, stuff_behind, stuff}
use Rattle.stuffing.specs.Machine.{dropped, kept, zeros_kept, unstuff_behind, zeros_read, unstuff_machine}

-- ── Removing undoes adding ────────────────────────────────────────────
removed_end : (z : ℕ) (t : Bool) → leb 2 z ≡ t → unstuff_behind z (cond t (3 ∷ []) []) ≡ []
unfolding unstuff_behind
removed_end z true e = rw e
removed_end z false e = refl

removed_byte : (z b : ℕ) (s x : List ℕ) (t g : Bool) → leb 2 z ≡ t → leb b 3 ≡ g
    → unstuff_behind (zeros_behind (cond (t && g) 0 z) b) s ≡ x → unstuff_behind z (cond (t && g) (3 ∷ b ∷ []) (b ∷ []) ++ s) ≡ b ∷ x
unfolding unstuff_behind
removed_byte z b s x true true e g h = rw e (ap (λ (l : List ℕ). b ∷ l) h)
removed_byte z b s x true false e g h =
    let n : eqb b 3 ≡ false = ne_eqb b 3 (λ q. omega (arith, leb-false b 3 g)) in
    rw (e, n) (ap (λ (l : List ℕ). b ∷ l) h)
removed_byte z b s x false g e _ h = rw e (ap (λ (l : List ℕ). b ∷ l) h)

removed : (z : ℕ) (x : List ℕ) → unstuff_behind z (stuff_behind z x) ≡ x
unfolding stuff_behind
removed z [] = removed_end z (leb 2 z) refl
removed z (b ∷ x) = removed_byte z b (stuff_behind (zeros_added z b) x) x (leb 2 z) (leb b 3) refl refl (removed (zeros_added z b) x)

pub unstuff_stuff : (x : List ℕ) → unstuff (stuff x) ≡ x
unfolding stuff
unstuff_stuff x = unstuff_machine (stuff x) ∙ removed 0 x

-- ── Removing from a longer input begins with what it gave for the shorter ─
unstuff_behind_append : (z : ℕ) (a b : List ℕ) → unstuff_behind z (a ++ b) ≡ unstuff_behind z a ++ unstuff_behind (zeros_read z a) b
unfolding unstuff_behind zeros_read
unstuff_behind_append z [] b = refl
unstuff_behind_append z (x ∷ a) b =
    rw (unstuff_behind_append (zeros_kept z x) a b)
    (sym (append_assoc (kept z x) (unstuff_behind (zeros_kept z x) a) (unstuff_behind (zeros_read (zeros_kept z x) a) b)))

pub unstuff_append : (a b : List ℕ) → unstuff (a ++ b) ≡ unstuff a ++ unstuff_behind (zeros_read 0 a) b
unstuff_append a b = rw (unstuff_machine (a ++ b), unstuff_machine a) (unstuff_behind_append 0 a b)

-- ── Lengths ───────────────────────────────────────────────────────────
zeros_behind_rise : (z b : ℕ) → zeros_behind z b ≤ z + 1
zeros_behind_rise z b = rise (eqb b 0) (ltb z 2) refl where
  rise : (t u : Bool) → ltb z 2 ≡ u → cond t (cond u (z + 1) 2) 0 ≤ z + 1
  rise true true e = omega arith
  rise true false e = omega (arith, ltb-false z 2 e)
  rise false u e = omega arith

-- a 03 comes only behind two zeros, so twice the length grows by at most three a byte
added_end : (z : ℕ) (t : Bool) → leb 2 z ≡ t → 2 * length {A = ℕ} (cond t (3 ∷ []) []) ≤ z
added_end z true e = omega (arith, leb-true 2 z e)
added_end z false e = omega arith

added_byte : (z b n : ℕ) (s : List ℕ) (t g : Bool) → leb 2 z ≡ t → 2 * length s ≤ 3 * n + zeros_behind (cond (t && g) 0 z) b
    → 2 * length (cond (t && g) (3 ∷ b ∷ []) (b ∷ []) ++ s) ≤ 3 * (n + 1) + z
added_byte z b n s true true e h = omega (arith, leb-true 2 z e, zeros_behind_rise 0 b)
added_byte z b n s true false e h = omega (arith, zeros_behind_rise z b)
added_byte z b n s false g e h = omega (arith, zeros_behind_rise z b)

stuff_behind_length : (z : ℕ) (x : List ℕ) → 2 * length (stuff_behind z x) ≤ 3 * length x + z
unfolding stuff_behind
stuff_behind_length z [] = omega (arith, added_end z (leb 2 z) refl)
stuff_behind_length z (b ∷ x) =
    omega
    (arith, added_byte z b (length x) (stuff_behind (zeros_added z b) x) (leb 2 z) (leb b 3) refl (stuff_behind_length (zeros_added z b) x))

-- at most one byte is added for two
pub stuff_length : (x : List ℕ) → length (stuff x) ≤ length x + length x / 2
unfolding stuff
stuff_length x = omega (arith, stuff_behind_length 0 x)

unstuff_behind_length : (z : ℕ) (s : List ℕ) → length (unstuff_behind z s) ≤ length s
unfolding unstuff_behind
unstuff_behind_length z [] = omega arith
unstuff_behind_length z (b ∷ s) = shorter (dropped z b) (unstuff_behind (zeros_kept z b) s) (unstuff_behind_length (zeros_kept z b) s) where
  shorter : (t : Bool) (k : List ℕ) → length k ≤ length s → length (cond t [] (b ∷ []) ++ k) ≤ length (b ∷ s)
  shorter true k h = omega arith
  shorter false k h = omega arith

-- removing never lengthens
pub unstuff_length : (s : List ℕ) → length (unstuff s) ≤ length s
unstuff_length s = rw (unstuff_machine s) (unstuff_behind_length 0 s)

-- and drops at most one byte of three
unstuff_behind_least : (z : ℕ) (s : List ℕ) → 2 * length s ≤ 3 * length (unstuff_behind z s) + z
unfolding unstuff_behind
unstuff_behind_least z [] = omega arith
unstuff_behind_least z (b ∷ s) = go (leb 2 z) refl (eqb b 3) (unstuff_behind_least (zeros_kept z b) s) where
  go : (t : Bool) → leb 2 z ≡ t → (u : Bool) → 2 * length s ≤ 3 * length (unstuff_behind (cond (t && u) 0 (zeros_behind z b)) s) + cond (t && u) 0 (zeros_behind z b)
      → 2 * length (b ∷ s) ≤ 3 * length (cond (t && u) [] (b ∷ []) ++ unstuff_behind (cond (t && u) 0 (zeros_behind z b)) s) + z
  go true e true h = omega (arith, leb-true 2 z e, h)
  go true e false h = omega (arith, zeros_behind_rise z b, h)
  go false e u h = omega (arith, zeros_behind_rise z b, h)

pub unstuff_least : (s : List ℕ) → 2 * length s ≤ 3 * length (unstuff s)
unstuff_least s = rw (unstuff_machine s) (omega (arith, unstuff_behind_least 0 s))

-- adding never shortens
pub stuff_longer : (x : List ℕ) → length x ≤ length (stuff x)
stuff_longer x = rw (unstuff_stuff x) at (unstuff_length (stuff x))
