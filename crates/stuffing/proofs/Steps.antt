-- One turn of each loop, room, and a lent output, on plain lists and numbers.
use Prim.Native.Nat.{ℕ, ◌+◌, ◌*◌, ◌-◌, ◌/◌, ◌≤◌, ◌<◌}
use mathlib.Core.List.{List, [], ◌∷◌, ◌++◌}
use mathlib.Core.Bool.{Bool, true, false, cond, ◌&&◌}
use mathlib.Core.Path.{◌≡◌, refl, sym, ap, ◌∙◌}
use native.Mathlib.Omega.{arith}
use native.Mathlib.Numerals.{add-one}
use lib.Dec.{leb, ltb, eqb}
use borrow.Author.Tests.{le-leb, lt-leb, leb-true, ne_eqb}
use lib.ListN.{length, get_or, take, drop, set, length-append, length-set, drop_of_length-le}
use Rattle.std.proofs.lemmas.List.{take_all}
use lib.Seq.{set-set, sets-eq, sets, drop-cons}
use Rattle.refusals.specs.Answer.Answer.{success, refusal}
use Rattle.refusals.specs.Number.{output_too_short}
use Rattle.refusals.specs.Lent.{lent, output_after}
use Rattle.stuffing.specs.Stuffing.{marked, zeros_behind, unstuff, guarded, added, zeros_added, stuff_behind, stuff}
use Rattle.stuffing.specs.Laws.{stuff_length, stuff_longer, unstuff_length}
use Rattle.stuffing.specs.Machine.{scan_step, scan_byte, dropped, zeros_in, more_in, unstuff_behind, unstuff_machine}

-- ── The last two bytes ────────────────────────────────────────────────
pub and_false : (t : Bool) → (t && false) ≡ false
and_false true = refl
and_false false = refl

-- a byte more: the zeros are counted by the two last ones
zeros_after : (a b c : ℕ) → zeros_in b c ≡ zeros_behind (zeros_in a b) c
zeros_after a b c = go (eqb a 0) (eqb b 0) (eqb c 0) where
  go : (t u v : Bool) → cond v (cond u 2 1) 0 ≡ cond v (cond (ltb (cond u (cond t 2 1) 0) 2) (cond u (cond t 2 1) 0 + 1) 2) 0
  go t u false = refl
  go t false true = refl
  go true true true = refl
  go false true true = refl

-- whether they are two zeros
module _ {t : Bool} {m : ℕ} (more : m ≡ cond t 1 0) where
  more_one : m ≡ 1 → t ≡ true
  more_one one = go t more where
    go : (t : Bool) → m ≡ cond t 1 0 → t ≡ true
    go true e = refl
    go false e = absurd (omega arith)

  more_none : (m ≡ 1 → ⊥) → t ≡ false
  more_none other = go t more where
    go : (t : Bool) → m ≡ cond t 1 0 → t ≡ false
    go true e = absurd (other e)
    go false e = refl

-- ── The output ────────────────────────────────────────────────────────
-- n bytes of t are stored and the rest is not: with the rest, all of t is
pub record Written (t o₀ rest o : List ℕ) (n : ℕ) : Type 0 where
  pub long : length o ≡ length o₀
  pub total : n + length rest ≡ length t
  pub whole : sets o n rest ≡ sets o₀ 0 t

written_none : (t o : List ℕ) → Written t o t o 0
written_none t o = record { long = refl; total = omega arith; whole = refl }

written_byte : {t o₀ rest o o' : List ℕ} {n b : ℕ} → Written t o₀ (b ∷ rest) o n → o' ≡ set o n b → Written t o₀ rest o' (n + 1)
written_byte {o = o} {n = n} {b = b} w e =
    record { long = ap length e ∙ length-set o n b ∙ w.long; total = omega (arith, w.total); whole = rw (e, add-one n) w.whole }

written_all : {t o₀ o : List ℕ} {n : ℕ} → Written t o₀ [] o n → record { counted : n ≡ length t; stored : o ≡ sets o₀ 0 t }
written_all w = record { counted = omega (arith, w.total); stored = w.whole }

written_room : {t o₀ rest o : List ℕ} {n : ℕ} → Written t o₀ rest o n → length t ≤ length o₀ → n + length rest ≤ length o
written_room w room = omega (arith, w.long, w.total)

-- ── Measuring ─────────────────────────────────────────────────────────
-- three bytes are kept where the third isn't 0 and isn't dropped
three_kept : (a b c : ℕ) (s : List ℕ) → marked a b c ≡ false → (c ≡ 0 → ⊥) → unstuff (a ∷ b ∷ c ∷ s) ≡ a ∷ b ∷ c ∷ unstuff s
unfolding unstuff
three_kept a b c s kept other = scan_step a b c s false kept ∙ ap (λ (l : List ℕ). a ∷ l) (two s)
  where
    none : eqb c 0 ≡ false
    none = ne_eqb c 0 other

    unmarked : (t u : Bool) → (t && eqb c 0 && u) ≡ false
    unmarked true u = rw none refl
    unmarked false u = refl

    two : (s : List ℕ) → unstuff (b ∷ c ∷ s) ≡ b ∷ c ∷ unstuff s
    two [] = refl
    two (d ∷ s) = scan_step b c d s false (unmarked (eqb b 0) (eqb d 3)) ∙ ap (λ (l : List ℕ). b ∷ l) (scan_byte c (d ∷ s) none)

-- the third of three is dropped by the two before it
dropped_marked : (a b c : ℕ) → dropped (zeros_in a b) c ≡ marked a b c
dropped_marked a b c = go (eqb a 0) (eqb b 0)
  where
    go : (t u : Bool) → (leb 2 (cond u (cond t 2 1) 0) && eqb c 3) ≡ (t && u && eqb c 3)
    go true true = refl
    go true false = refl
    go false true = refl
    go false false = refl

-- n of the bytes before the rest are kept
abbrev pub Measured : (s rest : List ℕ) (n : ℕ) → Type 0
Measured s rest n = n + length (unstuff rest) ≡ length (unstuff s)

-- the rest's first three bytes
abbrev pub drops : List ℕ → Bool
drops three = dropped (zeros_in (get_or three 0 0) (get_or three 1 0)) (get_or three 2 0)

-- three bytes more, of which the third is dropped, or none
pub measured_drop : (s rest : List ℕ) (n : ℕ) → Measured s rest n → 3 ≤ length rest → drops (take 3 rest) ≡ true → Measured s (drop 3 rest) (n + 2)
measured_drop s [] n M l t = absurd (omega arith)
measured_drop s (a ∷ []) n M l t = absurd (omega arith)
measured_drop s (a ∷ b ∷ []) n M l t = absurd (omega arith)
measured_drop s (a ∷ b ∷ c ∷ rest) n M l t = omega (arith, M, ap length (scan_step a b c rest true (sym (dropped_marked a b c) ∙ t)))

pub measured_three : (s rest : List ℕ) (n : ℕ) → Measured s rest n → 3 ≤ length rest → drops (take 3 rest) ≡ false → (get_or (take 3 rest) 2 0 ≡ 0 → ⊥) → Measured s (drop 3 rest) (n + 3)
measured_three s [] n M l t o = absurd (omega arith)
measured_three s (a ∷ []) n M l t o = absurd (omega arith)
measured_three s (a ∷ b ∷ []) n M l t o = absurd (omega arith)
measured_three s (a ∷ b ∷ c ∷ rest) n M l t o = omega (arith, M, ap length (three_kept a b c rest (sym (dropped_marked a b c) ∙ t) o))

-- or one
pub measured_one : (s rest : List ℕ) (n : ℕ) → Measured s rest n → 3 ≤ length rest → drops (take 3 rest) ≡ false → Measured s (take (length rest - 1) (drop 1 rest)) (n + 1)
measured_one s [] n M l t = absurd (omega arith)
measured_one s (a ∷ []) n M l t = absurd (omega arith)
measured_one s (a ∷ b ∷ []) n M l t = absurd (omega arith)
measured_one s (a ∷ b ∷ c ∷ rest) n M l t = rw (take_all (length (a ∷ b ∷ c ∷ rest) - 1) (b ∷ c ∷ rest) (omega arith)) (omega (arith, M, ap length (scan_step a b c rest false (sym (dropped_marked a b c) ∙ t))))

-- fewer than three are kept
pub measured_end : (s rest : List ℕ) (n : ℕ) → Measured s rest n → length rest < 3 → n + length rest ≡ length (unstuff s)
unfolding unstuff
measured_end s [] n M l = M
measured_end s (a ∷ []) n M l = M
measured_end s (a ∷ b ∷ []) n M l = M
measured_end s (a ∷ b ∷ c ∷ rest) n M l = absurd (omega arith)

pub measured_few : (s rest : List ℕ) (n : ℕ) → Measured s rest n → n ≤ length s
measured_few s rest n M = omega (arith, M, unstuff_length s)

-- ── Removing ──────────────────────────────────────────────────────────
-- before a turn: i bytes of s are read and end in z zeros, and n are stored
pub record Removing (s o₀ o : List ℕ) (i n z : ℕ) : Type 0 where
  pub few : n ≤ i
  pub written : Written (unstuff s) o₀ (unstuff_behind z (drop i s)) o n

pub removing_start : (s o : List ℕ) → Removing s o o 0 0 0
removing_start s o = record { few = omega arith; written = rw (unstuff_machine s) (written_none (unstuff_behind 0 s) o) }

-- by the last two bytes, a and b
module _ {s o₀ o : List ℕ} {i n : ℕ} (a b : ℕ) (l : Removing s o₀ o i n (zeros_in a b)) (h : i < length s) where
  removing_next : {t : Bool} → dropped (zeros_in a b) (get_or s i 0) ≡ t
      → unstuff_behind (zeros_in a b) (drop i s) ≡ cond t [] (get_or s i 0 ∷ []) ++ unstuff_behind (cond t 0 (zeros_in b (get_or s i 0))) (drop (i + 1) s)
  unfolding unstuff_behind
  removing_next test = rw (add-one i, drop-cons s i 0, test, zeros_after a b (get_or s i 0)) refl

  pub removing_drop : dropped (zeros_in a b) (get_or s i 0) ≡ true → Removing s o₀ o (i + 1) n 0
  removing_drop test = record { few = omega arith; written = rw (removing_next test) at l.written }

  pub removing_keep : {o' : List ℕ} → dropped (zeros_in a b) (get_or s i 0) ≡ false → o' ≡ set o n (get_or s i 0) → Removing s o₀ o' (i + 1) (n + 1) (zeros_in b (get_or s i 0))
  removing_keep test stored = record { few = omega arith; written = written_byte (rw (removing_next test) at l.written) stored }

  pub removing_room : dropped (zeros_in a b) (get_or s i 0) ≡ false → length (unstuff s) ≤ length o₀ → n < length o
  removing_room test room = omega (arith, written_room l.written room, ap length (removing_next test))

pub removing_done : {s o₀ o : List ℕ} {i n z : ℕ} → Removing s o₀ o i n z → length s ≤ i
    → record { counted : n ≡ length (unstuff s); stored : o ≡ sets o₀ 0 (unstuff s) }
unfolding unstuff_behind
removing_done {s} l h = written_all (rw (drop_of_length-le s h) at l.written)

-- ── Adding ────────────────────────────────────────────────────────────
-- before a turn, in the same letters
pub record Adding (s o₀ o : List ℕ) (i n z : ℕ) : Type 0 where
  pub few : n ≤ 2 * i
  pub written : Written (stuff s) o₀ (stuff_behind z (drop i s)) o n

pub adding_start : (s o : List ℕ) → Adding s o o 0 0 0
unfolding stuff
adding_start s o = record { few = omega arith; written = written_none (stuff s) o }

module _ {s o₀ o : List ℕ} {i n z : ℕ} (l : Adding s o₀ o i n z) (h : i < length s) where
  adding_next : stuff_behind z (drop i s) ≡ added z (get_or s i 0) ++ stuff_behind (zeros_added z (get_or s i 0)) (drop (i + 1) s)
  unfolding stuff_behind
  adding_next = rw (add-one i, drop-cons s i 0)

  pub adding_guarded : {o' o'' : List ℕ} {z' : ℕ} → guarded z (get_or s i 0) ≡ true → o' ≡ set o n 3 → o'' ≡ set o' (n + 1) (get_or s i 0)
      → z' ≡ zeros_behind 0 (get_or s i 0) → Adding s o₀ o'' (i + 1) (n + 2) z'
  adding_guarded test stored second counted =
      let step : stuff_behind z (drop i s) ≡ 3 ∷ get_or s i 0 ∷ stuff_behind (zeros_behind 0 (get_or s i 0)) (drop (i + 1) s) = rw test at adding_next in
      let two : n + 2 ≡ n + 1 + 1 = omega arith in
      record { few = omega arith; written = rw (counted, two) (written_byte (written_byte (rw step at l.written) stored) second) }

  pub adding_plain : {o' : List ℕ} {z' : ℕ} → guarded z (get_or s i 0) ≡ false → o' ≡ set o n (get_or s i 0) → z' ≡ zeros_behind z (get_or s i 0)
      → Adding s o₀ o' (i + 1) (n + 1) z'
  adding_plain test stored counted =
      let step : stuff_behind z (drop i s) ≡ get_or s i 0 ∷ stuff_behind (zeros_behind z (get_or s i 0)) (drop (i + 1) s) = rw test at adding_next in
      record { few = omega arith; written = rw counted (written_byte (rw step at l.written) stored) }

  adding_room : length (stuff s) ≤ length o₀ → n + length (added z (get_or s i 0)) ≤ length o
  adding_room room =
      let x : List ℕ = added z (get_or s i 0) in
      let y : List ℕ = stuff_behind (zeros_added z (get_or s i 0)) (drop (i + 1) s) in
      omega (arith, written_room l.written room, ap length adding_next, length-append x y)

-- by the last two bytes, a and b
module _ {s o₀ o : List ℕ} {i n : ℕ} (a b : ℕ) (l : Adding s o₀ o i n (zeros_in a b)) (h : i < length s) where
  abbrev c : ℕ
  c = get_or s i 0

  -- a byte over 03 is only stored
  pub adding_large : {o' : List ℕ} → 3 < c → o' ≡ set o n (c) → Adding s o₀ o' (i + 1) (n + 1) 0
  adding_large large stored =
      let z : ℕ = zeros_in a b in
      adding_plain l h (ap (λ (t : Bool). leb 2 z && t) (lt-leb c 3 large) ∙ and_false (leb 2 z)) stored
      (sym (ap (λ (t : Bool). cond t (cond (ltb z 2) (z + 1) 2) 0) (ne_eqb c 0 (λ e. omega (arith, e, large)))))

  -- before another a 03 is stored; the byte takes its place, or the next one
  pub adding_small : {o' o'' : List ℕ} (m : ℕ) → c ≤ 3 → m ≡ more_in a b → o' ≡ set o n 3 → o'' ≡ set o' (n + m) (c)
      → Adding s o₀ o'' (i + 1) (n + (1 + m)) (zeros_in (b + m) (c))
  adding_small {o'} {o''} m small more first second = go (leb 2 (zeros_in a b)) refl
    where
      go : (t : Bool) → leb 2 (zeros_in a b) ≡ t → Adding s o₀ o'' (i + 1) (n + (1 + m)) (zeros_in (b + m) (c))
      go true e =
          let one : m ≡ 1 = more ∙ ap (λ (t : Bool). cond t 1 0) e in
          let next : n + m ≡ n + 1 = omega arith in
          let two : n + (1 + m) ≡ n + 2 = omega arith in
          rw two
          (adding_guarded l h (λ j. e j && le-leb c 3 small j) first (second ∙ ap (λ (k : ℕ). set o' k c) next)
          (ap (λ (t : Bool). cond (eqb c 0) (cond t 2 1) 0) (ne_eqb (b + m) 0 (λ q. omega (arith, q)))))
      go false e =
          let none : m ≡ 0 = more ∙ ap (λ (t : Bool). cond t 1 0) e in
          let here : n + m ≡ n = omega arith in
          let next : n + (1 + m) ≡ n + 1 = omega arith in
          let same : b + m ≡ b = omega arith in
          rw next
          (adding_plain l h (ap (λ (t : Bool). t && leb c 3) e) (second ∙ (λ j. set (first j) (here j) c) ∙ set-set o n 3 c) (ap (λ (k : ℕ). zeros_in k c) same ∙ zeros_after a b c))

  -- there is room for both
  pub large_room : length (stuff s) ≤ length o₀ → n < length o
  large_room room = omega (arith, adding_room l h room, some (guarded (zeros_in a b) c)) where
    some : (t : Bool) → 1 ≤ length {A = ℕ} (cond t (3 ∷ c ∷ []) (c ∷ []))
    some true = omega arith
    some false = omega arith

  pub small_room : (m : ℕ) → c ≤ 3 → m ≡ more_in a b → length (stuff s) ≤ length o₀ → n + m < length o
  small_room m small more room = omega (arith, adding_room l h room, some (leb 2 (zeros_in a b)) (leb c 3) (le-leb c 3 small), more) where
    some : (t u : Bool) → u ≡ true → length {A = ℕ} (cond (t && u) (3 ∷ c ∷ []) (c ∷ [])) ≡ 1 + cond t 1 0
    some true u e = rw e refl
    some false u e = refl

module _ {s o₀ o : List ℕ} {i n : ℕ} (a b : ℕ) (l : Adding s o₀ o i n (zeros_in a b)) (h : length s ≤ i) where
  ending : {t : Bool} → leb 2 (zeros_in a b) ≡ t → Written (stuff s) o₀ (cond t (3 ∷ []) []) o n
  unfolding stuff_behind
  ending test = rw (drop_of_length-le s h, test) at l.written

  module _ (m : ℕ) (more : m ≡ more_in a b) where
    pub adding_last : {o' : List ℕ} → m ≡ 1 → o' ≡ set o n 3 → o' ≡ sets o₀ 0 (stuff s)
    adding_last one stored = (written_all (written_byte (ending (more_one more one)) stored)).stored

    pub last_room : m ≡ 1 → length (stuff s) ≤ length o₀ → n < length o
    last_room one room = omega (arith, written_room (ending (more_one more one)) room)

    pub adding_done : (m ≡ 1 → ⊥) → o ≡ sets o₀ 0 (stuff s)
    adding_done other = (written_all (ending (more_none more other))).stored

    pub adding_counted : n + m ≡ length (stuff s)
    adding_counted = go (leb 2 (zeros_in a b)) refl where
      go : (t : Bool) → leb 2 (zeros_in a b) ≡ t → n + m ≡ length (stuff s)
      go true e = ap (λ (k : ℕ). n + k) (more ∙ ap (λ (t : Bool). cond t 1 0) e) ∙ (ending e).total
      go false e = ap (λ (k : ℕ). n + k) (more ∙ ap (λ (t : Bool). cond t 1 0) e) ∙ (ending e).total

-- ── Room ──────────────────────────────────────────────────────────────
pub room_removed : (s : List ℕ) {room : ℕ} → length s ≤ room → true ≡ leb (length (unstuff s)) room
room_removed s {room} h = sym (le-leb (length (unstuff s)) room (omega (arith, unstuff_length s)))

module _ (s : List ℕ) {room : ℕ} where
  pub no_room_added : room < length s → false ≡ leb (length (stuff s)) room
  no_room_added h = sym (lt-leb (length (stuff s)) room (omega (arith, stuff_longer s)))

  pub room_added : length s ≤ room → length s / 2 ≤ room - length s → true ≡ leb (length (stuff s)) room
  room_added h k = sym (le-leb (length (stuff s)) room (omega (arith, stuff_length s)))

-- ── A lent output ─────────────────────────────────────────────────────
module _ (t out : List ℕ) where
  pub lends_done : {n : ℕ} → leb (length t) (length out) ≡ true → n ≡ length t → success n ≡ lent t out
  unfolding lent
  lends_done test size = rw (test, size)

  pub left_done : {out' : List ℕ} → leb (length t) (length out) ≡ true → out' ≡ sets out 0 t → out' ≡ output_after t out
  unfolding output_after
  left_done test filled =
      let front : sets out 0 t ≡ t ++ drop (0 + length t) out = sets-eq t out 0 (omega (arith, leb-true (length t) (length out) test)) in
      let start : 0 + length t ≡ length t = omega arith in
      rw test (filled ∙ front ∙ rw start)

  pub lends_refused : leb (length t) (length out) ≡ false → refusal output_too_short ≡ lent t out
  unfolding lent
  lends_refused test = rw test

  pub left_refused : leb (length t) (length out) ≡ false → out ≡ output_after t out
  unfolding output_after
  left_refused test = rw test
