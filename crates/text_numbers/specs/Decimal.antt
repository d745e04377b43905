-- A number in decimal digits, and how they are found, the last one first.
use Rattle.std.specs.Prelude.{ℕ, zero, suc, ◌+◌, ◌-◌, ◌/◌, ◌%◌, ◌^◌, ◌≤◌, ◌<◌, ◌≡◌, refl, List, [], ◌∷◌, ◌++◌, Bool, true, false, ltb, length, set, drop}
use Rattle.std.proofs.Common.{sym, ap, ◌∙◌, pow-suc, arith, add-one, append-nil, append_assoc, lt-ltb, le-ltb, ltb-true, length-append}
use Rattle.std.proofs.lemmas.List.{drop_all, drop-set}

-- in at most so many digits
unfoldable pub decimal_in : (places n : ℕ) → List ℕ
decimal_in zero n = []
decimal_in (suc k) n = elim (ltb n 10) [ true ↦ (48 + n) ∷ [] | false ↦ decimal_in k (n / 10) ++ ((48 + n % 10) ∷ []) ]

-- of 64 bits
abbrev pub decimal : ℕ → List ℕ
decimal = decimal_in 20

-- of 32 bits
abbrev pub decimal32 : ℕ → List ℕ
decimal32 = decimal_in 10

-- one digit, and several
single : (k n : ℕ) → n < 10 → decimal_in (suc k) n ≡ (48 + n) ∷ []
unfolding decimal_in
single k n h = rw (lt-ltb n 10 h, decimal_in) refl

several : (k n : ℕ) → 10 ≤ n → decimal_in (suc k) n ≡ decimal_in k (n / 10) ++ ((48 + n % 10) ∷ [])
unfolding decimal_in
several k n h = rw (le-ltb n 10 h, decimal_in) refl

-- ── The digits of a number, from the last one on ──────────────────────
-- those behind a place stand in a room of twenty bytes, and those of the rest belong before them
pub record Stands (n rest at : ℕ) (room : List ℕ) : Type 0 where
  pub inside : at < 20
  pub few : rest < 10 ^ (at + 1)
  pub is : decimal n ≡ decimal_in (at + 1) rest ++ drop (at + 1) room

pub stands_begin : (n : ℕ) {room : List ℕ} → n < 18446744073709551616 → length room ≡ 20 → Stands n n 19 room
stands_begin n {room} h l =
    record { inside = omega arith; few = omega (arith, h); is = sym (ap (λ (x : List ℕ). decimal n ++ x) (drop_all 20 room (omega (arith, l))) ∙ append-nil (decimal n)) }

-- a digit more
pub stands_more : {n rest at digit : ℕ} {room : List ℕ} → 0 < at → 10 ≤ rest → length room ≡ 20 → digit ≡ 48 + rest % 10 → Stands n rest at room → Stands n (rest / 10) (at - 1) (set room at digit)
stands_more {n} {rest} {at} {digit} {room} h t l e S =
    let back : at - 1 + 1 ≡ at = omega (arith, h) in
    record {
      inside = omega (arith, S.inside);
      few = omega (arith, S.few, pow-suc 10 at, ap (λ (k : ℕ). 10 ^ k) (add-one at), ap (λ (k : ℕ). 10 ^ k) back);
      is =
          S.is
          ∙ ap (λ (x : List ℕ). x ++ drop (at + 1) room) (ap (λ (k : ℕ). decimal_in k rest) (add-one at) ∙ several at rest t)
          ∙ append_assoc (decimal_in at (rest / 10)) ((48 + rest % 10) ∷ []) (drop (at + 1) room)
          ∙ ap (λ (d : ℕ). decimal_in at (rest / 10) ++ (d ∷ drop (at + 1) room)) (sym e)
          ∙ ap (λ (x : List ℕ). decimal_in at (rest / 10) ++ x) (sym (drop-set room at digit (omega (arith, S.inside, l))))
          ∙ ap (λ (k : ℕ). decimal_in k (rest / 10) ++ drop k (set room at digit)) (sym back);
    }

-- the first digit
pub stands_end : {n rest at digit : ℕ} {room : List ℕ} → (0 < at → rest < 10) → length room ≡ 20 → digit ≡ 48 + rest % 10 → Stands n rest at room → drop at (set room at digit) ≡ decimal n
stands_end {n} {rest} {at} {digit} {room} h l e S =
    drop-set room at digit (omega (arith, S.inside, l))
    ∙ ap (λ (d : ℕ). d ∷ drop (at + 1) room) (e ∙ omega (arith, few at S.few h))
    ∙ sym (S.is ∙ ap (λ (x : List ℕ). x ++ drop (at + 1) room) (ap (λ (k : ℕ). decimal_in k rest) (add-one at) ∙ single at rest (few at S.few h)))
  where
    few : (at : ℕ) → rest < 10 ^ (at + 1) → (0 < at → rest < 10) → rest < 10
    few zero f g = omega (arith, f)
    few (suc k) f g = g (omega arith)

-- ── Places ────────────────────────────────────────────────────────────
pub places_most : (k n : ℕ) → length (decimal_in k n) ≤ k
unfolding decimal_in
places_most zero n = omega arith
places_most (suc k) n = go (ltb n 10) refl (places_most k (n / 10))
  where
    go : (b : Bool) → ltb n 10 ≡ b → length (decimal_in k (n / 10)) ≤ k → length (decimal_in (suc k) n) ≤ suc k
    go true e h = rw (e, decimal_in) (omega arith)
    go false e h = rw (e, decimal_in) (omega (arith, length-append (decimal_in k (n / 10)) ((48 + n % 10) ∷ []), h))

-- places beyond those that a number takes change nothing
pub enough_places : (k l n : ℕ) → k ≤ l → n < 10 ^ suc k → decimal_in (suc k) n ≡ decimal_in (suc l) n
unfolding decimal_in
enough_places zero l n h g = single 0 n g ∙ sym (single l n g)
enough_places (suc k) zero n h g = absurd (omega (arith, h))
enough_places (suc k) (suc l) n h g = go (ltb n 10) refl (enough_places k l (n / 10) (omega (arith, h)) (omega (arith, g, pow-suc 10 (suc k))))
  where
    go : (b : Bool) → ltb n 10 ≡ b → decimal_in (suc k) (n / 10) ≡ decimal_in (suc l) (n / 10) → decimal_in (suc (suc k)) n ≡ decimal_in (suc (suc l)) n
    go true e i = single (suc k) n (ltb-true n 10 e) ∙ sym (single (suc l) n (ltb-true n 10 e))
    go false e i = rw (e, decimal_in) (ap (λ (x : List ℕ). x ++ ((48 + n % 10) ∷ [])) i)

-- ten are enough for 32 bits
pub decimal_ten : (n : ℕ) → n < 4294967296 → decimal n ≡ decimal32 n
decimal_ten n h = sym (enough_places 9 19 n (omega arith) (omega (arith, h)))
