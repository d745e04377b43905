-- A slot's triples, one row for each sublayer.
use Rattle.std.specs.Prelude.{ℕ, zero, suc, ◌+◌, ◌-◌, ◌*◌, ◌/◌, ◌%◌, ◌≤◌, ◌<◌, ◌≡◌, refl, List, [], ◌∷◌, ◌++◌, Bool, true, false, cond, ltb, length, get_or, set, take}
use Rattle.std.proofs.Common.{sym, ap, ◌∙◌, add-one, arith, add-zero, ltb-true, ltb-false, length-append, get_or-set_same, get_or-set_other, get_or-append-add, take-suc, length-take-le}
use Rattle.std.proofs.Math.ListN.{get_or-append}
use Rattle.std.proofs.lemmas.List.Edits.{sets}
use Rattle.std.proofs.lemmas.List.{take-append-le}
use Rattle.lists.specs.Stored.{sets_append}

-- at most as many as the grid has
abbrev pub rows : ℕ → ℕ
rows turns = cond (ltb turns 7) turns 7

pub rows_all : (turns : ℕ) → turns ≤ 7 → rows turns ≡ turns
rows_all turns l = go (ltb turns 7) refl
  where
    go : (b : Bool) → ltb turns 7 ≡ b → cond b turns 7 ≡ turns
    go true e = refl
    go false e = omega (arith, ltb-false turns 7 e)

-- the three numbers of a row
abbrev pub triple : List ℕ → List ℕ
triple row = get_or row 0 0 ∷ get_or row 1 0 ∷ get_or row 2 0 ∷ []

-- those of the first n rows, one after another
unfoldable pub triples : ℕ → List (List ℕ) → List ℕ
triples zero grid = []
triples (suc n) grid = triples n grid ++ triple (get_or grid n [])

pub length_triples : (n : ℕ) (grid : List (List ℕ)) → length (triples n grid) ≡ 3 * n
unfolding triples
length_triples zero grid = refl
length_triples (suc n) grid = omega (arith, length_triples n grid, length-append (triples n grid) (triple (get_or grid n [])))

-- a row that is set leaves those before it
triples_before : (k n : ℕ) (grid : List (List ℕ)) (row : List ℕ) → k ≤ n → triples k (set grid n row) ≡ triples k grid
unfolding triples
triples_before zero n grid row l = refl
triples_before (suc k) n grid row l = λ i. triples_before k n grid row (omega arith) i ++ triple (get_or-set_other grid n k row [] (λ e. absurd (omega (arith, e))) i)

-- and is the next triple
pub triples_set : (n : ℕ) (grid : List (List ℕ)) (row : List ℕ) → n < length grid → triples n grid ++ triple row ≡ triples (n + 1) (set grid n row)
unfolding triples
triples_set n grid row l = rw (add-one n, triples_before n n grid row (omega arith), get_or-set_same grid n row [] l) refl

-- ── Numbers by their index ────────────────────────────────────────────
triple_at : (row : List ℕ) (j : ℕ) → j < 3 → get_or (triple row) j 0 ≡ get_or row j 0
triple_at row zero l = refl
triple_at row (suc zero) l = refl
triple_at row (suc (suc zero)) l = refl
triple_at row (suc (suc (suc j))) l = absurd (omega arith)

-- a number of the first n rows stands in its row
pub triples_at : (n i : ℕ) (grid : List (List ℕ)) → i < 3 * n → get_or (triples n grid) i 0 ≡ get_or (get_or grid (i / 3) []) (i % 3) 0
unfolding triples
triples_at zero i grid l = absurd (omega arith)
triples_at (suc n) i grid l = go (triples_at n i grid) (ltb i (3 * n)) refl
  where
    go : (i < 3 * n → get_or (triples n grid) i 0 ≡ get_or (get_or grid (i / 3) []) (i % 3) 0) → (b : Bool) → ltb i (3 * n) ≡ b → get_or (triples (suc n) grid) i 0 ≡ get_or (get_or grid (i / 3) []) (i % 3) 0
    go I true e =
        let h : i < 3 * n = ltb-true i (3 * n) e in
        get_or-append (triples n grid) (triple (get_or grid n [])) 0 i (omega (arith, length_triples n grid)) ∙ I h
    go I false e =
        let h : 3 * n ≤ i = ltb-false i (3 * n) e in
        let k : i ≡ length (triples n grid) + (i - 3 * n) = omega (arith, length_triples n grid) in
        let r : n ≡ i / 3 = omega arith in
        let c : i - 3 * n ≡ i % 3 = omega arith in
        ap (λ (j : ℕ). get_or (triples n grid ++ triple (get_or grid n [])) j 0) k
        ∙ get_or-append-add (triples n grid) (triple (get_or grid n [])) (i - 3 * n) 0
        ∙ triple_at (get_or grid n []) (i - 3 * n) (omega arith)
        ∙ (λ t. get_or (get_or grid (r t) []) (c t) 0)

-- more rows have the same first numbers
pub triples_more : (n k count : ℕ) (grid : List (List ℕ)) → count ≤ 3 * n → take count (triples (n + k) grid) ≡ take count (triples n grid)
unfolding triples
triples_more n zero count grid l = ap (λ (j : ℕ). take count (triples j grid)) (add-zero n)
triples_more n (suc k) count grid l =
    let e : n + suc k ≡ suc (n + k) = omega arith in
    ap (λ (j : ℕ). take count (triples j grid)) e
    ∙ take-append-le count (triples (n + k) grid) (triple (get_or grid (n + k) [])) (omega (arith, length_triples (n + k) grid)) ∙ triples_more n k count grid l

-- ── Storing ───────────────────────────────────────────────────────────
-- none
pub none_stored : (rec : List ℕ) (n count : ℕ) (l : List ℕ) → (0 < count → ⊥) → rec ≡ sets rec n (take count l)
none_stored rec n zero l h = refl
none_stored rec n (suc count) l h = absurd (h (omega arith))

-- one more number behind the first i
pub number_stored : {rec₁ rec₂ : List ℕ} (rec : List ℕ) (n i v : ℕ) (l : List ℕ) → i < length l → v ≡ get_or l i 0 → rec₁ ≡ sets rec n (take i l) → rec₂ ≡ set rec₁ (n + i) v → rec₂ ≡ sets rec n (take (i + 1) l)
number_stored {rec₁} {rec₂} rec n i v l h e f g =
    let k : length (take i l) ≡ i = length-take-le i l (omega arith) in
    let p : take (i + 1) l ≡ take i l ++ (v ∷ []) = ap (λ (j : ℕ). take j l) (add-one i) ∙ take-suc l i 0 h ∙ ap (λ (w : ℕ). take i l ++ (w ∷ [])) (sym e) in
    g ∙ (λ t. set (f t) (n + sym k t) v) ∙ sym (sets_append rec n (take i l) (v ∷ [])) ∙ ap (sets rec n) (sym p)

module _ (rec : List ℕ) {rec' : List ℕ} (n next count : ℕ) (grid : List (List ℕ)) (e : next - n ≤ 21 → count ≡ next - n) (f : rec' ≡ sets rec n (take count (triples 7 grid))) where
  -- a grid is stored as far as its first rows were read
  pub grid_stored : (i : ℕ) → i ≤ 7 → next ≤ n + length (triples i grid) → rec' ≡ sets rec n (take (next - n) (triples i grid))
  grid_stored i l h =
      let k : next - n ≤ 3 * i = omega (arith, length_triples i grid) in
      let m : i + (7 - i) ≡ 7 = omega arith in
      let g : count ≡ next - n = e (omega arith) in
      f ∙ ap (λ (c : ℕ). sets rec n (take c (triples 7 grid))) g
      ∙ ap (sets rec n) (sym (ap (λ (j : ℕ). take (next - n) (triples j grid)) m) ∙ triples_more i (7 - i) (next - n) grid k)

  pub grid_unread : next ≡ n → rec' ≡ rec
  grid_unread z =
      let i : count ≡ 0 = e (omega arith) ∙ omega arith in
      f ∙ ap (λ (c : ℕ). sets rec n (take c (triples 7 grid))) i
