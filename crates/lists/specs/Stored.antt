-- Numbers stored in a lent list.
use Rattle.std.specs.Prelude.{ℕ, suc, ◌+◌, ◌-◌, ◌≤◌, ◌≡◌, refl, List, [], ◌∷◌, ◌++◌, length, set, take, drop}
use Rattle.std.proofs.Common.{sym, ap, ◌∙◌, add-zero, zero-add, append_assoc, arith, length-take-le, take_at, drop_at}
use Rattle.std.proofs.lemmas.List.{drop-drop}
use Rattle.std.proofs.lemmas.List.Edits.{sets, sets-eq}
use Rattle.std.proofs.Math.Seq.{length-sets}

-- some behind others
pub sets_append : (l : List ℕ) (i : ℕ) (vs ws : List ℕ) → sets l i (vs ++ ws) ≡ sets (sets l i vs) (i + length vs) ws
sets_append l i [] ws = rw (add-zero i) refl
sets_append l i (v ∷ vs) ws = sets_append (set l i v) (suc i) vs ws ∙ ap (λ (k : ℕ). sets (sets (set l i v) (suc i) vs) k ws) (omega arith)

-- at the beginning of a lent list, one list behind another
pub stored_behind : (lent : List ℕ) (x y : List ℕ) {n : ℕ} → n ≡ length x → sets (sets lent 0 x) n y ≡ sets lent 0 (x ++ y)
stored_behind lent x y {n} e = ap (λ (k : ℕ). sets (sets lent 0 x) k y) (e ∙ sym (zero-add (length x))) ∙ sym (sets_append lent 0 x y)

-- numbers at the beginning of a lent list, and what was behind them
abbrev pub overlaid : (numbers lent : List ℕ) → List ℕ
overlaid x lent = x ++ drop (length x) lent

-- where there is room, numbers stored from the first place on stand at the beginning
pub stored_whole : (lent x : List ℕ) → length x ≤ length lent → sets lent 0 x ≡ overlaid x lent
stored_whole lent x l = sets-eq x lent 0 (omega (arith, l)) ∙ ap (λ (k : ℕ). x ++ drop k lent) (zero-add (length x))

-- ── A part of a list ──────────────────────────────────────────────────
-- the numbers from one place to another
abbrev pub part : List ℕ → ℕ → ℕ → List ℕ
part l i end = take (end - i) (drop i l)

-- what was stored from a place on is the part there
pub part_stored : (lent l : List ℕ) (i end : ℕ) (x : List ℕ) → l ≡ sets lent i x → end ≡ i + length x → end ≤ length l → part l i end ≡ x
part_stored lent l i end x e f h =
    let m : i + length x ≤ length lent = omega (arith, ap length e, length-sets lent i x) in
    let k : end - i ≡ length x = omega arith in
    let w : l ≡ take i lent ++ (x ++ drop (i + length x) lent) = e ∙ sets-eq x lent i m ∙ append_assoc (take i lent) x (drop (i + length x) lent) in
    ap (λ (n : ℕ). take n (drop i l)) k ∙ ap (λ (a : List ℕ). take (length x) (drop i a)) w
    ∙ ap (take (length x)) (drop_at (take i lent) (x ++ drop (i + length x) lent) i (length-take-le i lent (omega arith)))
    ∙ take_at x (drop (i + length x) lent) (length x) refl

-- a part that is written anew
pub written_part : (l x : List ℕ) (i : ℕ) {k : ℕ} → length x ≡ k → i + k ≤ length l → take i l ++ (x ++ drop k (drop i l)) ≡ sets l i x
written_part l x i e m =
    (λ j. take i l ++ (x ++ drop (sym e j) (drop i l)))
    ∙ ap (λ (y : List ℕ). take i l ++ (x ++ y)) (drop-drop (length x) i l)
    ∙ sym (sets-eq x l i (omega arith) ∙ append_assoc (take i l) x (drop (i + length x) l))
