-- Text with blanks before it, so that texts of different lengths end in one column.
use Rattle.std.specs.Prelude.{ℕ, zero, suc, ◌+◌, ◌-◌, ◌≤◌, ◌≡◌, refl, List, [], ◌∷◌, ◌++◌, length, replicate, take, drop}
use Rattle.std.proofs.Common.{sym, ap, ◌∙◌, arith, add-one, length-append}
use Rattle.std.proofs.lemmas.List.{length-replicate, length-drop, take_all}

-- of a width of so many bytes, where the text has no more
unfoldable pub right_aligned : (width : ℕ) → List ℕ → List ℕ
right_aligned width x = replicate (width - length x) 32 ++ x

-- the text at the end of a room, and as many blanks before it as it lacks
pub aligned_end : (width at : ℕ) {size blanks : ℕ} (room : List ℕ) {x : List ℕ} → length room ≡ size → blanks ≡ width - (size - at) → drop at room ≡ x → replicate blanks 32 ++ take (size - at) (drop at room) ≡ right_aligned width x
unfolding right_aligned
aligned_end width at {size} room l k e =
    let n : size - at ≡ length (drop at room) = omega (arith, l, length-drop at room) in
    (λ i. replicate ((k ∙ ap (λ (m : ℕ). width - m) n) i) 32 ++ take_all (size - at) (drop at room) (omega (arith, n)) i) ∙ ap (right_aligned width) e

-- then it is that long
pub aligned_length : (width : ℕ) (x : List ℕ) → length x ≤ width → length (right_aligned width x) ≡ width
unfolding right_aligned
aligned_length width x l = omega (arith, l, length-append (replicate {A = ℕ} (width - length x) 32) x, length-replicate {A = ℕ} (width - length x) 32)

-- in no width it is the text
pub aligned_none : (x : List ℕ) → right_aligned 0 x ≡ x
unfolding right_aligned
aligned_none x = let z : 0 - length x ≡ 0 = omega arith in ap (λ (k : ℕ). replicate k 32 ++ x) z

-- a blank more
pub blank_more : (i : ℕ) → replicate {A = ℕ} i 32 ++ (32 ∷ []) ≡ replicate (i + 1) 32
blank_more i = go i ∙ ap (λ (k : ℕ). replicate k 32) (sym (add-one i))
  where
    go : (i : ℕ) → replicate {A = ℕ} i 32 ++ (32 ∷ []) ≡ replicate (suc i) 32
    go zero = refl
    go (suc i) = ap (λ (x : List ℕ). 32 ∷ x) (go i)
