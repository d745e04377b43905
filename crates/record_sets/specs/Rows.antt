-- A record's rows of output layer flags, one by one.
use Rattle.std.specs.Prelude.{ℕ, zero, suc, ◌+◌, ◌*◌, ◌≤◌, ◌≡◌, refl, List, [], length, get_or, take, drop}
use Rattle.std.proofs.Common.{sym, ap, ◌∙◌, arith, drop-drop, length-take}
use Rattle.std.proofs.Math.Seq.{drop-nil}
use Rattle.std.proofs.lemmas.List.{take-take, drop-take}
use Rattle.vps_definition.specs.Record.{start_of}
use Rattle.vps_definition.specs.Layout.{from_section, rows_from}

-- row k of c rows of n numbers; past the last one it is empty
pub row_is : (n c : ℕ) (x : List ℕ) (k : ℕ) → get_or (rows_from n c x) k [] ≡ take n (drop (k * n) (take (c * n) x))
unfolding rows_from
row_is n zero x k = let z : zero * n ≡ 0 = omega arith in sym (ap (λ (m : ℕ). take n (drop (k * n) (take m x))) z ∙ ap (take n) (drop-nil (k * n)) ∙ nothing n)
  where
    nothing : (n : ℕ) → ◌≡◌ {A = List ℕ} (take n []) []
    nothing zero = refl
    nothing (suc n) = refl
row_is n (suc c) x zero =
    let l : n ≤ n + c * n = omega arith in
    let e : suc c * n ≡ n + c * n = omega arith in
    let z : zero * n ≡ 0 = omega arith in
    sym (ap (λ (m : ℕ). take n (drop m (take (suc c * n) x))) z ∙ ap (λ (m : ℕ). take n (take m x)) e ∙ take-take n (n + c * n) x l)
row_is n (suc c) x (suc k) =
    let e : suc c * n ≡ n + c * n = omega arith in
    let f : suc k * n ≡ n + k * n = omega arith in
    row_is n c (drop n x) k
    ∙ ap (λ (y : List ℕ). take n (drop (k * n) y)) (sym (drop-take n (c * n) x))
    ∙ ap (take n) (drop-drop (k * n) n (take (n + c * n) x))
    ∙ ap (λ (m : ℕ). take n (drop m (take (n + c * n) x))) (sym f)
    ∙ ap (λ (m : ℕ). take n (drop (suc k * n) (take m x))) (sym e)

-- no row is longer than n
pub row_short : (n c : ℕ) (x : List ℕ) (k : ℕ) → length (get_or (rows_from n c x) k []) ≤ n
row_short n c x k = let y : List ℕ = drop (k * n) (take (c * n) x) in omega (arith, ap length (row_is n c x k), length-take n y)

-- row k of a record that has rows
unfoldable pub row_of : List ℕ → ℕ → List ℕ
row_of r k = get_or (rows_from (get_or r 0 0) (get_or (from_section r 2) 0 0) (drop 1 (from_section r 2))) k []

-- by the numbers where they stand
pub row_found : (r : List ℕ) (k : ℕ) {n s c : ℕ} {section : List ℕ} → n ≡ get_or r 0 0 → s ≡ start_of r 2 → section ≡ drop s r → c ≡ get_or section 0 0
    → take n (drop (k * n) (take (c * n) (drop 1 section))) ≡ row_of r k
unfolding row_of from_section
row_found r k {n} {c = c} {section = section} e d f g =
    sym (row_is n c (drop 1 section) k)
    ∙ ap (λ (m : ℕ). get_or (rows_from n m (drop 1 section)) k []) g
    ∙ ap (λ (y : List ℕ). get_or (rows_from n (get_or y 0 0) (drop 1 y)) k []) (f ∙ ap (λ (m : ℕ). drop m r) d)
    ∙ ap (λ (m : ℕ). get_or (rows_from m (get_or (from_section r 2) 0 0) (drop 1 (from_section r 2))) k []) e
