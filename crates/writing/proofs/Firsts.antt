-- What is asked for with a refusal where there is none: the first numbers of a list, or a value's code.
use Rattle.std.specs.Prelude.{ℕ, ◌-◌, ◌≤◌, ◌<◌, ◌≡◌, List, length, take, Option, Some, None, Result, Err}
use Rattle.std.specs.Option.{ok_or}
use Rattle.std.specs.Slice.{IsGetRangeResult}
use Rattle.std.proofs.Common.{Bor, ap, ◌∙◌, subst, arith}
use Rattle.refusals.specs.declared.refusal.Refusal.{Refusal}

-- so many numbers are there, or there are fewer
pub there : (xs : List ℕ) (n : ℕ) {r : Option (Bor (List ℕ))} {x : Bor (List ℕ)} → IsGetRangeResult xs 0 n r → r ≡ Some x → (n ≤ length xs) × (x.now ≡ take (n - 0) xs)
there xs n L e = let F = subst (IsGetRangeResult xs 0 n) e L in (F.0.1, F.0.2)

pub too_few : (xs : List ℕ) (n : ℕ) {r : Option (Bor (List ℕ))} → IsGetRangeResult xs 0 n r → r ≡ None → length xs < n
too_few xs n L e = let F = subst (IsGetRangeResult xs 0 n) e L in omega (arith, F.0)

-- the refusal is handed on
pub handed_on : {T U : Type 0} {o : Option T} (x : Result U Refusal) {e e' : Refusal} → o ≡ None → ◌≡◌ {A = Result T Refusal} (Err e) (ok_or o e') → (y : Refusal) × (x ≡ Err y) × (y ≡ e) → x ≡ Err e'
handed_on {T} x {e = e} {e' = e'} n v p =
    let s : ◌≡◌ {A = Result T Refusal} (Err e) (Err e') = v ∙ ap (λ o. ok_or o e') n in
    let q : e ≡ e' = cc in
    p.1 ∙ ap Err (p.2 ∙ q)
