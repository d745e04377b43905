-- The order of checks is the table's: the first condition that fails gives the refusal, whatever stands behind it.
use Rattle.std.specs.Prelude.{ℕ, zero, suc, ◌+◌, ◌<◌, ◌≡◌, List, [], ◌++◌}
use Rattle.std.proofs.Common.{sym, ap, ◌∙◌, append_assoc, add-zero, arith}
use Rattle.vps_definition.specs.Syntax.{Syntax, Token, run}
use Rattle.vps_definition.specs.Syntax.Outcome.{accepted, refused}
use Rattle.vps_definition.specs.Words.{loop}
use Rattle.vps_laws.proofs.Bind.{run_bound}
use Rattle.vps_laws.proofs.Order.{first_refusal, later_refusal}

-- where the first j turns of a loop are accepted, a refusal of the next is the loop's
pub turn_refusal : {A : Type 0} {y : A} {n middle : ℕ} {t u : List Token} (f : ℕ → A → Syntax A) (j turns i : ℕ) (x : A) (s : List ℕ) (at : ℕ) → j < turns → run (loop f j i x) s at ≡ accepted y t middle
    → run (f (i + j) y) s middle ≡ refused n u → run (loop f turns i x) s at ≡ refused n (t ++ u)
unfolding loop run
turn_refusal f j zero i x s at l e g = absurd (omega arith)
turn_refusal {y = y} {n = n} {middle = middle} {t = t} {u = u} f zero (suc turns) i x s at l e g =
    let a : x ≡ y = cc in
    let b : [] ≡ t = cc in
    let c : at ≡ middle = cc in
    first_refusal (f i x) (loop f turns (i + 1)) s at
    (ap (λ (k : ℕ). run (f k x) s at) (sym (add-zero i)) ∙ ap (λ (z : _). run (f (i + 0) z) s at) a ∙ ap (run (f (i + 0) y) s) c ∙ g) ∙ ap (λ (l : List Token). refused n (l ++ u)) b
turn_refusal {y = y} {n = n} {middle = middle} {t = t} {u = u} f (suc j) (suc turns) i x s at l e g =
    let B = run_bound (f i x) (loop f j (i + 1)) s at e in
    let k : i + 1 + j ≡ i + suc j = omega arith in
    later_refusal (f i x) (loop f turns (i + 1)) s at B.first
    (turn_refusal {t = B.behind} f j turns (i + 1) B.result s B.middle (omega arith) B.second (ap (λ (k : ℕ). run (f k y) s middle) k ∙ g))
    ∙ ap (refused n) (sym (append_assoc B.before B.behind u) ∙ ap (λ (l : List Token). l ++ u) (sym B.both))
