-- Where a table's numbers stand in a list: a table that was read, its parts, and the turns of its loops.
use Rattle.std.specs.Prelude.{ℕ, zero, suc, ◌+◌, ◌<◌, ◌≡◌, refl, List, ◌++◌}
use Rattle.std.proofs.Common.{sym, ap, ◌∙◌, add-zero, arith}
use Rattle.vps_definition.specs.Syntax.{Syntax, ◌>>=◌, Token, numbers, look}
use Rattle.vps_definition.specs.Words.{loop, repeat}
use Rattle.vps_definition.specs.Views.{again}
use Rattle.vps_laws.proofs.Bind.{run_bound}
use Rattle.vps_laws.specs.Keeps.{keeps_so, keeps_done}
use Rattle.vps_laws.proofs.Keeps.{keeps_bind}
use Rattle.vps_laws.specs.Coherence.{Local}
use Rattle.vps_laws.proofs.Coherence.{coh_look}
use Rattle.vps_laws.specs.Places.{ReadAt, Passes, apart}

-- looking finds its result
pub read_look : {A : Type 0} {m : Syntax A} {a : A} {y z : List ℕ} → Local m → ReadAt m a y z → (d : A) (r : List ℕ) → look d m r y ≡ a
read_look {m} {z} M R d r = ap (look d m r) R.is ∙ coh_look M R.source R.at R.read d r z tt

-- two tables in a row: the first stands from here up to where the step goes, and the second from there on
pub read_both : {A B : Type 0} {step : List ℕ → List ℕ} {m : Syntax A} {f : A → Syntax B} {b : B} {y z : List ℕ}
    → Passes step m → ReadAt (m >>= f) b y z → (a : A) × ReadAt m a y (step y) × ReadAt (f a) b (step y) z
read_both {step = step} {m = m} {f = f} {y = y} {z = z} P R =
    let B = run_bound m f R.source R.at R.read in
    let w : List ℕ = numbers B.behind ++ z in
    let q : y ≡ numbers B.before ++ w = R.is ∙ ap (λ (t : List Token). numbers t ++ z) B.both ∙ apart B.before B.behind z in
    let p : step y ≡ w = ap step q ∙ P.pass.holds R.source R.at B.first w in (
      B.result,
      record { source = R.source; at = R.at; tokens = B.before; next = B.middle; read = B.first; is = q ∙ ap (λ (x : List ℕ). numbers B.before ++ x) (sym p) },
      record { source = R.source; at = B.middle; tokens = B.behind; next = R.next; read = B.second; is = p },
    )

-- ── Turns ─────────────────────────────────────────────────────────────
pub passes_loop : {A : Type 0} {f : ℕ → A → Syntax A} (step : List ℕ → List ℕ) (n i : ℕ) (x : A) → ((i : ℕ) (x : A) → Passes step (f i x)) → Passes (again step n) (loop f n i x)
unfolding loop again numbers
passes_loop step zero i x F = record { pass = keeps_done (λ z. refl) }
passes_loop step (suc n) i x F = record {
  pass = keeps_bind (F i x).pass (λ a t e. keeps_so (passes_loop step n (i + 1) a F).pass
      (λ b u g z. ap (λ (y : List ℕ). again step n (step y)) (apart t u z) ∙ ap (again step n) (e (numbers u ++ z)) ∙ g z));
}

-- turn e stands e steps on, and goes up to the next
pub read_turn : {A : Type 0} {f : ℕ → A → Syntax A} (step : List ℕ → List ℕ) (n i : ℕ) (x : A) {a : A} (y : List ℕ) {w : List ℕ} → ((i : ℕ) (x : A) → Passes step (f i x))
    → ReadAt (loop f n i x) a y w → (e : ℕ) → e < n → (j : ℕ) × (z b : A) × (j ≡ i + e) × ReadAt (f j z) b (again step e y) (again step (suc e) y)
unfolding loop again
read_turn step zero i x y F R e l = absurd (omega arith)
read_turn step (suc n) i x y F R zero l = let B = read_both (F i x) R in (i, x, B.0, sym (add-zero i), B.1)
read_turn step (suc n) i x y F R (suc e) l =
    let B = read_both (F i x) R in
    let T = read_turn step n (i + 1) B.0 (step y) F B.2 e (omega arith) in
    (T.0, T.1, T.2, T.3 ∙ omega arith, T.4)

-- of a table repeated
pub read_again : {m : Syntax (Unit {0})} (step : List ℕ → List ℕ) (n : ℕ) {a : Unit {0}} (y : List ℕ) {w : List ℕ} → Passes step m → ReadAt (repeat n m) a y w
    → (e : ℕ) → e < n → ReadAt m tt (again step e y) (again step (suc e) y)
unfolding repeat
read_again step n y M R e l = (read_turn step n 0 tt y (λ i x. M) R e l).4
