-- The order of checks is the table's: the first condition that fails gives the refusal, whatever stands behind it.
use Rattle.std.specs.Prelude.{ℕ, ◌+◌, ◌≡◌, List, ◌++◌}
use Rattle.std.proofs.Common.{ap, ◌∙◌}
use Rattle.vps_definition.specs.Syntax.{Syntax, ◌>>=◌, Token, Outcome, run}
use Rattle.vps_definition.specs.Syntax.Outcome.{accepted, refused}
use Rattle.vps_laws.specs.Bind.{after, then_read}
use Rattle.vps_laws.proofs.Bind.{run_bind}

-- ── Tables in a row ───────────────────────────────────────────────────
-- a refusal of the first stands, whatever follows
pub first_refusal : {A B : Type 0} {n : ℕ} {t : List Token} (m : Syntax A) (f : A → Syntax B) (s : List ℕ) (at : ℕ) → run m s at ≡ refused n t → run (m >>= f) s at ≡ refused n t
unfolding then_read
first_refusal m f s at e = run_bind m f s at ∙ ap (λ (R : Outcome _). then_read R (λ a next. run (f a) s next)) e

-- a refusal of the second stands where the first is accepted
pub later_refusal : {A B : Type 0} {a : A} {n middle : ℕ} {t u : List Token} (m : Syntax A) (f : A → Syntax B) (s : List ℕ) (at : ℕ) → run m s at ≡ accepted a t middle
    → run (f a) s middle ≡ refused n u → run (m >>= f) s at ≡ refused n (t ++ u)
unfolding then_read after
later_refusal {t = t} m f s at e g = run_bind m f s at ∙ ap (λ (R : Outcome _). then_read R (λ a next. run (f a) s next)) e ∙ ap (after t) g
