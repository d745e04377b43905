-- A table behind another that keeps nothing.
use Rattle.std.specs.Prelude.{ℕ, ◌≡◌, List, []}
use Rattle.std.proofs.Math.Path.{refl, ap, subst}
use Rattle.std.proofs.Common.{◌∙◌, add-zero}
use Rattle.vps_definition.specs.Syntax.{Syntax, ◌>>=◌, numbers, Outcome, run}
use Rattle.vps_definition.specs.Syntax.Outcome.{accepted, refused}
use Rattle.vps_laws.specs.Bind.{after, then_read}
use Rattle.vps_laws.proofs.Bind.{run_bind}
use Rattle.reading.specs.Fits.{Fits, fits_second}

module _ {A B : Type 0} {a : A} {next : ℕ} (m : Syntax A) (f : A → Syntax B) (s : List ℕ) (at : ℕ) (e : run m s at ≡ accepted a [] next) where
  after_nothing : (x : Outcome B) → after [] x ≡ x
  unfolding after
  after_nothing (accepted b t p) = refl
  after_nothing (refused n t) = refl

  -- the second is read from where the first ends
  pub run_silent : run (m >>= f) s at ≡ run (f a) s next
  unfolding then_read
  run_silent = run_bind m f s at ∙ ap (λ (x : Outcome A). then_read x (λ a p. run (f a) s p)) e ∙ after_nothing (run (f a) s next)

  -- and fits there
  pub fits_silent : (n : ℕ) → Fits (m >>= f) s at n → Fits (f a) s next n
  unfolding numbers
  fits_silent n h = subst (Fits (f a) s next) (add-zero n) (fits_second m f s at n e h)
