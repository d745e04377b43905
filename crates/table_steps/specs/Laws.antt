-- What every way along tables obeys: one law for the end of a table, for two in a row, for a condition, for a section's start.
use Rattle.std.specs.Prelude.{ℕ, ◌≡◌, List, [], ◌∷◌, ◌++◌, Bool, true, false, Result, Ok, Err}
use Rattle.std.proofs.Common.{sym, subst}
use Rattle.refusals.specs.declared.refusal.Refusal.{Refusal}
use Rattle.vps_definition.specs.Syntax.{Syntax, ◌>>=◌}
use Rattle.vps_definition.specs.Syntax.Syntax.{mark, test, done}
use Rattle.vps_definition.specs.Words.{check, ruled}
use Rattle.vps_laws.specs.Loops.{bind_unit}
use Rattle.vps_laws.specs.Plain.{Plain}

pub record StepsLaws {S : Type 0} (place : S → ℕ) (goes : (A : Type 0) → Syntax A → S → Result A Refusal → S → Type 0)
    (marked : (A : Type 0) → Syntax A → S → Result A Refusal → S → List ℕ → Type 0) : Type 1 where
  pub goes_done : {A : Type 0} {a : A} {s : S} → goes A (done a) s (Ok a) s
  pub goes_then : {A B : Type 0} {s s₁ s₂ : S} {a : A} {r : Result B Refusal} (m : Syntax A) (f : A → Syntax B) → goes A m s (Ok a) s₁ → goes B (f a) s₁ r s₂ → goes B (m >>= f) s r s₂
  pub goes_stop : {A B : Type 0} {s s₁ : S} {e : Refusal} (m : Syntax A) (f : A → Syntax B) → goes A m s (Err e) s₁ → goes B (m >>= f) s (Err e) s₁
  pub goes_first : {A : Type 0} {m n : Syntax A} {s s₁ : S} {r : Result A Refusal} → goes A m s r s₁ → goes A (test true m n) s r s₁
  pub goes_second : {A : Type 0} {m n : Syntax A} {s s₁ : S} {r : Result A Refusal} → goes A n s r s₁ → goes A (test false m n) s r s₁
  pub marked_plain : {A : Type 0} {m : Syntax A} {s s₁ : S} {r : Result A Refusal} → Plain m → goes A m s r s₁ → marked A m s r s₁ []
  pub marked_mark : {A : Type 0} {m : Syntax A} {s s₁ : S} {r : Result A Refusal} {l : List ℕ} → marked A m s r s₁ l → marked A (mark m) s r s₁ (place s ∷ l)
  pub marked_then : {A B : Type 0} {s s₁ s₂ : S} {a : A} {r : Result B Refusal} {l k : List ℕ} (m : Syntax A) (f : A → Syntax B) → marked A m s (Ok a) s₁ l → marked B (f a) s₁ r s₂ k
      → marked B (m >>= f) s r s₂ (l ++ k)
  pub marked_stop : {A B : Type 0} {s s₁ : S} {e : Refusal} {l k : List ℕ} (m : Syntax A) (f : A → Syntax B) → marked A m s (Err e) s₁ l → marked B (m >>= f) s (Err e) s₁ k
  pub marked_first : {A : Type 0} {m n : Syntax A} {s s₁ : S} {r : Result A Refusal} {l : List ℕ} → marked A m s r s₁ l → marked A (test true m n) s r s₁ l
  pub marked_second : {A : Type 0} {m n : Syntax A} {s s₁ : S} {r : Result A Refusal} {l : List ℕ} → marked A n s r s₁ l → marked A (test false m n) s r s₁ l

module _ {S : Type 0} {place : S → ℕ} {goes : (A : Type 0) → Syntax A → S → Result A Refusal → S → Type 0}
    {marked : (A : Type 0) → Syntax A → S → Result A Refusal → S → List ℕ → Type 0} (L : StepsLaws place goes marked) where
  -- a table that is the same
  pub goes_as : {A : Type 0} {m m' : Syntax A} {s s₁ : S} {r : Result A Refusal} → m ≡ m' → goes A m s r s₁ → goes A m' s r s₁
  goes_as {A} {s = s} {s₁ = s₁} {r = r} e G = subst (λ (x : Syntax A). goes A x s r s₁) e G

  -- a condition that is known
  pub goes_yes : {A : Type 0} {b : Bool} {m n : Syntax A} {s s₁ : S} {r : Result A Refusal} → b ≡ true → goes A m s r s₁ → goes A (test b m n) s r s₁
  goes_yes {A} {m = m} {n = n} {s = s} {s₁ = s₁} {r = r} e G = subst (λ (c : Bool). goes A (test c m n) s r s₁) (sym e) (L.goes_first G)

  pub goes_no : {A : Type 0} {b : Bool} {m n : Syntax A} {s s₁ : S} {r : Result A Refusal} → b ≡ false → goes A n s r s₁ → goes A (test b m n) s r s₁
  goes_no {A} {m = m} {n = n} {s = s} {s₁ = s₁} {r = r} e G = subst (λ (c : Bool). goes A (test c m n) s r s₁) (sym e) (L.goes_second G)

  -- a table that goes on behind a rule's check
  pub goes_ruled : {A B : Type 0} {s s₁ s₂ : S} {a : Unit {0}} {r : Result B Refusal} (b : Bool) (n : ℕ) (m : Syntax A) (f : A → Syntax B) → goes (Unit {0}) (check b n) s (Ok a) s₁ → goes B (m >>= f) s₁ r s₂
      → goes B (ruled true b n m >>= f) s r s₂
  unfolding ruled check ◌>>=◌
  goes_ruled b n m f G H = L.goes_then (check b n) (λ c. m >>= f) G H

  pub stops_ruled : {A B : Type 0} {s s₁ : S} {e : Refusal} (b : Bool) (n : ℕ) (m : Syntax A) (f : A → Syntax B) → goes (Unit {0}) (check b n) s (Err e) s₁ → goes B (ruled true b n m >>= f) s (Err e) s₁
  unfolding ruled check ◌>>=◌
  stops_ruled b n m f G = L.goes_stop (check b n) (λ c. m >>= f) G

  -- behind a refusal no section starts that could be told wrong
  pub marked_any : {A : Type 0} (m : Syntax A) {s s₁ : S} {e : Refusal} {l k : List ℕ} → marked A m s (Err e) s₁ l → marked A m s (Err e) s₁ k
  marked_any {A} m {s} {s₁} {e} {k = k} M = subst (λ (x : Syntax A). marked A x s (Err e) s₁ k) (bind_unit m) (L.marked_stop m done M)
