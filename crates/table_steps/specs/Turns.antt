-- A loop over a table's turns: where it is behind its first turns, and how it goes on, stops and ends.
use Rattle.std.specs.Prelude.{ℕ, ◌+◌, ◌≤◌, List, Result, Ok, Err}
use Rattle.refusals.specs.declared.refusal.Refusal.{Refusal}
use Rattle.vps_definition.specs.Syntax.{Syntax, ◌>>=◌}
use Rattle.vps_definition.specs.Words.{u, nothing, loop}
use Rattle.vps_laws.specs.Loops.{loop_turn, loop_rest}
use Rattle.table_steps.specs.Laws.{StepsLaws, goes_as}
use Rattle.table_steps.specs.Words.{kept_field}

module _ {S : Type 0} {place : S → ℕ} {goes : (A : Type 0) → Syntax A → S → Result A Refusal → S → Type 0}
    {marked : (A : Type 0) → Syntax A → S → Result A Refusal → S → List ℕ → Type 0} (L : StepsLaws place goes marked) {A : Type 0} (f : ℕ → A → Syntax A) (x : A) {s : S} where
  -- before the first turn
  pub turns_begin : goes A (loop f 0 0 x) s (Ok x) s
  unfolding loop
  turns_begin = L.goes_done

  -- one turn more
  pub turns_more : {i : ℕ} {y : A} {s₁ s₂ : S} {r : Result A Refusal} → goes A (loop f i 0 x) s (Ok y) s₁ → goes A (f i y) s₁ r s₂ → goes A (loop f (i + 1) 0 x) s r s₂
  turns_more {i} G H = goes_as L (loop_turn f i x) (L.goes_then _ _ G H)

  -- a turn that is refused is the last
  pub turns_stop : {n i : ℕ} {y : A} {s₁ s₂ : S} {e : Refusal} → i + 1 ≤ n → goes A (loop f i 0 x) s (Ok y) s₁ → goes A (f i y) s₁ (Err e) s₂ → goes A (loop f n 0 x) s (Err e) s₂
  turns_stop {n} {i} l G H =
      let R = loop_rest f n (i + 1) x l in
      goes_as L R.1 (L.goes_stop _ _ (turns_more G H))

-- a field that only the record keeps
module _ {S : Type 0} {place : S → ℕ} {goes : (A : Type 0) → Syntax A → S → Result A Refusal → S → Type 0}
    {marked : (A : Type 0) → Syntax A → S → Result A Refusal → S → List ℕ → Type 0} (L : StepsLaws place goes marked) (w : ℕ) {s s₁ : S} where
  pub goes_kept : {v : ℕ} → goes ℕ (u w) s (Ok v) s₁ → goes (Unit {0}) (kept_field w) s (Ok tt) s₁
  unfolding u nothing ◌>>=◌
  goes_kept G = L.goes_then (u w) (λ v. nothing) G L.goes_done

  pub stops_kept : {e : Refusal} → goes ℕ (u w) s (Err e) s₁ → goes (Unit {0}) (kept_field w) s (Err e) s₁
  unfolding u nothing ◌>>=◌
  stops_kept G = L.goes_stop (u w) (λ v. nothing) G
