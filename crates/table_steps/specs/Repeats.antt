-- A table that is gone along so many times: where it is behind the first times, and how it goes on, stops and ends.
use Rattle.std.specs.Prelude.{ℕ, ◌+◌, ◌<◌, List, Result, Ok, Err}
use Rattle.std.proofs.Common.{arith}
use Rattle.refusals.specs.declared.refusal.Refusal.{Refusal}
use Rattle.vps_definition.specs.Syntax.{Syntax}
use Rattle.vps_definition.specs.Words.{repeat}
use Rattle.table_steps.specs.Laws.{StepsLaws}
use Rattle.table_steps.specs.Turns.{turns_begin, turns_more, turns_stop}

module _ {S : Type 0} {place : S → ℕ} {goes : (A : Type 0) → Syntax A → S → Result A Refusal → S → Type 0}
    {marked : (A : Type 0) → Syntax A → S → Result A Refusal → S → List ℕ → Type 0} (L : StepsLaws place goes marked) (m : Syntax (Unit {0})) {s : S} where
  -- before the first time
  pub repeats_begin : goes (Unit {0}) (repeat 0 m) s (Ok tt) s
  unfolding repeat
  repeats_begin = turns_begin L _ _

  -- once more
  pub repeats_more : (i : ℕ) {s₁ s₂ : S} {r : Result (Unit {0}) Refusal} → goes (Unit {0}) (repeat i m) s (Ok tt) s₁ → goes (Unit {0}) m s₁ r s₂ → goes (Unit {0}) (repeat (i + 1) m) s r s₂
  unfolding repeat
  repeats_more i G H = turns_more L _ _ G H

  -- a time that is refused is the last
  pub repeats_stop : {n i : ℕ} {s₁ : S} → i < n → goes (Unit {0}) (repeat i m) s (Ok tt) s₁ → (e : Refusal) (s₂ : S) → goes (Unit {0}) m s₁ (Err e) s₂ → goes (Unit {0}) (repeat n m) s (Err e) s₂
  unfolding repeat
  repeats_stop l G e s₂ H = turns_stop L _ _ (omega arith) G H
