-- Flags of layers that are gone along one by one, held as the mask of those that are 1.
use Rattle.std.specs.Prelude.{ℕ, ◌+◌, ◌<◌, ◌≤◌, ◌≡◌, refl, List, [], ◌∷◌, ◌++◌, length, Result, Ok, Err, IfOk}
use Rattle.std.proofs.Common.{arith, ap, ◌∙◌, length-append}
use Rattle.refusals.specs.declared.refusal.Refusal.{Refusal}
use Rattle.vps_definition.specs.Syntax.{Syntax}
use Rattle.vps_definition.specs.Words.{loop}
use Rattle.layer_sets.specs.Flags.{Held, with_flag, held_none, held_turn}
use Rattle.table_steps.specs.Laws.{StepsLaws, goes_as}
use Rattle.table_steps.specs.Answers.{Gives}
use Rattle.table_steps.specs.Turns.{turns_begin, turns_more, turns_stop}

-- the table's flags are those before, and this one
abbrev pub Appended : List ℕ → ℕ → List ℕ → Type 0
Appended flags v after = after ≡ flags ++ (v ∷ [])

-- the table's flags are at most n, and the mask in hand is theirs
pub record FlagsMet (n mask : ℕ) (flags : List ℕ) : Type 0 where
  pub held : Held flags mask
  pub short : length flags ≤ n

-- an answer is a flag, and the table's loop appends it, whatever turn it is
pub record FlagGiven {S : Type 0} (goes : (A : Type 0) → Syntax A → S → Result A Refusal → S → Type 0) (f : ℕ → List ℕ → Syntax (List ℕ)) (s : S) (r : Result ℕ Refusal) (s' : S) : Type 0 where
  pub gives : (j : ℕ) (flags : List ℕ) → Gives goes (Appended flags) (f j flags) s r s'
  pub within : IfOk r (λ v. v < 2)

-- so it is wherever a step leads
abbrev pub IsFlag : {S : Type 0} (goes : (A : Type 0) → Syntax A → S → Result A Refusal → S → Type 0) (f : ℕ → List ℕ → Syntax (List ℕ)) (leads : S → Result ℕ Refusal → S → Type 0) → Type 0
IsFlag {S} goes f leads = (x y : S) (r : Result ℕ Refusal) → leads x r y → FlagGiven goes f x r y

-- behind turn j of a loop that appends a flag in each
pub record FlagsSoFar {S : Type 0} (goes : (A : Type 0) → Syntax A → S → Result A Refusal → S → Type 0) (f : ℕ → List ℕ → Syntax (List ℕ)) (j : ℕ) (s : S) (mask : ℕ) (s' : S) : Type 0 where
  pub flags : List ℕ
  pub done : goes (List ℕ) (loop f j 0 []) s (Ok flags) s'
  pub held : Held flags mask
  pub count : length flags ≡ j

-- ── Loops of flags ────────────────────────────────────────────────────
module _ {S : Type 0} {place : S → ℕ} {goes : (A : Type 0) → Syntax A → S → Result A Refusal → S → Type 0}
    {marked : (A : Type 0) → Syntax A → S → Result A Refusal → S → List ℕ → Type 0} (L : StepsLaws place goes marked) (f : ℕ → List ℕ → Syntax (List ℕ)) where
  pub flags_begin : {s : S} → FlagsSoFar goes f 0 s 0 s
  flags_begin = record { flags = []; done = turns_begin L f []; held = held_none; count = refl }

  pub flags_turn : {j v mask mask' : ℕ} {s s₁ s₂ : S} → j < 64 → v < 2 → mask' ≡ with_flag mask v j
      → FlagsSoFar goes f j s mask s₁ → ((flags : List ℕ) → Gives goes (Appended flags) (f j flags) s₁ (Ok v) s₂)
      → FlagsSoFar goes f (j + 1) s mask' s₂
  flags_turn {j} {v} l h e F M =
      let G = M F.flags in
      record {
        flags = F.flags ++ (v ∷ []);
        done = turns_more L f [] F.done (rw G.1 at G.2);
        held = held_turn l (omega (arith, h)) e F.count F.held;
        count = length-append F.flags (v ∷ []) ∙ omega (arith, F.count);
      }

  pub flags_end : {j n mask : ℕ} {s s' : S} → j ≡ n → FlagsSoFar goes f j s mask s' → Gives goes (FlagsMet n) (loop f n 0 []) s (Ok mask) s'
  flags_end e F = (F.flags, record { held = F.held; short = omega (arith, F.count) }, goes_as L (ap (λ (k : ℕ). loop f k 0 []) e) F.done)

  pub flags_break : {j n mask : ℕ} {s s₁ s₂ : S} {e : Refusal} → j < n → FlagsSoFar goes f j s mask s₁
      → ((flags : List ℕ) → Gives goes (Appended flags) (f j flags) s₁ (Err e) s₂) → goes (List ℕ) (loop f n 0 []) s (Err e) s₂
  flags_break l F M = turns_stop L f [] (omega arith) F.done (M F.flags)
