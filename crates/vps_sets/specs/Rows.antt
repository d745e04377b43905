-- Rows of output layers that are gone along one by one, counted where they have more than one layer.
use Rattle.std.specs.Prelude.{ℕ, ◌+◌, ◌<◌, ◌≤◌, ◌≡◌, refl, List, [], ◌∷◌, ◌++◌, length, take, Result, Ok, Err}
use Rattle.std.proofs.Common.{arith, ap, ◌∙◌}
use Rattle.refusals.specs.declared.refusal.Refusal.{Refusal}
use Rattle.vps_definition.specs.Syntax.{Syntax}
use Rattle.vps_definition.specs.Words.{u, loop}
use Rattle.vps_definition.specs.OutputLayerSets.{digit, with_reached, mask_of}
use Rattle.vps_definition.specs.Vps.{output_flag, row}
use Rattle.layer_sets.specs.Masks.{bit_of, bit_at}
use Rattle.layer_sets.specs.Closed.{cover_first}
use Rattle.layer_sets.specs.Flags.{Held}
use Rattle.layer_sets.specs.Rows.{several, RowsHeld, rows_none, rows_more}
use Rattle.table_steps.specs.Laws.{StepsLaws, goes_as}
use Rattle.table_steps.specs.Answers.{Gives}
use Rattle.table_steps.specs.Turns.{turns_begin, turns_more, turns_stop}
use Rattle.vps_layers.specs.Flags.{Appended}
use Rattle.vps_sets.specs.declared.Counts.{Counts}

-- a row behind others: there are flags, and the mask in hand is theirs
pub record RowMet (n : ℕ) (rows : List (List ℕ)) (mask : ℕ) (after : List (List ℕ)) : Type 0 where
  pub flags : List ℕ
  pub is : after ≡ rows ++ (flags ∷ [])
  pub held : Held flags mask
  pub short : length flags ≤ n

-- all rows: the numbers in hand are theirs
abbrev pub RowsMet : (n : ℕ) (closed : List ℕ) → Counts → List (List ℕ) → Type 0
RowsMet n closed x rows = RowsHeld n closed rows x.total x.multi

-- behind turn i: there are such rows, and the number in hand is theirs
pub record RowsSoFar {S : Type 0} (goes : (A : Type 0) → Syntax A → S → Result A Refusal → S → Type 0) (i n : ℕ) (s : S) (closed : List ℕ) (multi : ℕ) (s' : S) : Type 0 where
  pub rows : List (List ℕ)
  pub done : goes (List (List ℕ)) (loop (row n) i 0 []) s (Ok rows) s'
  pub held : RowsHeld n closed rows (i + 1) multi

-- what `cover` gives by the masks of n layers
pub covered : (closed : List ℕ) {masks : List ℕ} (n mask : ℕ) {layers : ℕ} → masks ≡ take n closed → layers ≡ mask_of 64 (with_reached (length masks) (bit_at masks) (bit_of mask))
    → layers ≡ mask_of 64 (with_reached n (bit_at closed) (bit_of mask))
covered closed n mask e m = m ∙ ap (λ (x : List ℕ). mask_of 64 (with_reached (length x) (bit_at x) (bit_of mask))) e ∙ cover_first closed n (bit_of mask)

module _ {S : Type 0} {place : S → ℕ} {goes : (A : Type 0) → Syntax A → S → Result A Refusal → S → Type 0}
    {marked : (A : Type 0) → Syntax A → S → Result A Refusal → S → List ℕ → Type 0} (L : StepsLaws place goes marked) where
  -- a bit is a row's flag
  pub output_flag_met : {s s' : S} (r : Result ℕ Refusal) → goes ℕ (u 1) s r s' → (j : ℕ) (flags : List ℕ) → Gives goes (Appended flags) (output_flag j flags) s r s'
  unfolding output_flag
  output_flag_met (Ok v) G j flags = (_, refl, L.goes_then _ _ G L.goes_done)
  output_flag_met (Err e) G j flags = L.goes_stop _ _ G

module _ {S : Type 0} {place : S → ℕ} {goes : (A : Type 0) → Syntax A → S → Result A Refusal → S → Type 0}
    {marked : (A : Type 0) → Syntax A → S → Result A Refusal → S → List ℕ → Type 0} (L : StepsLaws place goes marked) (n : ℕ) where
  pub rows_begin : {closed : List ℕ} {s : S} → RowsSoFar goes 0 n s closed 0 s
  rows_begin = record { rows = []; done = turns_begin L (row n) []; held = rows_none }

  pub rows_turn : {i multi multi' mask : ℕ} {closed : List ℕ} {s s₁ s₂ : S} → (R : RowsSoFar goes i n s closed multi s₁)
      → Gives goes (RowMet n R.rows) (row n i R.rows) s₁ (Ok mask) s₂ → multi' ≡ multi + digit (several closed n mask)
      → RowsSoFar goes (i + 1) n s closed multi' s₂
  rows_turn R N e =
      let M = N.1 in
      record { rows = R.rows ++ (M.flags ∷ []); done = turns_more L (row n) [] R.done (rw M.is at N.2); held = rows_more R.held M.held M.short e }

  -- the loop stops at its last turn, or at a row that is refused
  pub rows_end : {i turns multi : ℕ} {closed : List ℕ} {s s' : S} {x : Counts} → i ≡ turns → x.total ≡ turns + 1 → x.multi ≡ multi
      → RowsSoFar goes i n s closed multi s' → Gives goes (RowsMet n closed) (loop (row n) turns 0 []) s (Ok x) s'
  rows_end {i} e t m R = (R.rows, record { count = omega (arith, R.held.count, e, t); short = R.held.short; many = rw m R.held.many }, goes_as L (ap (λ (k : ℕ). loop (row n) k 0 []) e) R.done)

  pub rows_break : {i turns multi : ℕ} {closed : List ℕ} {s s₁ s₂ : S} {e : Refusal} → i < turns → (R : RowsSoFar goes i n s closed multi s₁)
      → goes (List (List ℕ)) (row n i R.rows) s₁ (Err e) s₂ → goes (List (List ℕ)) (loop (row n) turns 0 []) s (Err e) s₂
  rows_break l R N = turns_stop L (row n) [] (omega arith) R.done N
