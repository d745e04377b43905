-- Layers that are gone along one by one, each held as the closed mask of those that it reaches.
use Rattle.std.specs.Prelude.{ℕ, ◌+◌, ◌<◌, ◌≤◌, ◌≡◌, List, [], ◌∷◌, ◌++◌, length, set, Result, Ok, Err}
use Rattle.std.proofs.Common.{arith, ap, subst}
use Rattle.refusals.specs.declared.refusal.Refusal.{Refusal}
use Rattle.vps_definition.specs.Syntax.{Syntax}
use Rattle.vps_definition.specs.Words.{loop}
use Rattle.vps_definition.specs.OutputLayerSets.{with_reached, refers_by, mask_of}
use Rattle.vps_definition.specs.Vps as Vps
use Rattle.vps_definition.specs.Vps.{Layers, layer, layers_section}
use Rattle.layer_sets.specs.Masks.{bit_of, bit_at}
use Rattle.layer_sets.specs.Closed.{Closed}
use Rattle.layer_sets.specs.Counted.{Known}
use Rattle.layer_sets.specs.Flags.{Held}
use Rattle.layer_sets.specs.References.{layers_of, Referred, referred_none, referred_more}
use Rattle.table_steps.specs.Laws.{StepsLaws, goes_as}
use Rattle.table_steps.specs.Answers.{Gives}
use Rattle.table_steps.specs.Turns.{turns_begin, turns_more, turns_stop}
use Rattle.vps_layers.specs.declared.Layer.{Layer}

-- layer i behind those of refs: there are flags of the layers below it, and the mask in hand is theirs
pub record LayerMet (i : ℕ) (refs : List (List ℕ)) (x : Layer) (layers : Layers) : Type 0 where
  pub flags : List ℕ
  pub is : layers ≡ layers_of x.least (refs ++ (flags ∷ []))
  pub held : Held flags x.direct
  pub short : length flags ≤ i

-- n layers: the masks in hand are theirs
abbrev pub LayersMet : ℕ → List ℕ → Layers → Type 0
LayersMet n closed layers = Known layers.refs closed n

-- behind turn i
pub record LayersSoFar {S : Type 0} (goes : (A : Type 0) → Syntax A → S → Result A Refusal → S → Type 0) (h : Vps.Header) (i : ℕ) (s : S) (least : ℕ) (closed : List ℕ) (s' : S) : Type 0 where
  pub refs : List (List ℕ)
  pub done : goes Layers (loop (layer h) i 0 (layers_of 0 [])) s (Ok (layers_of least refs)) s'
  pub referred : Referred refs closed i

-- ── One layer more ────────────────────────────────────────────────────
module _ {S : Type 0} {place : S → ℕ} {goes : (A : Type 0) → Syntax A → S → Result A Refusal → S → Type 0}
    {marked : (A : Type 0) → Syntax A → S → Result A Refusal → S → List ℕ → Type 0} (L : StepsLaws place goes marked) (h : Vps.Header) where
  pub layers_begin : {closed : List ℕ} {s : S} → LayersSoFar goes h 0 s 0 closed s
  layers_begin = record { refs = []; done = turns_begin L (layer h) (layers_of 0 []); referred = referred_none }

  pub layers_turn : {i least : ℕ} {closed closed' : List ℕ} {x : Layer} {s s₁ s₂ : S} → i < 64 → i < length closed
      → closed' ≡ set closed i (mask_of 64 (with_reached i (bit_at closed) (bit_of x.direct)))
      → (T : LayersSoFar goes h i s least closed s₁) → Gives goes (LayerMet i T.refs) (layer h i (layers_of least T.refs)) s₁ (Ok x) s₂
      → LayersSoFar goes h (i + 1) s x.least closed' s₂
  layers_turn {i} u v e T N =
      let M = N.1 in
      record {
        refs = T.refs ++ (M.flags ∷ []);
        done = turns_more L (layer h) _ T.done (rw M.is at N.2);
        referred = referred_more u v e M.held M.short T.referred;
      }

  -- a layer that is refused is the last
  pub layers_break : {i least : ℕ} {closed : List ℕ} {s s₁ s₂ : S} {e : Refusal} → i < h.layers → (T : LayersSoFar goes h i s least closed s₁)
      → goes Layers (layer h i (layers_of least T.refs)) s₁ (Err e) s₂ → goes Layers (layers_section h) s (Err e) s₂
  unfolding layers_section
  layers_break l T N = turns_stop L (layer h) _ (omega arith) T.done N

  pub layers_end : {i least : ℕ} {closed : List ℕ} {s s' : S} → i ≡ h.layers → 1 ≤ i → i ≤ 64
      → LayersSoFar goes h i s least closed s' → Gives goes (LayersMet h.layers) (layers_section h) s (Ok closed) s'
  unfolding layers_section
  layers_end {least = least} {closed = closed} e u v T =
      let R = T.referred in (
        layers_of least T.refs,
        record { some = omega arith; few = omega arith; below = R.below; masks = subst (Closed (refers_by T.refs) closed) e R.masks },
        goes_as L (ap (λ (k : ℕ). loop (layer h) k 0 (layers_of 0 [])) e) T.done,
      )
