-- The heads of the PTL slots: coded before all slots, and kept at the front of each.
use Rattle.std.specs.Prelude.{ℕ, ◌+◌, ◌<◌, ◌≤◌, ◌≡◌, List, [], ◌∷◌, ◌++◌, length, get_or}
use Rattle.std.proofs.lemmas.List.{get_or_at}
use Rattle.refusals.specs.Number.{ptl_alignment}
use Rattle.vps_definition.specs.Syntax.{Syntax, ◌>>=◌}
use Rattle.vps_definition.specs.Syntax.Syntax.{done}
use Rattle.vps_definition.specs.Words.{aligned, loop}
use Rattle.vps_definition.specs.Vps.{Head, head, slot_at, ptl_slot}
use Rattle.vps_laws.specs.Keeps.{Keeps}

-- slot i begins with a head
pub record Heading (r x : List ℕ) (i : ℕ) (h : Head) : Type 0 where
  pub present : get_or (slot_at i r x) 0 0 ≡ h.present_flag
  pub top : get_or (slot_at i r x) 1 0 ≡ h.max_tid

abbrev pub head_at : List Head → ℕ → Head
head_at heads i = get_or heads i (head 0 0)

-- each slot begins with its head
abbrev pub Placed : List ℕ → List ℕ → List Head → Type 0
Placed r x heads = (i : ℕ) → i < length heads → Heading r x i (head_at heads i)

pub head_last : (hs : List Head) (i : ℕ) (h : Head) → length hs ≡ i → head_at (hs ++ (h ∷ [])) i ≡ h
head_last hs i h e = get_or_at hs h [] (head 0 0) i e

-- one head, the i-th, behind those before it
unfoldable pub Behind : (i : ℕ) → List ℕ → List ℕ → List Head → Type 0
Behind i r x hs = Heading r x i (head_at hs i)

-- the heads from the i-th on stand in their slots
unfoldable pub From : ℕ → List ℕ → List ℕ → List Head → Type 0
From i r x b = (j : ℕ) → i ≤ j → j < length b → Heading r x j (head_at b j)

-- ── The slots ─────────────────────────────────────────────────────────
pub anything : {A : Type 0} {m : Syntax A} → Keeps (λ a t. Unit {0}) m
anything = record { holds = λ s at e. tt }

-- ── The section ───────────────────────────────────────────────────────
-- the slots behind the heads, and then the count
unfoldable pub slots : (heads : List Head) (count : ℕ) → Syntax ℕ
slots heads count = aligned ptl_alignment >>= λ z. loop (ptl_slot heads) count 0 tt >>= λ s. done count
