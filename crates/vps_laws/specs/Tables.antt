-- Coherence of the VPS's own tables: each number that is coded before its place in the record stands where it is looked for.
use Rattle.std.specs.Prelude.{ℕ, ◌+◌, ◌-◌, ◌≡◌, refl, length, get_or}
use Rattle.std.proofs.Common.{sym, ◌∙◌, length-append}
use Rattle.std.proofs.Math.Path.{ap}
use mathlib.Core.List.{List, [], ◌∷◌, ◌++◌, append_assoc}
use Rattle.std.proofs.lemmas.List.{get_or_at}
use Rattle.vps_laws.specs.Coherence.{Begins}

-- ── Numbers coded last first ──────────────────────────────────────────
-- the record's rest begins with the list
abbrev pub Front : List ℕ → List ℕ → List ℕ → Type 0
Front r x l = Begins l x

pub begins_last : (l x : List ℕ) (v : ℕ) → Begins (l ++ (v ∷ [])) x → (Begins l x) × (get_or x (length l) 0 ≡ v)
begins_last l x v b =
    let e : x ≡ l ++ (v ∷ b.rest) = b.is ∙ append_assoc l (v ∷ []) b.rest in
    (record { rest = v ∷ b.rest; is = e }, ap (λ (y : List ℕ). get_or y (length l) 0) e ∙ get_or_at l v b.rest 0 (length l) refl)

-- ── Constraint content ────────────────────────────────────────────────
-- the record's rest has i numbers, and then the list
pub record After (i : ℕ) (r x l : List ℕ) : Type 0 where
  pub first : List ℕ
  pub many : length first ≡ i
  pub rest : List ℕ
  pub is : x ≡ first ++ (l ++ rest)

pub after_first : (i v : ℕ) (r x l : List ℕ) → After i r x (v ∷ l) → (After (i + 1) r x l) × (get_or x i 0 ≡ v)
after_first i v r x l a =
    let e : x ≡ (a.first ++ (v ∷ [])) ++ (l ++ a.rest) = a.is ∙ sym (append_assoc a.first (v ∷ []) (l ++ a.rest)) in (
      record { first = a.first ++ (v ∷ []); many = length-append a.first (v ∷ []) ∙ ap (λ (k : ℕ). k + 1) a.many; rest = a.rest; is = e },
      ap (λ (y : List ℕ). get_or y i 0) a.is ∙ get_or_at a.first v (l ++ a.rest) 0 i a.many,
    )
