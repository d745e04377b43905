-- A record that is stored part by part from the first number on is the whole record.
use Rattle.std.specs.Prelude.{ℕ, ◌+◌, ◌≡◌, List, [], ◌∷◌, ◌++◌, length, set}
use Rattle.std.proofs.Common.{sym, ap, ◌∙◌, append_assoc, arith, length-append}
use Rattle.std.proofs.lemmas.List.Edits.{sets}
use Rattle.lists.specs.Stored.{stored_behind}
use Rattle.vps_definition.specs.Syntax.{Token, numbers, starts}
use Rattle.vps_definition.specs.Record.{body_of, record_of}

-- General, the table's numbers, the extension with its count, the starts, and the total length
module _ (lent g : List ℕ) (t : List Token) (e : List ℕ) (nine : length g ≡ 9) where
  -- where the extension's count, its bits, the starts and the total length stand
  abbrev pub count_at : ℕ
  count_at = 9 + length (numbers t)

  abbrev pub bits_from : ℕ
  bits_from = count_at + 1

  abbrev pub starts_from : ℕ
  starts_from = bits_from + length e

  abbrev pub total_at : ℕ
  total_at = starts_from + length (starts 9 t)

  pub stored_record : set (sets (sets (set (sets (sets lent 0 g) 9 (numbers t)) count_at (length e)) bits_from e) starts_from (starts 9 t)) total_at (starts_from + 8) ≡ sets lent 0 (record_of g t e)
  unfolding record_of body_of
  stored_record =
      let x₁ : List ℕ = g ++ numbers t in
      let x₂ : List ℕ = x₁ ++ (length e ∷ []) in
      let x₃ : List ℕ = x₂ ++ e in
      let x₄ : List ℕ = x₃ ++ starts 9 t in
      let l₁ : count_at ≡ length x₁ = omega (arith, nine, length-append g (numbers t)) in
      let l₂ : bits_from ≡ length x₂ = omega (arith, l₁, length-append x₁ (length e ∷ [])) in
      let l₃ : starts_from ≡ length x₃ = omega (arith, l₂, length-append x₂ e) in
      let l₄ : total_at ≡ length x₄ = omega (arith, l₃, length-append x₃ (starts 9 t)) in
      let q : x₃ ≡ x₁ ++ (length e ∷ e) = append_assoc x₁ (length e ∷ []) e in
      let v : starts_from + 8 ≡ length (x₁ ++ (length e ∷ e)) + 8 = omega (arith, l₃, ap length q) in
      ap (λ (r : List ℕ). set (sets (sets (set r count_at (length e)) bits_from e) starts_from (starts 9 t)) total_at (starts_from + 8)) (stored_behind lent g (numbers t) (sym nine))
      ∙ ap (λ (r : List ℕ). set (sets (sets r bits_from e) starts_from (starts 9 t)) total_at (starts_from + 8)) (stored_behind lent x₁ (length e ∷ []) l₁)
      ∙ ap (λ (r : List ℕ). set (sets r starts_from (starts 9 t)) total_at (starts_from + 8)) (stored_behind lent x₂ e l₂)
      ∙ ap (λ (r : List ℕ). set r total_at (starts_from + 8)) (stored_behind lent x₃ (starts 9 t) l₃)
      ∙ stored_behind lent x₄ ((starts_from + 8) ∷ []) l₄
      ∙ ap (sets lent 0) (λ i. (q i ++ starts 9 t) ++ (v i ∷ []))
