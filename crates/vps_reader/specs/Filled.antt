-- The second pass leaves the record that the first found.
use Rattle.std.specs.Prelude.{ℕ, ◌+◌, ◌≡◌, List, [], ◌∷◌, ◌++◌, length, set}
use Rattle.std.proofs.Common.{sym, ap, ◌∙◌, add-one}
use Rattle.std.proofs.lemmas.List.Edits.{sets}
use Rattle.vps_definition.specs.Syntax.{numbers}
use Rattle.vps_definition.specs.Reading.{bits_at}
use Rattle.vps_laws.specs.Extension.{bits_at_length}
use Rattle.read_vps.specs.declared.Table as Code
use Rattle.vps_reader.specs.Measures.{Found, record_in, nine, seven}
use Rattle.vps_reader.specs.Stored.{stored_record}
use Rattle.lists.specs.Stored.{sets_append}

-- the starts and one number more
module _ {s : List ℕ} {w : Code.Table} {count bits : ℕ} (F : Found s w count bits) where
  seven_starts : length w.whole.starts ≡ 7
  seven_starts = sym (ap length F.table.sections) ∙ seven F.table

  -- stored as one list from a place on
  pub trailer_stored : (l : List ℕ) (i v : ℕ) → sets l i (w.whole.starts ++ (v ∷ [])) ≡ set (sets l i w.whole.starts) (i + 7) v
  trailer_stored l i v = sets_append l i w.whole.starts (v ∷ []) ∙ ap (λ (k : ℕ). set (sets l i w.whole.starts) (i + k) v) seven_starts

-- so is the extension with its count
pub extension_stored : (l e : List ℕ) (i c : ℕ) → sets l i (c ∷ e) ≡ sets (set l i c) (i + 1) e
extension_stored l e i c = ap (λ (k : ℕ). sets (set l i c) k e) (sym (add-one i))

pub filled : {s : List ℕ} {w : Code.Table} {count bits : ℕ} (F : Found s w count bits) (lent : List ℕ) {l₁ l₂ l₃ l₄ l₅ : List ℕ}
    → l₁ ≡ sets lent 0 w.whole.general → l₂ ≡ sets l₁ 9 (numbers F.table.kept) → l₃ ≡ set l₂ w.n count
    → l₄ ≡ sets l₃ (w.n + 1) (bits_at s w.at count)
    → l₅ ≡ set (sets l₄ (w.n + 1 + count) w.whole.starts) (w.n + 1 + count + 7) (w.n + 1 + count + 8)
    → l₅ ≡ sets lent 0 (record_in F)
filled {s} {w} {count} F lent {l₄ = l₄} e₁ e₂ e₃ e₄ e₅ =
    let t = F.table.kept in
    let e : List ℕ = bits_at s w.at count in
    let k : length e ≡ count = bits_at_length s w.at count in
    let h : w.n ≡ 9 + length (numbers t) = F.table.count in
    let f₂ = e₂ ∙ ap (λ (l : List ℕ). sets l 9 (numbers t)) e₁ in
    let f₃ = e₃ ∙ (λ i. set (f₂ i) (h i) (sym k i)) in
    let f₄ = e₄ ∙ (λ i. sets (f₃ i) (h i + 1) e) in
    let z : 7 ≡ length w.whole.starts = sym (sym (ap length F.table.sections) ∙ seven F.table) in
    e₅
    ∙ (λ i. set (sets l₄ (w.n + 1 + count) w.whole.starts) (w.n + 1 + count + z i) (w.n + 1 + count + 8))
    ∙ (λ i. set (sets (f₄ i) (h i + 1 + sym k i) (sym F.table.sections i)) (h i + 1 + sym k i + length (sym F.table.sections i)) (h i + 1 + sym k i + 8))
    ∙ stored_record lent w.whole.general t e (nine F.table)
