-- A text that goes on.
use Rattle.std.specs.Prelude.{ℕ, ◌≤◌, ◌≡◌, List, [], ◌++◌, length, take, drop}
use Rattle.std.proofs.Common.{refl, ◌∙◌, subst}
use Rattle.std.proofs.Math.Seq.{take-append_seam}
use Rattle.texts.specs.Text.{Puts, puts_whole, puts_none, puts_then}
use Rattle.texts.specs.declared.Text.{Text}

-- by x, in the same lent slice
pub record Adds (x : List ℕ) (text text' : Text) : Type 0 where
  pub same_reference : text'.bytes.ghost_name ≡ text.bytes.ghost_name
  pub puts : Puts x text.place text'.place text.bytes.now text'.bytes.now

-- the same in other words
pub adds_same : {x y : List ℕ} {text text' : Text} → x ≡ y → Adds x text text' → Adds y text text'
adds_same {x} {y} {text} {text'} e = subst (λ (z : List ℕ). Adds z text text') e

pub adds_none : (text : Text) → Adds [] text text
adds_none text = record { same_reference = refl; puts = puts_none text.place text.bytes.now }

-- one text behind another
pub adds_then : {x y : List ℕ} {text text₁ text₂ : Text} → Adds x text text₁ → Adds y text₁ text₂ → Adds (x ++ y) text text₂
adds_then p q = record { same_reference = q.same_reference ∙ p.same_reference; puts = puts_then p.puts q.puts }

-- the first text of a slice
pub puts_first : {x : List ℕ} {text text' : Text} {bytes : List ℕ} → Adds x text text' → text.place ≡ 0 → text.bytes.now ≡ bytes → Puts x 0 text'.place bytes text'.bytes.now
puts_first {x} {text} {text'} a e f = subst (λ (l : List ℕ). Puts x 0 text'.place l text'.bytes.now) f (subst (λ (k : ℕ). Puts x k text'.place text.bytes.now text'.bytes.now) e a.puts)

-- where there is room, it is what stands before the place
pub adds_whole : {x : List ℕ} {text text' : Text} → Adds x text text' → text.place ≡ 0 → length x ≤ length text.bytes.now → take text'.place text'.bytes.now ≡ x
adds_whole {x} {text} {text'} a e h =
    let w = puts_whole (puts_first a e refl) h in
    (λ i. take (w.0 i) (w.1 i)) ∙ take-append_seam x (drop (length x) text.bytes.now)
