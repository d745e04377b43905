-- Text that is put into a lent slice from a place on, as much of it as there is room for.
use Rattle.std.specs.Prelude.{ℕ, suc, ◌+◌, ◌-◌, ◌≤◌, ◌<◌, min, ◌≡◌, refl, List, [], ◌∷◌, ◌++◌, Bool, true, false, leb, length, set}
use Rattle.std.proofs.Common.{sym, ap, ◌∙◌, subst, arith, leb-true, leb-false, length-append}
use Rattle.std.proofs.lemmas.List.Edits.{sets}
use Rattle.std.proofs.Math.Seq.{length-sets, set_out}
use Rattle.lists.specs.Stored.{sets_append, overlaid, stored_whole}

pub record Puts (x : List ℕ) (at next : ℕ) (text text' : List ℕ) : Type 0 where
  pub stored : text' ≡ sets text at x
  pub place : next ≡ at + min (length x) (length text - at)

-- nothing is stored past the end
sets_past : (x text : List ℕ) (at : ℕ) → length text ≤ at → sets text at x ≡ text
sets_past [] text at h = refl
sets_past (b ∷ x) text at h = rw (set_out text at b h) (sets_past x text (suc at) (omega arith))

pub puts_length : {x : List ℕ} {at next : ℕ} {text text' : List ℕ} → Puts x at next text text' → length text' ≡ length text
puts_length {x} {at} {next} {text} p = ap length p.stored ∙ length-sets text at x

-- the same text in other words
pub puts_same : {x y : List ℕ} {at next : ℕ} {text text' : List ℕ} → x ≡ y → Puts x at next text text' → Puts y at next text text'
puts_same {x} {y} {at} {next} {text} {text'} e = subst (λ (z : List ℕ). Puts z at next text text') e

-- where there is room, the whole text stands at the beginning
pub puts_whole : {x : List ℕ} {next : ℕ} {text text' : List ℕ} → Puts x 0 next text text' → length x ≤ length text → (next ≡ length x) × (text' ≡ overlaid x text)
puts_whole {x} {next} {text} p h = (omega (arith, p.place), p.stored ∙ stored_whole text x h)

pub puts_none : (at : ℕ) (text : List ℕ) → Puts [] at at text text
puts_none at text = record { stored = refl; place = omega arith }

-- one text behind another
pub puts_then : {x y : List ℕ} {at next next' : ℕ} {text text₁ text₂ : List ℕ} → Puts x at next text text₁ → Puts y next next' text₁ text₂ → Puts (x ++ y) at next' text text₂
puts_then {x} {y} {at} {next} {next'} {text} {text₁} {text₂} p q =
    record {
      stored = q.stored ∙ behind (leb (at + length x) (length text)) refl ∙ sym (sets_append text at x y);
      place = omega (arith, same, length-append x y, p.place, q.place);
    }
  where
    same : length text₁ ≡ length text
    same = puts_length p

    behind : (b : Bool) → leb (at + length x) (length text) ≡ b → sets text₁ next y ≡ sets (sets text at x) (at + length x) y
    behind true e =
        let h : at + length x ≤ length text = leb-true (at + length x) (length text) e in
        let n : next ≡ at + length x = omega (arith, h, p.place) in
        rw (n, p.stored) refl
    behind false e =
        let h : length text < at + length x = leb-false (at + length x) (length text) e in
        sets_past y text₁ next (omega (arith, h, same, p.place)) ∙ p.stored ∙ sym (sets_past y (sets text at x) (at + length x) (omega (arith, h, length-sets text at x)))

-- ── Byte by byte ──────────────────────────────────────────────────────
-- a byte is stored where there is room for one
pub puts_byte : (b at : ℕ) (text : List ℕ) → at < length text → Puts (b ∷ []) at (at + 1) text (set text at b)
puts_byte b at text h = record { stored = refl; place = omega arith }

-- and nothing at the slice's end or past it
pub puts_past : (x : List ℕ) (at : ℕ) (text : List ℕ) → length text ≤ at → Puts x at at text text
puts_past x at text h = record { stored = sym (sets_past x text at h); place = omega arith }

-- and nothing where there is room for none of the bytes, or where there are none
pub puts_no_room : (x : List ℕ) {at n room : ℕ} {text : List ℕ} → room ≡ length text - at → n ≡ min (length x) room → n ≤ 0 → Puts x at at text text
puts_no_room [] er en none = record { stored = refl; place = omega arith }
puts_no_room (b ∷ x) {at} {n} {room} {text} er en none = record { stored = sym (sets_past (b ∷ x) text at (omega arith)); place = omega arith }
