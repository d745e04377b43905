-- Where a record's sections start: each start in the trailer is the place of a mark of the table.
use Prim.Native.Nat.{ℕ, zero, suc, ◌+◌, ◌-◌, ◌≤◌, ◌<◌}
use Rattle.std.specs.Prelude.{◌≡◌, refl, Bool, true, false}
use Rattle.std.proofs.Common.{sym, ◌∙◌, subst, add-zero, arith, lt-ltb}
use Rattle.std.proofs.Math.Path.{ap}
use mathlib.Core.List.{List, [], ◌∷◌, ◌++◌, append_assoc}
use Rattle.std.proofs.Math.ListN.{length, get_or, drop, length-append, get_or-append}
use Rattle.std.proofs.lemmas.List.{get_or_at}
use Rattle.std.proofs.Math.Seq.{get_or-append-add, drop-append-add, drop-append_seam}
use Rattle.vps_definition.specs.Syntax.{Syntax, ◌>>=◌, Token, numbers, starts}
use Rattle.vps_definition.specs.Syntax.Token.{number, section}
use Rattle.vps_definition.specs.Record.{body_of, record_of, trailer_at, start_of}
use Rattle.vps_definition.specs.Layout.{from_section}
use Rattle.vps_laws.specs.Keeps.{numbers_append}
use Rattle.vps_laws.specs.Accepted.{closing, record_parts}

-- how many sections start
unfoldable pub marks : List Token → ℕ
marks [] = 0
marks (number v ∷ t) = marks t
marks (section ∷ t) = suc (marks t)

pub marks_append : (t u : List Token) → marks (t ++ u) ≡ marks t + marks u
unfolding marks
marks_append [] u = omega arith
marks_append (number v ∷ t) u = marks_append t u
marks_append (section ∷ t) u = omega (arith, marks_append t u)

pub starts_append : (at : ℕ) (t u : List Token) → starts at (t ++ u) ≡ starts at t ++ starts (at + length (numbers t)) u
unfolding starts numbers
starts_append at [] u = rw add-zero refl
starts_append at (number v ∷ t) u =
    let e : at + suc (length (numbers t)) ≡ at + 1 + length (numbers t) = omega arith in
    rw e (starts_append (at + 1) t u)
starts_append at (section ∷ t) u = ap (λ (l : List ℕ). at ∷ l) (starts_append at t u)

pub starts_length : (at : ℕ) (t : List Token) → length (starts at t) ≡ marks t
unfolding starts marks
starts_length at [] = refl
starts_length at (number v ∷ t) = starts_length (at + 1) t
starts_length at (section ∷ t) = ap suc (starts_length at t)

pub starts_none : (at : ℕ) (t : List Token) → marks t ≡ 0 → starts at t ≡ []
unfolding starts marks
starts_none at [] e = refl
starts_none at (number v ∷ t) e = starts_none (at + 1) t e
starts_none at (section ∷ t) e = absurd (omega (arith, e))

-- a section starts inside
pub starts_most : (n : ℕ) (t : List Token) (k : ℕ) → get_or (starts n t) k 0 ≤ n + length (numbers t)
unfolding starts numbers
starts_most n [] k = omega arith
starts_most n (number v ∷ t) k = omega (arith, starts_most (n + 1) t k)
starts_most n (section ∷ t) zero = omega arith
starts_most n (section ∷ t) (suc k) = starts_most n t k

-- no section starts before the one before it
pub starts_least : (n : ℕ) (t : List Token) (k : ℕ) → k < marks t → n ≤ get_or (starts n t) k 0
unfolding starts marks
starts_least n [] k h = absurd (omega (arith, h))
starts_least n (number v ∷ t) k h = omega (arith, starts_least (n + 1) t k h)
starts_least n (section ∷ t) zero h = omega arith
starts_least n (section ∷ t) (suc k) h = starts_least n t k (omega (arith, h))

pub starts_rise : (n : ℕ) (t : List Token) (k : ℕ) → suc k < marks t → get_or (starts n t) k 0 ≤ get_or (starts n t) (suc k) 0
unfolding starts marks
starts_rise n [] k h = absurd (omega (arith, h))
starts_rise n (number v ∷ t) k h = starts_rise (n + 1) t k h
starts_rise n (section ∷ t) zero h = starts_least n t 0 (omega (arith, h))
starts_rise n (section ∷ t) (suc k) h = starts_rise n t k (omega (arith, h))

-- the start behind k marks
starts_at : (at : ℕ) (a b : List Token) → get_or (starts at (a ++ (section ∷ b))) (marks a) 0 ≡ at + length (numbers a)
unfolding starts
starts_at at a b = rw (starts_append at a (section ∷ b)) (get_or_at (starts at a) (at + length (numbers a)) (starts (at + length (numbers a)) b) 0 (marks a) (starts_length at a))

module _ (g : List ℕ) (t : List Token) (e : List ℕ) (nine : length g ≡ 9) (seven : marks t ≡ 7) where
  trailer_at_lem : (k : ℕ) → k < 7 → trailer_at (record_of g t e) k ≡ get_or (starts 9 t) k 0
  unfolding record_of
  trailer_at_lem k h =
      let z : List ℕ = (length (body_of g t e) + 8) ∷ [] in
      let q : body_of g t e ++ starts 9 t ++ z ≡ body_of g t e ++ (starts 9 t ++ z) = append_assoc (body_of g t e) (starts 9 t) z in
      let s = starts_length 9 t in
      let l : length (body_of g t e ++ starts 9 t ++ z) - 8 + k ≡ length (body_of g t e) + k = omega (arith, ap length q, length-append (body_of g t e) (starts 9 t ++ z), length-append (starts 9 t) z) in
      ap (λ (n : ℕ). get_or (body_of g t e ++ starts 9 t ++ z) n 0) l ∙ ap (λ (x : List ℕ). get_or x (length (body_of g t e) + k) 0) q
      ∙ get_or-append-add (body_of g t e) (starts 9 t ++ z) k 0 ∙ get_or-append (starts 9 t) z 0 k (omega arith)

  pub start_listed : (k : ℕ) → k < 7 → start_of (record_of g t e) (suc k) ≡ get_or (starts 9 t) k 0
  unfolding start_of
  start_listed k h = rw (lt-ltb k 7 h) (trailer_at_lem k h)

  module _ (a b : List Token) (here : t ≡ a ++ (section ∷ b)) where
    below : marks a < 7
    below = unfold marks in omega (arith, ap marks here, marks_append a (section ∷ b))

    pub start_of_lem : start_of (record_of g t e) (suc (marks a)) ≡ 9 + length (numbers a)
    start_of_lem = start_listed (marks a) below ∙ ap (λ (x : List Token). get_or (starts 9 x) (marks a) 0) here ∙ starts_at 9 a b

    -- the record from a section on: what was kept behind its mark, and the rest
    pub from_section_lem : from_section (record_of g t e) (suc (marks a)) ≡ numbers b ++ closing g t e
    unfolding from_section
    from_section_lem =
        let y : List ℕ = closing g t e in
        let n : numbers t ≡ numbers a ++ numbers b = ap numbers here ∙ numbers_append a (section ∷ b) ∙ (unfold numbers in refl) in
        ap (λ (k : ℕ). drop k (record_of g t e)) start_of_lem
        ∙ ap (drop (9 + length (numbers a))) (record_parts g t e ∙ ap (λ (x : List ℕ). g ++ (x ++ y)) n)
        ∙ ap (λ (k : ℕ). drop (k + length (numbers a)) (g ++ ((numbers a ++ numbers b) ++ y))) (sym nine)
        ∙ drop-append-add g ((numbers a ++ numbers b) ++ y) (length (numbers a))
        ∙ ap (drop (length (numbers a))) (append_assoc (numbers a) (numbers b) y)
        ∙ drop-append_seam (numbers a) (numbers b ++ y)
