-- A syntax table as data, and what it means: one text that is read, written and looked through.
use Rattle.std.specs.Prelude.{ℕ, zero, suc, ◌+◌, ◌-◌, ◌^◌, List, [], ◌∷◌, ◌++◌, Bool, true, false, ltb, leb, eqb, length, replicate}
use Rattle.bits.specs.Bits.{field_at, bits_of, to_boundary}
use Rattle.bits.specs.Code.{code_at, code_of}
use Rattle.bits.specs.Code as Code

-- A table that ends in a result of type A.
pub data Syntax (A : Type 0) : Type 0 where
  -- coded u(w); the record's next number is the value and `plus`
  field : (w plus : ℕ) → (ℕ → Syntax A) → Syntax A
  -- coded ue(v), likewise
  code : (plus : ℕ) → (ℕ → Syntax A) → Syntax A
  -- coded u(w) here and kept elsewhere in the record: `find` is handed the whole record and its rest from here on
  late : (w : ℕ) (find : List ℕ → List ℕ → ℕ) → (ℕ → Syntax A) → Syntax A
  -- not coded: the record's next number, inferred or worked out
  keep : ℕ → Syntax A → Syntax A
  -- a section of the record starts
  mark : Syntax A → Syntax A
  -- bits to the byte boundary: a one among them is refused with that number, or passed over where it is 0
  align : ℕ → Syntax A → Syntax A
  -- the first where the condition holds, else the second
  test : Bool → Syntax A → Syntax A → Syntax A
  refuse : ℕ → Syntax A
  done : A → Syntax A

-- one table and then another, by the result of the first
infixl 10 ◌>>=◌
unfoldable pub ◌>>=◌ : {A B : Type 0} → Syntax A → (A → Syntax B) → Syntax B
field w plus k >>= f = field w plus (λ v. k v >>= f)
code plus k >>= f = code plus (λ v. k v >>= f)
late w find k >>= f = late w find (λ v. k v >>= f)
keep v m >>= f = keep v (m >>= f)
mark m >>= f = mark (m >>= f)
align n m >>= f = align n (m >>= f)
test b m n >>= f = test b (m >>= f) (n >>= f)
refuse n >>= f = refuse n
done a >>= f = f a

-- ── What goes into the record ─────────────────────────────────────────
pub data Token : Type 0 where
  number : ℕ → Token
  section : Token

unfoldable pub numbers : List Token → List ℕ
numbers [] = []
numbers (number v ∷ t) = v ∷ numbers t
numbers (section ∷ t) = numbers t

-- the places at which sections start, the first token standing at `at`
unfoldable pub starts : ℕ → List Token → List ℕ
starts at [] = []
starts at (number v ∷ t) = starts (at + 1) t
starts at (section ∷ t) = at ∷ starts at t

-- ── Reading ───────────────────────────────────────────────────────────
-- the result, what goes into the record, and the place behind; or a refusal, and what was kept until then
pub data Outcome (A : Type 0) : Type 0 where
  accepted : A → List Token → ℕ → Outcome A
  refused : ℕ → List Token → Outcome A

unfoldable pub keeping : {A : Type 0} → Token → Outcome A → Outcome A
keeping u (accepted a t next) = accepted a (u ∷ t) next
keeping u (refused n t) = refused n (u ∷ t)

unfoldable pub run : {A : Type 0} → Syntax A → List ℕ → ℕ → Outcome A
run (field w plus k) s at = let v = field_at s at w + plus in keeping (number v) (run (k v) s (at + w))
run (code plus k) s at =
    elim (code_at s at) [
      | Code.Taken.taken v next ↦ keeping (number (v + plus)) (run (k (v + plus)) s next)
      | Code.Taken.refused n ↦ refused n []
    ]
run (late w find k) s at = run (k (field_at s at w)) s (at + w)
run (keep v m) s at = keeping (number v) (run m s at)
run (mark m) s at = keeping section (run m s at)
run (align zero m) s at = run m s (at + to_boundary at)
run (align (suc n) m) s at =
    elim (eqb (field_at s at (to_boundary at)) 0) [
      | true ↦ run m s (at + to_boundary at)
      | false ↦ refused (suc n) []
    ]
run (test true m n) s at = run m s at
run (test false m n) s at = run n s at
run (refuse n) s at = refused n []
run (done a) s at = accepted a [] at

-- the bits that a reading takes, each field, code and alignment with its place and the place behind it
pub record Span : Type 0 where
  pub from : ℕ
  pub to : ℕ

abbrev pub span : ℕ → ℕ → Span
span a b = record { from = a; to = b }

unfoldable pub spans : {A : Type 0} → Syntax A → List ℕ → ℕ → List Span
spans (field w plus k) s at = span at (at + w) ∷ spans (k (field_at s at w + plus)) s (at + w)
spans (code plus k) s at =
    elim (code_at s at) [
      | Code.Taken.taken v next ↦ span at next ∷ spans (k (v + plus)) s next
      | Code.Taken.refused n ↦ []
    ]
spans (late w find k) s at = span at (at + w) ∷ spans (k (field_at s at w)) s (at + w)
spans (keep v m) s at = spans m s at
spans (mark m) s at = spans m s at
spans (align n m) s at = span at (at + to_boundary at) ∷ spans m s (at + to_boundary at)
spans (test true m n) s at = spans m s at
spans (test false m n) s at = spans n s at
spans (refuse n) s at = []
spans (done a) s at = []

-- ── Writing ───────────────────────────────────────────────────────────
-- the result, what the record had, the record's rest, and the bits; or not well formed
pub data Written (A : Type 0) : Type 0 where
  wrote : A → List Token → List ℕ → List ℕ → Written A
  bad : Written A

unfoldable pub putting : {A : Type 0} → List Token → List ℕ → Written A → Written A
putting t b (wrote a u x c) = wrote a (t ++ u) x (b ++ c)
putting t b bad = bad

-- from the whole record, its rest, and the place that the bits are written at
unfoldable pub emit : {A : Type 0} → Syntax A → List ℕ → List ℕ → ℕ → Written A
emit (field w plus k) r [] at = bad
emit (field w plus k) r (v ∷ x) at =
    elim (leb plus v) [
      | true ↦ elim (ltb (v - plus) (2 ^ w)) [ true ↦ putting (number v ∷ []) (bits_of w (v - plus)) (emit (k v) r x (at + w)) | false ↦ bad ]
      | false ↦ bad
    ]
emit (code plus k) r [] at = bad
emit (code plus k) r (v ∷ x) at =
    elim (leb plus v) [
      | true ↦
          elim (ltb (v - plus) 4294967295) [
            | true ↦ putting (number v ∷ []) (code_of (v - plus)) (emit (k v) r x (at + length (code_of (v - plus))))
            | false ↦ bad
          ]
      | false ↦ bad
    ]
emit (late w find k) r x at =
    elim (ltb (find r x) (2 ^ w)) [
      | true ↦ putting [] (bits_of w (find r x)) (emit (k (find r x)) r x (at + w))
      | false ↦ bad
    ]
emit (keep u m) r [] at = bad
emit (keep u m) r (v ∷ x) at = elim (eqb v u) [ true ↦ putting (number u ∷ []) [] (emit m r x at) | false ↦ bad ]
emit (mark m) r x at = putting (section ∷ []) [] (emit m r x at)
emit (align n m) r x at = putting [] (replicate (to_boundary at) 0) (emit m r x (at + to_boundary at))
emit (test true m n) r x at = emit m r x at
emit (test false m n) r x at = emit n r x at
emit (refuse n) r x at = bad
emit (done a) r x at = wrote a [] x []

-- ── Looking through ───────────────────────────────────────────────────
-- the record's rest behind a table, unchecked: for what is kept behind it
unfoldable pub skim : {A : Type 0} → Syntax A → List ℕ → List ℕ → List ℕ
skim (field w plus k) r [] = []
skim (field w plus k) r (v ∷ x) = skim (k v) r x
skim (code plus k) r [] = []
skim (code plus k) r (v ∷ x) = skim (k v) r x
skim (late w find k) r x = skim (k (find r x)) r x
skim (keep u m) r [] = []
skim (keep u m) r (v ∷ x) = skim m r x
skim (mark m) r x = skim m r x
skim (align n m) r x = skim m r x
skim (test true m n) r x = skim m r x
skim (test false m n) r x = skim n r x
skim (refuse n) r x = x
skim (done a) r x = x

-- the result of a table over the record's rest, unchecked; d where the rest is too short or the table refuses
unfoldable pub look : {A : Type 0} → A → Syntax A → List ℕ → List ℕ → A
look d (field w plus k) r [] = d
look d (field w plus k) r (v ∷ x) = look d (k v) r x
look d (code plus k) r [] = d
look d (code plus k) r (v ∷ x) = look d (k v) r x
look d (late w find k) r x = look d (k (find r x)) r x
look d (keep u m) r [] = d
look d (keep u m) r (v ∷ x) = look d m r x
look d (mark m) r x = look d m r x
look d (align n m) r x = look d m r x
look d (test true m n) r x = look d m r x
look d (test false m n) r x = look d n r x
look d (refuse n) r x = d
look d (done a) r x = a
