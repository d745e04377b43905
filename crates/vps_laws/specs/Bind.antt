-- Two tables in a row: read and written one after the other.
use Rattle.std.specs.Prelude.{ℕ, ◌+◌, ◌-◌, ◌^◌, ◌≡◌, refl, List, [], ◌∷◌, ◌++◌, Bool, true, false, ltb, leb, eqb, length, replicate}
use Rattle.std.proofs.Common.{sym, ap, ◌∙◌, append_assoc, add-zero, arith, length-append}
use Rattle.std.proofs.lemmas.List.{length-replicate}
use Rattle.bits.specs.Bits.{bits_of, to_boundary}
use Rattle.bits.specs.Code.{code_of}
use Rattle.bits.specs.FieldLaws.{bits_length}
use Rattle.vps_definition.specs.Syntax.{Syntax, ◌>>=◌, Token, Outcome, keeping, run, Written, putting, emit}
use Rattle.vps_definition.specs.Syntax.Syntax.{field, code, late, keep, mark, align, test, refuse, done}
use Rattle.vps_definition.specs.Syntax.Token.{number, section}
use Rattle.vps_definition.specs.Syntax.Outcome.{accepted, refused}
use Rattle.vps_definition.specs.Syntax.Written.{wrote, bad}
use Rattle.vps_laws.specs.Inversion.{not_accepted, Kept}

-- ── Reading ───────────────────────────────────────────────────────────
-- what was kept before comes first
unfoldable pub after : {A : Type 0} → List Token → Outcome A → Outcome A
after t (accepted a l next) = accepted a (t ++ l) next
after t (refused n l) = refused n (t ++ l)

-- a reading that goes on behind another, by its result and the place behind it
unfoldable pub then_read : {A B : Type 0} → Outcome A → (A → ℕ → Outcome B) → Outcome B
then_read (accepted a t next) F = after t (F a next)
then_read (refused n l) F = refused n l

pub after_nothing : {A : Type 0} (R : Outcome A) → after [] R ≡ R
unfolding after
after_nothing (accepted a l next) = refl
after_nothing (refused n l) = refl

pub keeping_after : {A : Type 0} (u : Token) (t : List Token) (R : Outcome A) → keeping u (after t R) ≡ after (u ∷ t) R
unfolding keeping after
keeping_after u t (accepted a l next) = refl
keeping_after u t (refused n l) = refl

-- two tables in a row that are accepted: each of them was
pub record Bound {A B : Type 0} (m : Syntax A) (f : A → Syntax B) (s : List ℕ) (at : ℕ) (b : B) (t : List Token) (next : ℕ) : Type 0 where
  pub result : A
  pub before : List Token
  pub middle : ℕ
  pub behind : List Token
  pub first : run m s at ≡ accepted result before middle
  pub second : run (f result) s middle ≡ accepted b behind next
  pub both : t ≡ before ++ behind

pub after_accepted : {A : Type 0} {a : A} {t : List Token} {next : ℕ} (u : List Token) (R : Outcome A) → after u R ≡ accepted a t next → Kept u R a t next
unfolding after
after_accepted u (accepted b l q) e = record { rest = l; inner = cc; all = cc }
after_accepted u (refused n l) e = not_accepted e

-- ── Writing ───────────────────────────────────────────────────────────
-- a writing that goes on behind another, by its result, the record's rest and the place behind it
unfoldable pub then_write : {A B : Type 0} → ℕ → Written A → (A → List ℕ → ℕ → Written B) → Written B
then_write at (wrote a t x b) F = putting t b (F a x (at + length b))
then_write at bad F = bad

putting_putting : {A : Type 0} (t u : List Token) (b c : List ℕ) (W : Written A) → putting t b (putting u c W) ≡ putting (t ++ u) (b ++ c) W
unfolding putting
putting_putting t u b c (wrote a l x d) = rw (append_assoc t u l, append_assoc b c d) refl
putting_putting t u b c bad = refl

putting_nothing : {A : Type 0} (W : Written A) → putting [] [] W ≡ W
unfolding putting
putting_nothing (wrote a l x d) = refl
putting_nothing bad = refl

putting_then : {A B : Type 0} (t : List Token) (b : List ℕ) (at next : ℕ) (W : Written A) (F : A → List ℕ → ℕ → Written B) → next ≡ at + length b
    → putting t b (then_write next W F) ≡ then_write at (putting t b W) F
unfolding putting then_write
putting_then t b at next (wrote a l x d) F e =
    let z : next + length d ≡ at + length (b ++ d) = omega (arith, length-append b d) in
    putting_putting t l b d (F a x (next + length d)) ∙ ap (λ (n : ℕ). putting (t ++ l) (b ++ d) (F a x n)) z
putting_then t b at next bad F e = refl

guard_then : {A B : Type 0} (c : Bool) (at : ℕ) (S : Written B) (W : Written A) (F : A → List ℕ → ℕ → Written B) → S ≡ then_write at W F
    → elim c as (λ d. Written B) [ true ↦ S | false ↦ bad ] ≡ then_write at (elim c as (λ d. Written A) [ true ↦ W | false ↦ bad ]) F
unfolding then_write
guard_then true at S W F e = e
guard_then false at S W F e = refl

pub emit_bind : {A B : Type 0} (m : Syntax A) (f : A → Syntax B) (r x : List ℕ) (at : ℕ) → emit (m >>= f) r x at ≡ then_write at (emit m r x at) (λ a y next. emit (f a) r y next)
unfolding emit ◌>>=◌ then_write
emit_bind (field w plus k) f r [] at = refl
emit_bind (field w plus k) f r (v ∷ x) at =
    guard_then (leb plus v) at _ _ _ (guard_then (ltb (v - plus) (2 ^ w)) at _ _ _
    (ap (putting (number v ∷ []) (bits_of w (v - plus))) (emit_bind (k v) f r x (at + w))
    ∙ putting_then (number v ∷ []) (bits_of w (v - plus)) at (at + w) (emit (k v) r x (at + w)) _ (ap (λ (n : ℕ). at + n) (sym (bits_length w (v - plus))))))
emit_bind (code plus k) f r [] at = refl
emit_bind (code plus k) f r (v ∷ x) at =
    let next : ℕ = at + length (code_of (v - plus)) in
    guard_then (leb plus v) at _ _ _ (guard_then (ltb (v - plus) 4294967295) at _ _ _
    (ap (putting (number v ∷ []) (code_of (v - plus))) (emit_bind (k v) f r x next)
    ∙ putting_then (number v ∷ []) (code_of (v - plus)) at next (emit (k v) r x next) _ refl))
emit_bind (late w find k) f r x at =
    let v : ℕ = find r x in
    guard_then (ltb v (2 ^ w)) at _ _ _
    (ap (putting [] (bits_of w v)) (emit_bind (k v) f r x (at + w)) ∙ putting_then [] (bits_of w v) at (at + w) (emit (k v) r x (at + w)) _ (ap (λ (n : ℕ). at + n) (sym (bits_length w v))))
emit_bind (keep u m) f r [] at = refl
emit_bind (keep u m) f r (v ∷ x) at =
    guard_then (eqb v u) at _ _ _ (ap (putting (number u ∷ []) []) (emit_bind m f r x at) ∙ putting_then (number u ∷ []) [] at at (emit m r x at) _ (sym (add-zero at)))
emit_bind (mark m) f r x at = ap (putting (section ∷ []) []) (emit_bind m f r x at) ∙ putting_then (section ∷ []) [] at at (emit m r x at) _ (sym (add-zero at))
emit_bind (align n m) f r x at =
    let next : ℕ = at + to_boundary at in
    ap (putting [] (replicate (to_boundary at) 0)) (emit_bind m f r x next)
    ∙ putting_then [] (replicate (to_boundary at) 0) at next (emit m r x next) _ (ap (λ (n : ℕ). at + n) (sym (length-replicate (to_boundary at) 0)))
emit_bind (test true m n) f r x at = emit_bind m f r x at
emit_bind (test false m n) f r x at = emit_bind n f r x at
emit_bind (refuse n) f r x at = refl
emit_bind (done a) f r x at = ap (λ (n : ℕ). emit (f a) r x n) (sym (add-zero at)) ∙ sym (putting_nothing (emit (f a) r x (at + 0)))
