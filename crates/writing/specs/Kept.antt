-- Numbers that were coded before and stand next in the record: they are passed, all or none.
use Rattle.std.specs.Prelude.{ℕ, zero, suc, ◌+◌, ◌≤◌, ◌<◌, ◌≡◌, refl, List, [], ◌∷◌, ◌++◌, Bool, true, false, eqb, length, drop, Ok}
use Rattle.std.proofs.Common.{sym, ap, ◌∙◌, subst, append-nil, arith, eq-eqb}
use Rattle.vps_definition.specs.Syntax.{Syntax, ◌>>=◌, Token, numbers, Written, putting, emit}
use Rattle.vps_definition.specs.Syntax.Syntax.{done}
use Rattle.vps_definition.specs.Syntax.Token.{number}
use Rattle.vps_definition.specs.Syntax.Written.{wrote, bad}
use Rattle.vps_definition.specs.Words.{nothing, keeps}
use Rattle.vps_laws.specs.Inversion.{open_guard}
use Rattle.vps_laws.specs.Loops.{bind_unit}
use Rattle.ptl_slots.specs.Standing.{standing, length_standing, standing_drop, drop_behind}
use Rattle.writing.specs.declared.Writing.{Writing}
use Rattle.writing.specs.Emits.{Emits}
use Rattle.writing.specs.Steps.{Passed, emits_pushed, pushes_nothing}

-- the tokens of numbers that are kept
unfoldable pub tokens : List ℕ → List Token
tokens [] = []
tokens (v ∷ l) = number v ∷ tokens l

pub numbers_tokens : (l : List ℕ) → numbers (tokens l) ≡ l
unfolding numbers tokens
numbers_tokens [] = refl
numbers_tokens (v ∷ l) = ap (λ (x : List ℕ). v ∷ x) (numbers_tokens l)

-- the numbers that a rest begins with, and what stands behind them
pub standing_rest : (n : ℕ) (y : List ℕ) → n ≤ length y → standing n 0 y ++ drop n y ≡ y
unfolding standing
standing_rest zero y h = refl
standing_rest (suc n) [] h = absurd (omega (arith, h))
standing_rest (suc n) (v ∷ y) h = ap (λ (l : List ℕ). v ∷ (l ++ drop n y)) (sym (standing_drop n 0 (v ∷ y))) ∙ ap (λ (l : List ℕ). v ∷ l) (standing_rest n y (omega (arith, h)))

-- ── What a table writes behind them ───────────────────────────────────
pub putting_nothing : {A : Type 0} (W : Written A) → W ≡ putting [] [] W
unfolding putting
putting_nothing (wrote a t x b) = refl
putting_nothing bad = refl

putting_number : {A : Type 0} (v : ℕ) (l : List ℕ) (W : Written A) → putting (number v ∷ []) [] (putting (tokens l) [] W) ≡ putting (tokens (v ∷ l)) [] W
unfolding putting tokens
putting_number v l (wrote a t x b) = refl
putting_number v l bad = refl

pub keeps_emit : {A : Type 0} (f : Unit {0} → Syntax A) (r l z : List ℕ) (at : ℕ) → emit (keeps l >>= f) r (l ++ z) at ≡ putting (tokens l) [] (emit (f tt) r z at)
unfolding keeps nothing ◌>>=◌ tokens emit
keeps_emit f r [] z at = putting_nothing (emit (f tt) r z at)
keeps_emit f r (v ∷ l) z at = open_guard (eqb v v) (eq-eqb v v refl) (ap (putting (number v ∷ []) []) (keeps_emit f r l z at) ∙ putting_number v l (emit (f tt) r z at))

-- bad either way
pub shut : {A : Type 0} {W : Written A} (b : Bool) → W ≡ bad → ◌≡◌ {A = Written A} (elim b as (λ d. Written A) [ true ↦ W | false ↦ bad ]) bad
shut true e = e
shut false e = refl

-- one of them is missing
pub keeps_short : {A : Type 0} (f : Unit {0} → Syntax A) (r l x : List ℕ) (at : ℕ) → length x < length l → emit (keeps l >>= f) r x at ≡ bad
unfolding keeps nothing ◌>>=◌ emit putting
keeps_short f r [] x at h = absurd (omega (arith, h))
keeps_short f r (v ∷ l) [] at h = refl
keeps_short f r (v ∷ l) (u ∷ x) at h = shut (eqb u v) (ap (putting (number v ∷ []) []) (keeps_short f r l x at (omega (arith, h))))

-- ── The step ──────────────────────────────────────────────────────────
written : (n : ℕ) (r x : List ℕ) (at : ℕ) → n ≤ length x → emit (keeps (standing n 0 x)) r x at ≡ wrote tt (tokens (standing n 0 x)) (drop n x) []
unfolding emit putting
written n r x at h =
    let l : List ℕ = standing n 0 x in
    ap (λ (m : Syntax (Unit {0})). emit m r x at) (sym (bind_unit (keeps l)))
    ∙ ap (λ (y : List ℕ). emit (keeps l >>= done) r y at) (sym (standing_rest n x h))
    ∙ keeps_emit done r l (drop n x) at
    ∙ ap (λ (t : List Token). wrote tt t (drop n x) []) (append-nil (tokens l))

module _ {s s' : Writing} (n : ℕ) where
  -- n numbers are passed
  pub emits_kept : n ≤ length (drop s.c s.rec.now) → Passed n s s' → Emits (keeps (standing n 0 (drop s.c s.rec.now))) s (Ok tt) s'
  emits_kept h P =
      let rec : List ℕ = s.rec.now in
      let l : List ℕ = standing n 0 (drop s.c rec) in
      let long : length (numbers (tokens l)) ≡ n = ap length (numbers_tokens l) ∙ length_standing n 0 (drop s.c rec) in
      let there : drop n (drop s.c rec) ≡ drop (s.c + length (numbers (tokens l))) rec = drop_behind s.c n rec ∙ ap (λ (k : ℕ). drop (s.c + k) rec) (sym long) in
      emits_pushed tt (tokens l) (λ at i. written n rec (drop s.c rec) at h ∙ ap (λ (y : List ℕ). wrote tt (tokens l) y []) there) pushes_nothing (subst (λ (k : ℕ). Passed k s s') (sym long) P)
