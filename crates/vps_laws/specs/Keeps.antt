-- What a table keeps, and what it ends in: facts of every reading that is accepted.
use Rattle.std.specs.Prelude.{ℕ, zero, suc, ◌+◌, ◌^◌, ◌≤◌, ◌<◌, ◌≡◌, refl, List, [], ◌∷◌, ◌++◌, Bool, true, false, eqb}
use Rattle.std.proofs.Common.{ap, subst₂, arith}
use Rattle.std.proofs.Math.Path.{subst⁻¹}
use Rattle.bits.specs.Bits.{field_at, to_boundary}
use Rattle.bits.specs.Code.{code_at}
use Rattle.bits.specs.FieldLaws.{field_lt}
use Rattle.vps_definition.specs.Syntax.{Syntax, Token, numbers, keeping, run}
use Rattle.vps_definition.specs.Syntax.Syntax.{field, code, late, keep, mark, align, test, refuse, done}
use Rattle.vps_definition.specs.Syntax.Token.{number, section}
use Rattle.vps_definition.specs.Syntax.Outcome.{accepted}
use Rattle.vps_definition.specs.Words.{u, u_minus1, ue, ue_minus1, inferred, ue_if, general, general_if, check, ruled, nothing, when, aligned, keeps}
use Rattle.vps_laws.specs.Inversion.{not_accepted, keeping_accepted, guard_accepted, ruled_accepted, code_accepted}
use Rattle.vps_laws.specs.Reading.{Each, each_join}

-- Q holds of the result and the tokens kept
pub record Keeps {A : Type 0} (Q : A → List Token → Type 0) (m : Syntax A) : Type 0 where
  pub holds : {a : A} {t : List Token} {next : ℕ} (s : List ℕ) (at : ℕ) → run m s at ≡ accepted a t next → Q a t

-- Q holds of the result
abbrev pub Returns : {A : Type 0} → (A → Type 0) → Syntax A → Type 0
Returns Q m = Keeps (λ a t. Q a) m

-- nothing is kept
abbrev pub Silent : {A : Type 0} → Syntax A → Type 0
Silent m = Keeps (λ a t. t ≡ []) m

-- ── Lists of tokens and numbers ───────────────────────────────────────
pub numbers_append : (t l : List Token) → numbers (t ++ l) ≡ numbers t ++ numbers l
unfolding numbers
numbers_append [] l = refl
numbers_append (number v ∷ t) l = ap (λ (x : List ℕ). v ∷ x) (numbers_append t l)
numbers_append (section ∷ t) l = numbers_append t l

-- all below n
abbrev pub Below : ℕ → List ℕ → Type 0
Below n x = Each (λ v. v < n) x

pub below_join : (n : ℕ) (x y : List ℕ) → Below n x → Below n y → Below n (x ++ y)
below_join n x y h g = each_join (λ v. v < n) x y h g

-- ── Facts of a table ──────────────────────────────────────────────────
pub keeps_any : {A : Type 0} {Q : A → List Token → Type 0} {m : Syntax A} → ((a : A) (t : List Token) → Q a t) → Keeps Q m
keeps_any h = record { holds = λ s at e. h _ _ }

pub keeps_so : {A : Type 0} {Q R : A → List Token → Type 0} {m : Syntax A} → Keeps Q m → ((a : A) (t : List Token) → Q a t → R a t) → Keeps R m
keeps_so M h = record { holds = λ s at e. h _ _ (M.holds s at e) }

pub keeps_both : {A : Type 0} {Q R : A → List Token → Type 0} {m : Syntax A} → Keeps Q m → Keeps R m → Keeps (λ a t. Q a t × R a t) m
keeps_both M N = record { holds = λ s at e. (M.holds s at e, N.holds s at e) }

-- ── The steps of a table ──────────────────────────────────────────────
pub keeps_field : {A : Type 0} {Q : A → List Token → Type 0} {w plus : ℕ} {k : ℕ → Syntax A}
    → ((v : ℕ) → v < 2 ^ w → Keeps (λ a t. Q a (number (v + plus) ∷ t)) (k (v + plus))) → Keeps Q (field w plus k)
unfolding run
keeps_field {Q} {w} {plus} {k} M = record {
  holds = λ s at e.
      let v : ℕ = field_at s at w in
      let K = keeping_accepted (number (v + plus)) (run (k (v + plus)) s (at + w)) e in
      subst⁻¹ (Q _) K.all ((M v (field_lt s at w)).holds s (at + w) K.inner);
}

pub keeps_code : {A : Type 0} {Q : A → List Token → Type 0} {plus : ℕ} {k : ℕ → Syntax A}
    → ((v : ℕ) → Keeps (λ a t. Q a (number (v + plus) ∷ t)) (k (v + plus))) → Keeps Q (code plus k)
unfolding run
keeps_code {Q} {plus} {k} M = record {
  holds = λ s at e.
      let C = code_accepted (code_at s at) (λ v next. keeping (number (v + plus)) (run (k (v + plus)) s next)) e in
      let v : ℕ = C.value in
      let K = keeping_accepted (number (v + plus)) (run (k (v + plus)) s C.behind) C.inner in
      subst⁻¹ (Q _) K.all ((M v).holds s C.behind K.inner);
}

pub keeps_late : {A : Type 0} {Q : A → List Token → Type 0} {w : ℕ} {find : List ℕ → List ℕ → ℕ} {k : ℕ → Syntax A} → ((v : ℕ) → v < 2 ^ w → Keeps Q (k v)) → Keeps Q (late w find k)
unfolding run
keeps_late {w} M = record { holds = λ s at e. (M (field_at s at w) (field_lt s at w)).holds s (at + w) e }

pub keeps_keep : {A : Type 0} {Q : A → List Token → Type 0} {v : ℕ} {m : Syntax A} → Keeps (λ a t. Q a (number v ∷ t)) m → Keeps Q (keep v m)
unfolding run
keeps_keep {Q} {v} {m} M = record { holds = λ s at e. let K = keeping_accepted (number v) (run m s at) e in subst⁻¹ (Q _) K.all (M.holds s at K.inner) }

pub keeps_mark : {A : Type 0} {Q : A → List Token → Type 0} {m : Syntax A} → Keeps (λ a t. Q a (section ∷ t)) m → Keeps Q (mark m)
unfolding run
keeps_mark {Q} {m} M = record { holds = λ s at e. let K = keeping_accepted section (run m s at) e in subst⁻¹ (Q _) K.all (M.holds s at K.inner) }

pub keeps_align : {A : Type 0} {Q : A → List Token → Type 0} (n : ℕ) {m : Syntax A} → Keeps Q m → Keeps Q (align n m)
unfolding run
keeps_align zero M = record { holds = λ s at e. M.holds s (at + to_boundary at) e }
keeps_align (suc n) {m} M = record {
  holds = λ s at e.
      M.holds s (at + to_boundary at) (guard_accepted (eqb (field_at s at (to_boundary at)) 0) (suc n) (run m s (at + to_boundary at)) e).1;
}

pub keeps_test : {A : Type 0} {Q : A → List Token → Type 0} (b : Bool) {m n : Syntax A} → (b ≡ true → Keeps Q m) → (b ≡ false → Keeps Q n) → Keeps Q (test b m n)
unfolding run
keeps_test true M N = record { holds = λ s at e. (M refl).holds s at e }
keeps_test false M N = record { holds = λ s at e. (N refl).holds s at e }

pub keeps_refuse : {A : Type 0} {Q : A → List Token → Type 0} {n : ℕ} → Keeps Q (refuse n)
unfolding run
keeps_refuse = record { holds = λ s at e. not_accepted e }

pub keeps_done : {A : Type 0} {Q : A → List Token → Type 0} {a : A} → Q a [] → Keeps Q (done a)
unfolding run
keeps_done {A} {Q} {a} h = record { holds = λ s at e. ended e h }
  where
    ended : {b : A} {t : List Token} {at next : ℕ} → accepted a [] at ≡ accepted b t next → Q a [] → Q b t
    ended {b} {t} e h =
        let i : a ≡ b = cc in
        let j : [] ≡ t = cc in
        subst₂ Q i j h

-- ── The words of a table ──────────────────────────────────────────────
pub keeps_u : (w : ℕ) → Keeps (λ a t. (t ≡ number a ∷ []) × (a < 2 ^ w)) (u w)
unfolding u
keeps_u w = keeps_field (λ v l. keeps_done (refl, omega arith))

pub keeps_u_minus1 : (w : ℕ) → Keeps (λ a t. (t ≡ number a ∷ []) × (1 ≤ a) × (a ≤ 2 ^ w)) (u_minus1 w)
unfolding u_minus1
keeps_u_minus1 w = keeps_field (λ v l. keeps_done (refl, omega arith, omega arith))

pub keeps_ue : Keeps (λ a t. t ≡ number a ∷ []) ue
unfolding ue
keeps_ue = keeps_code (λ v. keeps_done refl)

pub keeps_ue_minus1 : Keeps (λ a t. (t ≡ number a ∷ []) × (1 ≤ a)) ue_minus1
unfolding ue_minus1
keeps_ue_minus1 = keeps_code (λ v. keeps_done (refl, omega arith))

pub keeps_inferred : (v : ℕ) → Keeps (λ a t. (t ≡ number a ∷ []) × (a ≡ v)) (inferred v)
unfolding inferred
keeps_inferred v = keeps_keep (keeps_done (refl, refl))

-- a condition that is both
pub clash : {A : Type 0} {b : Bool} → b ≡ true → b ≡ false → A
clash e f = absurd (let n : ◌≡◌ {A = ℕ} 0 1 = cc in omega arith)

pub keeps_ue_if : (b : Bool) (v : ℕ) → Keeps (λ a t. (t ≡ number a ∷ []) × (b ≡ false → a ≡ v)) (ue_if b v)
unfolding ue_if
keeps_ue_if b v = keeps_test b (λ e. keeps_so keeps_ue (λ a t h. (h, λ f. clash e f))) (λ e. keeps_so (keeps_inferred v) (λ a t h. (h.0, λ f. h.1)))

pub keeps_general : (i w : ℕ) → Keeps (λ a t. (t ≡ []) × (a < 2 ^ w)) (general i w)
unfolding general
keeps_general i w = keeps_late (λ v l. keeps_done (refl, l))

pub keeps_general_if : (b : Bool) (i w v : ℕ) → Keeps (λ a t. (t ≡ []) × (b ≡ true → a < 2 ^ w) × (b ≡ false → a ≡ v)) (general_if b i w v)
unfolding general_if
keeps_general_if b i w v = keeps_test b (λ e. keeps_so (keeps_general i w) (λ a t h. (h.0, λ f. h.1, λ f. clash e f))) (λ e. keeps_done (refl, λ f. clash f e, λ f. refl))

pub keeps_check : (b : Bool) (n : ℕ) → Keeps (λ a t. (t ≡ []) × (b ≡ true)) (check b n)
unfolding check
keeps_check b n = keeps_test b (λ e. keeps_done (refl, e)) (λ e. keeps_refuse)

pub keeps_ruled : {A : Type 0} {Q : A → List Token → Type 0} (rule b : Bool) (n : ℕ) {m : Syntax A} → Keeps Q m → Keeps Q (ruled rule b n m)
keeps_ruled rule b n {m} M = record { holds = λ s at e. M.holds s at (ruled_accepted rule b n m s at e) }

pub keeps_nothing : {Q : Unit {0} → List Token → Type 0} → Q tt [] → Keeps Q nothing
unfolding nothing
keeps_nothing h = keeps_done h

pub keeps_when : {Q : Unit {0} → List Token → Type 0} (flag : ℕ) {m : Syntax (Unit {0})} → Q tt [] → Keeps Q m → Keeps Q (when flag m)
unfolding when
keeps_when flag h M = keeps_test (eqb flag 0) (λ e. keeps_nothing h) (λ e. M)

pub keeps_aligned : (n : ℕ) → Silent (aligned n)
unfolding aligned
keeps_aligned n = keeps_align n (keeps_nothing refl)

pub keeps_keeps : (l : List ℕ) → Keeps (λ a t. numbers t ≡ l) (keeps l)
unfolding keeps numbers
keeps_keeps [] = keeps_nothing refl
keeps_keeps (v ∷ l) = keeps_keep (keeps_so (keeps_keeps l) (λ a t h. ap (λ (x : List ℕ). v ∷ x) h))
