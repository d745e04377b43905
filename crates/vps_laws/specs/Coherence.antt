-- Coherence, table by table: each late field stands in the record where it is looked for.
use Rattle.std.specs.Prelude.{ℕ, zero, suc, ◌+◌, ◌≡◌, refl, List, [], ◌++◌, Bool, true, false, eqb, get_or, drop}
use Rattle.std.proofs.Common.{◌∙◌, subst}
use Rattle.std.proofs.Math.Path.{subst⁻¹}
use Rattle.bits.specs.Bits.{field_at, to_boundary}
use Rattle.bits.specs.Code.{code_at}
use Rattle.vps_definition.specs.Syntax.{Syntax, Token, numbers, keeping, run}
use Rattle.vps_definition.specs.Syntax.Syntax.{field, code, late, keep, mark, align, test, refuse, done}
use Rattle.vps_definition.specs.Syntax.Token.{number, section}
use Rattle.vps_definition.specs.Syntax.Outcome.{accepted}
use Rattle.vps_definition.specs.Words.{u, u_minus1, ue, ue_minus1, check, nothing, when, aligned}
use Rattle.vps_laws.specs.Inversion.{keeping_accepted, guard_accepted, code_accepted}
use Rattle.vps_laws.specs.RoundTrip.{Coherent}
use Rattle.vps_laws.specs.Keeps.{Returns, Silent, keeps_so, keeps_late, keeps_test, keeps_done, keeps_check}

-- coherent, if the record stands to the result as P says
pub record Coh {A : Type 0} (P : List ℕ → A → Type 0) (m : Syntax A) : Type 0 where
  pub coh : {a : A} {t : List Token} {next : ℕ} (s : List ℕ) (at : ℕ) (r y : List ℕ) → run m s at ≡ accepted a t next → P r a → Coherent m s at r (numbers t ++ y)

-- whatever the record is
abbrev pub Any : {A : Type 0} → List ℕ → A → Type 0
Any r a = Unit {0}

-- coherent by itself
abbrev pub Local : {A : Type 0} → Syntax A → Type 0
Local m = Coh Any m

-- ── The steps of a table ──────────────────────────────────────────────
pub local_done : {A : Type 0} {P : List ℕ → A → Type 0} {a : A} → Coh P (done a)
unfolding Coherent
local_done = record { coh = λ s at r y e h. tt }

pub local_refuse : {A : Type 0} {P : List ℕ → A → Type 0} {n : ℕ} → Coh P (refuse n)
unfolding Coherent
local_refuse = record { coh = λ s at r y e h. tt }

pub local_mark : {A : Type 0} {P : List ℕ → A → Type 0} {m : Syntax A} → Coh P m → Coh P (mark m)
unfolding Coherent run numbers
local_mark {m} M = record {
  coh = λ s at r y e h.
      let K = keeping_accepted section (run m s at) e in
      subst⁻¹ (λ (l : List Token). Coherent m s at r (numbers l ++ y)) K.all (M.coh s at r y K.inner h);
}

pub local_keep : {A : Type 0} {P : List ℕ → A → Type 0} {v : ℕ} {m : Syntax A} → Coh P m → Coh P (keep v m)
unfolding Coherent run numbers
local_keep {v} {m} M = record {
  coh = λ s at r y e h.
      let K = keeping_accepted (number v) (run m s at) e in
      subst⁻¹ (λ (l : List Token). Coherent m s at r (drop 1 (numbers l ++ y))) K.all (M.coh s at r y K.inner h);
}

pub local_field : {A : Type 0} {P : List ℕ → A → Type 0} {w plus : ℕ} {k : ℕ → Syntax A} → ((v : ℕ) → Coh P (k v)) → Coh P (field w plus k)
unfolding Coherent run numbers
local_field {w} {plus} {k} M = record {
  coh = λ s at r y e h.
      let v : ℕ = field_at s at w + plus in
      let K = keeping_accepted (number v) (run (k v) s (at + w)) e in
      subst⁻¹ (λ (l : List Token). Coherent (k v) s (at + w) r (drop 1 (numbers l ++ y))) K.all ((M v).coh s (at + w) r y K.inner h);
}

pub local_code : {A : Type 0} {P : List ℕ → A → Type 0} {plus : ℕ} {k : ℕ → Syntax A} → ((v : ℕ) → Coh P (k v)) → Coh P (code plus k)
unfolding Coherent run numbers
local_code {plus} {k} M = record {
  coh = λ s at r y e h.
      let C = code_accepted (code_at s at) (λ v next. keeping (number (v + plus)) (run (k (v + plus)) s next)) e in
      let v : ℕ = C.value + plus in
      let K = keeping_accepted (number v) (run (k v) s C.behind) C.inner in
      rw (C.is, Coherent) (subst⁻¹ (λ (l : List Token). Coherent (k v) s C.behind r (drop 1 (numbers l ++ y))) K.all ((M v).coh s C.behind r y K.inner h));
}

pub local_align : {A : Type 0} {P : List ℕ → A → Type 0} (n : ℕ) {m : Syntax A} → Coh P m → Coh P (align n m)
unfolding Coherent run
local_align zero M = record { coh = λ s at r y e h. M.coh s (at + to_boundary at) r y e h }
local_align (suc n) {m} M = record {
  coh = λ s at r y e h.
      M.coh s (at + to_boundary at) r y (guard_accepted (eqb (field_at s at (to_boundary at)) 0) (suc n) (run m s (at + to_boundary at)) e).1 h;
}

pub local_test : {A : Type 0} {P : List ℕ → A → Type 0} (b : Bool) {m n : Syntax A} → Coh P m → Coh P n → Coh P (test b m n)
unfolding Coherent run
local_test true M N = record { coh = λ s at r y e h. M.coh s at r y e h }
local_test false M N = record { coh = λ s at r y e h. N.coh s at r y e h }

-- ── The words of a table ──────────────────────────────────────────────
pub local_u : (w : ℕ) → Local (u w)
unfolding u
local_u w = local_field (λ v. local_done)

pub local_u_minus1 : (w : ℕ) → Local (u_minus1 w)
unfolding u_minus1
local_u_minus1 w = local_field (λ v. local_done)

pub local_ue : Local ue
unfolding ue
local_ue = local_code (λ v. local_done)

pub local_ue_minus1 : Local ue_minus1
unfolding ue_minus1
local_ue_minus1 = local_code (λ v. local_done)

pub local_check : (b : Bool) (n : ℕ) → Local (check b n)
unfolding check
local_check b n = local_test b local_done local_refuse

pub local_nothing : Local nothing
unfolding nothing
local_nothing = local_done

pub local_when : (flag : ℕ) {m : Syntax (Unit {0})} → Local m → Local (when flag m)
unfolding when
local_when flag M = local_test (eqb flag 0) local_nothing M

pub local_aligned : (n : ℕ) → Local (aligned n)
unfolding aligned
local_aligned n = local_align n local_nothing

-- ── Late fields of the General section ────────────────────────────────
-- looked for in the whole record
pub coh_late : {w : ℕ} (find : List ℕ → ℕ) → Coh (λ r a. find r ≡ a) (late w (λ r x. find r) done)
unfolding run Coherent
coh_late {w} find = record { coh = λ s at r y e h. (h ∙ result e, tt) }
  where
    result : {a v : ℕ} {t : List Token} {at next : ℕ} → accepted v [] at ≡ accepted a t next → a ≡ v
    result e = cc

-- number i of the record
abbrev pub Stands : ℕ → List ℕ → ℕ → Type 0
Stands i r a = get_or r i 0 ≡ a

-- ── Late fields that are kept soon after ──────────────────────────────
-- a table that keeps nothing, coherent if the record and its rest stand to the result as P says
pub record Ahead {A : Type 0} (P : List ℕ → List ℕ → A → Type 0) (m : Syntax A) : Type 0 where
  pub silent : Silent m
  pub there : {a : A} {t : List Token} {next : ℕ} (s : List ℕ) (at : ℕ) (r x : List ℕ) → run m s at ≡ accepted a t next → P r x a → Coherent m s at r x

pub ahead_late : {A : Type 0} {P : List ℕ → List ℕ → A → Type 0} {w : ℕ} {find : List ℕ → List ℕ → ℕ} {k : ℕ → Syntax A}
    → ((v : ℕ) → Returns (λ a. (r x : List ℕ) → P r x a → find r x ≡ v) (k v)) → ((v : ℕ) → Ahead P (k v)) → Ahead P (late w find k)
unfolding run Coherent
ahead_late {w} R M = record {
  silent = keeps_late (λ v l. (M v).silent);
  there = λ s at r x e h. let v : ℕ = field_at s at w in ((R v).holds s (at + w) e r x h, (M v).there s (at + w) r x e h);
}

pub ahead_test : {A : Type 0} {P : List ℕ → List ℕ → A → Type 0} (b : Bool) {m n : Syntax A} → Ahead P m → Ahead P n → Ahead P (test b m n)
unfolding run Coherent
ahead_test true M N = record { silent = keeps_test true (λ e. M.silent) (λ e. N.silent); there = λ s at r x e h. M.there s at r x e h }
ahead_test false M N = record { silent = keeps_test false (λ e. M.silent) (λ e. N.silent); there = λ s at r x e h. N.there s at r x e h }

-- a table without late fields
pub ahead_local : {A : Type 0} {P : List ℕ → List ℕ → A → Type 0} {m : Syntax A} → Silent m → Local m → Ahead P m
unfolding numbers
ahead_local {m} S M = record {
  silent = S;
  there = λ s at r x e h. subst (λ (l : List Token). Coherent m s at r (numbers l ++ x)) (S.holds s at e) (M.coh s at r x e tt);
}

pub ahead_done : {A : Type 0} {P : List ℕ → List ℕ → A → Type 0} {a : A} → Ahead P (done a)
ahead_done = ahead_local (keeps_done refl) local_done

pub ahead_check : {P : List ℕ → List ℕ → Unit {0} → Type 0} (b : Bool) (n : ℕ) → Ahead P (check b n)
ahead_check b n = ahead_local (keeps_so (keeps_check b n) (λ a t h. h.0)) (local_check b n)

-- what is needed of the record may be said in other words, with what is known of the result
pub ahead_so : {A : Type 0} {P Q : List ℕ → List ℕ → A → Type 0} {m : Syntax A} → Ahead P m → Returns (λ a. (r x : List ℕ) → Q r x a → P r x a) m → Ahead Q m
ahead_so M R = record { silent = M.silent; there = λ s at r x e h. M.there s at r x e (R.holds s at e r x h) }

-- x begins with l
pub record Begins (l x : List ℕ) : Type 0 where
  pub rest : List ℕ
  pub is : x ≡ l ++ rest
