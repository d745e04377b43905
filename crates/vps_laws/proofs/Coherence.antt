-- Coherence, table by table: each late field stands in the record where it is looked for.
use Rattle.std.specs.Prelude.{ℕ, zero, suc, ◌+◌, ◌≡◌, List, [], ◌∷◌, ◌++◌, Bool, true, false, get_or}
use Rattle.std.proofs.Common.{sym, ap, ◌∙◌, subst, append_assoc, add-zero, arith}
use Rattle.std.proofs.Math.Path.{subst⁻¹}
use Rattle.vps_definition.specs.Syntax.{Syntax, ◌>>=◌, Token, numbers, run, skim, look}
use Rattle.vps_definition.specs.Syntax.Outcome.{accepted}
use Rattle.vps_definition.specs.Words.{inferred, u_if, ue_if, general, ruled, keeps, loop, repeat}
use Rattle.vps_laws.proofs.Bind.{run_bound}
use Rattle.vps_laws.specs.RoundTrip.{Coherent}
use Rattle.vps_laws.proofs.RoundTrip.{coherent_bind, skim_run, look_run}
use Rattle.vps_laws.specs.Keeps.{Keeps, Returns, numbers_append, keeps_any, keeps_so, keeps_done, keeps_keeps}
use Rattle.vps_laws.proofs.Keeps.{keeps_bind}
use Rattle.vps_laws.specs.Coherence.{Coh, Any, Local, local_done, local_refuse, local_mark, local_keep, local_field, local_code, local_align, local_test, local_u, local_u_minus1, local_ue, local_ue_minus1, local_check, local_nothing, local_when, local_aligned, coh_late, Stands, Ahead, ahead_done, Begins}

-- ── Tables in a row ───────────────────────────────────────────────────
-- what the first needs of the record follows from what the last result needs
pub coh_bind : {A B : Type 0} {P : List ℕ → B → Type 0} (Q : List ℕ → A → Type 0) {m : Syntax A} {f : A → Syntax B}
    → Coh Q m → ((a : A) → Returns (λ b. (r : List ℕ) → P r b → Q r a) (f a)) → ((a : A) → Coh P (f a)) → Coh P (m >>= f)
coh_bind Q {m} {f} M R F = record {
  coh = λ s at r y e h.
      let B = run_bound m f s at e in
      let z : List ℕ = numbers B.behind ++ y in
      let q : numbers B.before ++ z ≡ numbers _ ++ y = sym (append_assoc (numbers B.before) (numbers B.behind) y) ∙ ap (λ (l : List ℕ). l ++ y) (sym (numbers_append B.before B.behind) ∙ ap numbers (sym B.both)) in
      subst (λ (l : List ℕ). Coherent (m >>= f) s at r l) q
      (coherent_bind m f s at r z B.first
      (M.coh s at r z B.first ((R B.result).holds s B.middle B.second r h))
      ((F B.result).coh s B.middle r y B.second h));
}

pub local_bind : {A B : Type 0} {P : List ℕ → B → Type 0} {m : Syntax A} {f : A → Syntax B} → Local m → ((a : A) → Coh P (f a)) → Coh P (m >>= f)
local_bind M F = coh_bind Any M (λ a. keeps_any (λ b t r h. tt)) F

pub local_loop : {A : Type 0} {f : ℕ → A → Syntax A} (n i : ℕ) (x : A) → ((i : ℕ) (x : A) → Local (f i x)) → Local (loop f n i x)
unfolding loop
local_loop zero i x F = local_done
local_loop (suc n) i x F = local_bind (F i x) (λ y. local_loop n (i + 1) y F)

pub local_inferred : (v : ℕ) → Local (inferred v)
unfolding inferred
local_inferred v = local_keep local_done

pub local_u_if : (b : Bool) (w v : ℕ) → Local (u_if b w v)
unfolding u_if
local_u_if b w v = local_test b (local_u w) (local_inferred v)

pub local_ue_if : (b : Bool) (v : ℕ) → Local (ue_if b v)
unfolding ue_if
local_ue_if b v = local_test b local_ue (local_inferred v)

pub local_ruled : {A : Type 0} {P : List ℕ → A → Type 0} (rule b : Bool) (n : ℕ) {m : Syntax A} → Coh P m → Coh P (ruled rule b n m)
unfolding ruled
local_ruled true b n M = local_bind (local_check b n) (λ c. M)
local_ruled false b n M = M

pub local_keeps : (l : List ℕ) → Local (keeps l)
unfolding keeps
local_keeps [] = local_nothing
local_keeps (v ∷ l) = local_keep (local_keeps l)

pub local_repeat : (n : ℕ) {m : Syntax (Unit {0})} → Local m → Local (repeat n m)
unfolding repeat
local_repeat n M = local_loop n 0 tt (λ i x. M)

-- a table of words is coherent by itself, by `search words depth 40`
pub ruleset words = (
  local_bind,
  local_u,
  local_u_minus1,
  local_ue,
  local_ue_minus1,
  local_inferred,
  local_u_if,
  local_ue_if,
  local_check,
  local_nothing,
  local_when,
  local_aligned,
  local_keeps,
  local_repeat,
  local_loop,
  local_done,
  local_refuse,
  local_mark,
  local_keep,
  local_field,
  local_code,
  local_align,
  local_test,
)

-- behind a table that is coherent by itself `skim` finds the record's rest
pub local_skim : {A : Type 0} {m : Syntax A} → Local m → Keeps (λ a t. (r y : List ℕ) → skim m r (numbers t ++ y) ≡ y) m
local_skim {m} M = record { holds = λ s at e r y. skim_run m s at r y e (M.coh s at r y e tt) }

-- and `look` finds what the table ended in, of a record that stands to it as it needs
pub coh_look : {A : Type 0} {P : List ℕ → A → Type 0} {m : Syntax A} {a : A} {t : List Token} {next : ℕ} → Coh P m → (s : List ℕ) (at : ℕ) → run m s at ≡ accepted a t next
    → (d : A) (r y : List ℕ) → P r a → look d m r (numbers t ++ y) ≡ a
coh_look {m} M s at e d r y h = look_run d m s at r y e (M.coh s at r y e h)

pub coh_general : (i w : ℕ) → Coh (Stands i) (general i w)
unfolding general
coh_general i w = coh_late (λ r. get_or r i 0)

-- behind a table that keeps nothing the record's rest is the same
pub silent_bind : {A B : Type 0} {a : A} {t : List Token} {next : ℕ} (m : Syntax A) (f : A → Syntax B) (s : List ℕ) (at : ℕ) (r x : List ℕ) → run m s at ≡ accepted a t next → t ≡ []
    → Coherent m s at r x → Coherent (f a) s next r x → Coherent (m >>= f) s at r x
unfolding numbers
silent_bind {t} m f s at r x e n h g =
    let q : numbers t ++ x ≡ x = ap (λ (l : List Token). numbers l ++ x) n in
    subst (λ (l : List ℕ). Coherent (m >>= f) s at r l) q (coherent_bind m f s at r x e (subst⁻¹ (λ (l : List ℕ). Coherent m s at r l) q h) g)

pub ahead_bind : {A B : Type 0} {P : List ℕ → List ℕ → B → Type 0} (Q : List ℕ → List ℕ → A → Type 0) {m : Syntax A} {f : A → Syntax B}
    → Ahead Q m → ((a : A) → Returns (λ b. (r x : List ℕ) → P r x b → Q r x a) (f a)) → ((a : A) → Ahead P (f a)) → Ahead P (m >>= f)
ahead_bind Q {m} {f} M R F = record {
  silent = keeps_bind M.silent (λ a x e. keeps_so (F a).silent (λ b y h. ap (λ (l : List Token). l ++ y) e ∙ h));
  there = λ s at r x e h.
      let B = run_bound m f s at e in
      silent_bind m f s at r x B.first (M.silent.holds s at B.first)
      (M.there s at r x B.first ((R B.result).holds s B.middle B.second r x h))
      ((F B.result).there s B.middle r x B.second h);
}

-- in turns: where P holds of the index and the state behind a turn, it held before the turn
pub ahead_loop : {A : Type 0} {f : ℕ → A → Syntax A} (P : ℕ → List ℕ → List ℕ → A → Type 0) (n i : ℕ) (y : A) → ((j : ℕ) (y : A) → Ahead (P (j + 1)) (f j y))
    → ((j : ℕ) (y : A) → Returns (λ z. (r x : List ℕ) → P (j + 1) r x z → P j r x y) (f j y)) → Ahead (P (i + n)) (loop f n i y)
unfolding loop
ahead_loop P zero i y F R = ahead_done
ahead_loop {A} {f} P (suc n) i y F R =
    let e : i + 1 + n ≡ i + suc n = omega arith in
    subst (λ (k : ℕ). Ahead (P k) (f i y >>= loop f n (i + 1))) e
    (ahead_bind (P (i + 1)) (F i y) (λ z. back n (i + 1) z) (λ z. ahead_loop P n (i + 1) z F R))
  where
    back : (n i : ℕ) (z : A) → Returns (λ b. (r x : List ℕ) → P (i + n) r x b → P i r x z) (loop f n i z)
    back zero i z = keeps_done (λ r x h. subst (λ (k : ℕ). P k r x z) (add-zero i) h)
    back (suc n) i z = keeps_bind (R i z) (λ a t g. keeps_so (back n (i + 1) a) (λ b l h r x p. g r x (h r x (let e : i + suc n ≡ i + 1 + n = omega arith in subst (λ (k : ℕ). P k r x b) e p))))

-- coded ahead of a table that keeps them
pub coh_ahead : {A B : Type 0} {P : List ℕ → List ℕ → A → Type 0} {Q : List ℕ → B → Type 0} {m : Syntax A} {f : A → Syntax B}
    → Ahead P m → ((a : A) → Keeps (λ b t. (r y : List ℕ) → P r (numbers t ++ y) a) (f a)) → ((a : A) → Coh Q (f a)) → Coh Q (m >>= f)
coh_ahead {m} {f} M K F = record {
  coh = λ s at r y e h.
      let B = run_bound m f s at e in
      let n = M.silent.holds s at B.first in
      let x : List ℕ = numbers B.behind ++ y in
      subst⁻¹ (λ (l : List Token). Coherent (m >>= f) s at r (numbers l ++ y)) (B.both ∙ ap (λ (l : List Token). l ++ B.behind) n)
      (silent_bind m f s at r x B.first n
      (M.there s at r x B.first ((K B.result).holds s B.middle B.second r y))
      ((F B.result).coh s B.middle r y B.second h));
}

-- numbers that are kept stand at the front of the record's rest
pub keeps_begins : {B : Type 0} (l : List ℕ) (f : Unit {0} → Syntax B) → Keeps (λ b t. (y : List ℕ) → Begins l (numbers t ++ y)) (keeps l >>= f)
keeps_begins l f = keeps_bind (keeps_keeps l) (λ a x e. keeps_any (λ b z y. record { rest = numbers z ++ y; is = front x z y e }))
  where
    front : (x z : List Token) (y : List ℕ) → numbers x ≡ l → numbers (x ++ z) ++ y ≡ l ++ (numbers z ++ y)
    front x z y e = ap (λ (l : List ℕ). l ++ y) (numbers_append x z ∙ ap (λ (l : List ℕ). l ++ numbers z) e) ∙ append_assoc l (numbers z) y
