-- Two tables in a row: read and written one after the other.
use Rattle.std.specs.Prelude.{ℕ, zero, suc, ◌+◌, ◌≡◌, refl, List, [], Bool, true, false, eqb}
use Rattle.std.proofs.Common.{sym, ap, ◌∙◌}
use Rattle.bits.specs.Bits.{field_at, to_boundary}
use Rattle.bits.specs.Code.{Taken, code_at}
use Rattle.bits.specs.Code as Code
use Rattle.vps_definition.specs.Syntax.{Syntax, ◌>>=◌, Token, Outcome, keeping, run}
use Rattle.vps_definition.specs.Syntax.Syntax.{field, code, late, keep, mark, align, test, refuse, done}
use Rattle.vps_definition.specs.Syntax.Token.{number, section}
use Rattle.vps_definition.specs.Syntax.Outcome.{accepted, refused}
use Rattle.vps_laws.specs.Inversion.{not_accepted}
use Rattle.vps_laws.specs.Bind.{then_read, after_nothing, keeping_after, Bound, after_accepted}

keeping_then : {A B : Type 0} (u : Token) (R : Outcome A) (F : A → ℕ → Outcome B) → keeping u (then_read R F) ≡ then_read (keeping u R) F
unfolding keeping then_read
keeping_then u (accepted a t next) F = keeping_after u t (F a next)
keeping_then u (refused n l) F = refl

pub run_bind : {A B : Type 0} (m : Syntax A) (f : A → Syntax B) (s : List ℕ) (at : ℕ) → run (m >>= f) s at ≡ then_read (run m s at) (λ a next. run (f a) s next)
unfolding run ◌>>=◌ then_read
run_bind (field w plus k) f s at =
    let v : ℕ = field_at s at w + plus in
    ap (keeping (number v)) (run_bind (k v) f s (at + w)) ∙ keeping_then (number v) (run (k v) s (at + w)) _
run_bind {A} {B} (code plus k) f s at = go (λ v next. ap (keeping (number v)) (run_bind (k v) f s next) ∙ keeping_then (number v) (run (k v) s next) _) (code_at s at)
  where
    go : ((v next : ℕ) → keeping (number v) (run (k v >>= f) s next) ≡ then_read (keeping (number v) (run (k v) s next)) (λ a next. run (f a) s next))
        → (c : Taken) → elim c as (λ d. Outcome B) [ Code.Taken.taken v next ↦ keeping (number (v + plus)) (run (k (v + plus) >>= f) s next) | Code.Taken.refused n ↦ refused n [] ]
        ≡ then_read (elim c as (λ d. Outcome A) [ Code.Taken.taken v next ↦ keeping (number (v + plus)) (run (k (v + plus)) s next) | Code.Taken.refused n ↦ refused n [] ]) (λ a next. run (f a) s next)
    go h (Code.Taken.taken v next) = h (v + plus) next
    go h (Code.Taken.refused n) = refl
run_bind (late w find k) f s at = run_bind (k (field_at s at w)) f s (at + w)
run_bind (keep v m) f s at = ap (keeping (number v)) (run_bind m f s at) ∙ keeping_then (number v) (run m s at) _
run_bind (mark m) f s at = ap (keeping section) (run_bind m f s at) ∙ keeping_then section (run m s at) _
run_bind (align zero m) f s at = run_bind m f s (at + to_boundary at)
run_bind {A} {B} (align (suc n) m) f s at = go (run m s (at + to_boundary at)) _ _ (run_bind m f s (at + to_boundary at)) (eqb (field_at s at (to_boundary at)) 0)
  where
    go : (R : Outcome A) (S : Outcome B) (F : A → ℕ → Outcome B) → S ≡ then_read R F
        → (c : Bool) → elim c as (λ d. Outcome B) [ true ↦ S | false ↦ refused (suc n) [] ] ≡ then_read (elim c as (λ d. Outcome A) [ true ↦ R | false ↦ refused (suc n) [] ]) F
    go R S F h true = h
    go R S F h false = refl
run_bind (test true m n) f s at = run_bind m f s at
run_bind (test false m n) f s at = run_bind n f s at
run_bind (refuse n) f s at = refl
run_bind (done a) f s at = sym (after_nothing (run (f a) s at))

pub run_bound : {A B : Type 0} {b : B} {t : List Token} {next : ℕ} (m : Syntax A) (f : A → Syntax B) (s : List ℕ) (at : ℕ) → run (m >>= f) s at ≡ accepted b t next → Bound m f s at b t next
unfolding then_read
run_bound {A} {b} {t} {next} m f s at e = go (run m s at) refl (sym (run_bind m f s at) ∙ e)
  where
    go : (R : Outcome A) → run m s at ≡ R → then_read R (λ a q. run (f a) s q) ≡ accepted b t next → Bound m f s at b t next
    go (accepted a l q) i h =
        let K = after_accepted l (run (f a) s q) h in
        record { result = a; before = l; middle = q; behind = K.rest; first = i; second = K.inner; both = K.all }
    go (refused n l) i h = not_accepted h
