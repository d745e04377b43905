-- Readings by a given rule of codes, for comparing a rule with the one of before. By the definition's own rule they are the definition's.
use Rattle.std.specs.Prelude.{ℕ, zero, suc, ◌+◌, ◌≡◌, refl, List, [], true, false, eqb}
use Rattle.std.proofs.Common.{ap}
use Rattle.bits.specs.Bits.{field_at, to_boundary}
use Rattle.bits.specs.Code.{Taken, code_at}
use Rattle.bits.specs.Code as Code
use Rattle.vps_definition.specs.Rules.{Rules}
use Rattle.vps_definition.specs.Syntax.{Syntax, Outcome, keeping, run}
use Rattle.vps_definition.specs.Syntax.Syntax.{field, code, late, keep, mark, align, test, refuse, done}
use Rattle.vps_definition.specs.Syntax.Token.{number, section}
use Rattle.vps_definition.specs.Syntax.Outcome.{accepted, refused}
use Rattle.vps_definition.specs.Vps.{vps_under}
use Rattle.vps_definition.specs.Reading.{Reading, closed}

-- a table
unfoldable pub run_with : {A : Type 0} → (List ℕ → ℕ → Taken) → Syntax A → List ℕ → ℕ → Outcome A
run_with codes (field w plus k) s at = let v = field_at s at w + plus in keeping (number v) (run_with codes (k v) s (at + w))
run_with codes (code plus k) s at =
    elim (codes s at) [
      | Code.Taken.taken v next ↦ keeping (number (v + plus)) (run_with codes (k (v + plus)) s next)
      | Code.Taken.refused n ↦ refused n []
    ]
run_with codes (late w find k) s at = run_with codes (k (field_at s at w)) s (at + w)
run_with codes (keep v m) s at = keeping (number v) (run_with codes m s at)
run_with codes (mark m) s at = keeping section (run_with codes m s at)
run_with codes (align zero m) s at = run_with codes m s (at + to_boundary at)
run_with codes (align (suc n) m) s at =
    elim (eqb (field_at s at (to_boundary at)) 0) [
      | true ↦ run_with codes m s (at + to_boundary at)
      | false ↦ refused (suc n) []
    ]
run_with codes (test true m n) s at = run_with codes m s at
run_with codes (test false m n) s at = run_with codes n s at
run_with codes (refuse n) s at = refused n []
run_with codes (done a) s at = accepted a [] at

pub run_with_lem : {A : Type 0} (m : Syntax A) (s : List ℕ) (at : ℕ) → run m s at ≡ run_with code_at m s at
unfolding run run_with
run_with_lem (field w plus k) s at = let v : ℕ = field_at s at w + plus in ap (keeping (number v)) (run_with_lem (k v) s (at + w))
run_with_lem {A} (code plus k) s at = go (λ v next. run_with_lem (k v) s next) (code_at s at)
  where
    go : ((v next : ℕ) → run (k v) s next ≡ run_with code_at (k v) s next)
        → (c : Taken) → ◌≡◌ {A = Outcome A} (elim c as (λ d. Outcome A) [ Code.Taken.taken v next ↦ keeping (number (v + plus)) (run (k (v + plus)) s next) | Code.Taken.refused n ↦ refused n [] ])
        (elim c as (λ d. Outcome A) [ Code.Taken.taken v next ↦ keeping (number (v + plus)) (run_with code_at (k (v + plus)) s next) | Code.Taken.refused n ↦ refused n [] ])
    go h (Code.Taken.taken v next) = ap (keeping (number (v + plus))) (h (v + plus) next)
    go h (Code.Taken.refused n) = refl
run_with_lem (late w find k) s at = run_with_lem (k (field_at s at w)) s (at + w)
run_with_lem (keep v m) s at = ap (keeping (number v)) (run_with_lem m s at)
run_with_lem (mark m) s at = ap (keeping section) (run_with_lem m s at)
run_with_lem (align zero m) s at = run_with_lem m s (at + to_boundary at)
run_with_lem {A} (align (suc n) m) s at = ap (λ (R : Outcome A). elim (eqb (field_at s at (to_boundary at)) 0) as (λ d. Outcome A) [ true ↦ R | false ↦ refused (suc n) [] ]) (run_with_lem m s (at + to_boundary at))
run_with_lem (test true m n) s at = run_with_lem m s at
run_with_lem (test false m n) s at = run_with_lem n s at
run_with_lem (refuse n) s at = refl
run_with_lem (done a) s at = refl

-- an RBSP
unfoldable pub read_rbsp_with : (List ℕ → ℕ → Taken) → Rules → List ℕ → Reading
read_rbsp_with codes rules s = closed s (run_with codes (vps_under rules) s 0)
