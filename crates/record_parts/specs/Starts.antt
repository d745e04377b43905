-- Where a record's sections start and end, case by case.
use Prim.Native.Nat.{ℕ, zero, suc, ◌+◌, ◌-◌, ◌≤◌, ◌<◌}
use Rattle.std.specs.Prelude.{◌≡◌, refl, List, Bool, length}
use Rattle.std.proofs.Math.Path.{sym, ap}
use Rattle.std.proofs.Common.{◌∙◌, add-one, lt-ltb, le-ltb}
use Rattle.std.proofs.Math.Bool.{cond}
use native.Mathlib.Omega.{arith}
use Rattle.std.proofs.Math.ListN.{get_or}
use Rattle.vps_definition.specs.Record.{trailer_at, start_of, end_of}

pub start_of_general : (r : List ℕ) (k : ℕ) → k ≡ 0 → 0 ≡ start_of r k
unfolding start_of
start_of_general r zero e = refl
start_of_general r (suc k) e = absurd (omega (arith, e))

module _ (r : List ℕ) where
  -- sections 1 to 7, by the trailer
  pub start_listed : (k : ℕ) {t v : ℕ} → (k ≡ 0 → ⊥) → k - 1 < 7 → t ≡ length r - 8 → v ≡ get_or r (t + (k - 1)) 0 → v ≡ start_of r k
  unfolding start_of
  start_listed zero n h d e = absurd (n refl)
  start_listed (suc k) n h d e =
      e ∙ ap (λ (i : ℕ). get_or r (i + (suc k - 1)) 0) d ∙ ap (λ (i : ℕ). get_or r (length r - 8 + i) 0) one_less
      ∙ sym (ap (λ (b : Bool). cond b (trailer_at r k) (length r - 8)) (lt-ltb k 7 (omega (arith, h))))
    where
      one_less : suc k - 1 ≡ k
      one_less = omega arith

  -- the trailer
  pub start_of_trailer : (k : ℕ) {v : ℕ} → (k ≡ 0 → ⊥) → 7 ≤ k - 1 → v ≡ length r - 8 → v ≡ start_of r k
  unfolding start_of
  start_of_trailer zero n h e = absurd (n refl)
  start_of_trailer (suc k) n h e = e ∙ sym (ap (λ (b : Bool). cond b (trailer_at r k) (length r - 8)) (le-ltb k 7 (omega (arith, h))))

  pub end_at_next : (k : ℕ) {v : ℕ} → k < 8 → v ≡ start_of r (k + 1) → v ≡ end_of r k
  unfolding end_of
  end_at_next k h e = e ∙ ap (start_of r) (add-one k) ∙ sym (ap (λ (b : Bool). cond b (start_of r (suc k)) (length r)) (lt-ltb k 8 h))

  pub end_of_all : (k : ℕ) → 8 ≤ k → length r ≡ end_of r k
  unfolding end_of
  end_of_all k h = sym (ap (λ (b : Bool). cond b (start_of r (suc k)) (length r)) (le-ltb k 8 h))
