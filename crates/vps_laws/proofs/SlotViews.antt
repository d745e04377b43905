-- The PTL slots by their view: each slot that was read goes from the view's place up to the next one's.
use Rattle.std.specs.Prelude.{ℕ, suc, ◌+◌, ◌<◌, ◌≡◌, refl, List, [], ◌∷◌, ◌++◌, eqb, get_or, drop}
use Rattle.std.proofs.Common.{sym, ap, ap₂, ◌∙◌, subst, subst₂}
use Rattle.vps_definition.specs.Syntax.{Token, numbers, skim}
use Rattle.vps_definition.specs.Syntax.Syntax.{test}
use Rattle.vps_definition.specs.Syntax.Token.{number}
use Rattle.vps_definition.specs.Words.{inferred, u_minus1}
use Rattle.vps_definition.specs.ProfileTierLevel.{profile_tier_level}
use Rattle.vps_definition.specs.Vps.{Header, slot_at, ptl_slot, ptl_section}
use Rattle.vps_definition.specs.Views.{again}
use Rattle.vps_laws.specs.Keeps.{Keeps, keeps_so, keeps_both, keeps_test, keeps_inferred, keeps_u_minus1, keeps_aligned}
use Rattle.vps_laws.proofs.Coherence.{local_skim}
use Rattle.vps_laws.proofs.Tables.{local_profile_tier_level}
use Rattle.vps_laws.proofs.Heads.{ahead_heads, slot_begins}
use Rattle.vps_laws.specs.Indices.{long_one, long_none, long_check}
use Rattle.vps_laws.specs.Places.{ReadAt, read_keeps, read_first, read_done, Passes, long_passes}
use Rattle.vps_laws.proofs.Places.{read_both, passes_loop, read_turn}
use Rattle.vps_laws.specs.SlotViews.{behind_slot, slot_again, SlotsRead}

-- a slot's first two numbers are its present flag and its max tid
slot_head : {p q : ℕ} {a : Unit {0}} {y z : List ℕ} → ReadAt (profile_tier_level p q) a y z → (get_or y 0 0 ≡ p) × (get_or y 1 0 ≡ q)
unfolding numbers
slot_head {p} {q} {y} {z} R =
    let B = read_keeps (slot_begins p q) R in
    let e : y ≡ p ∷ q ∷ (numbers B.0 ++ z) = R.is ∙ ap (λ (t : List Token). numbers t ++ z) B.1 in
    (ap (λ (x : List ℕ). get_or x 0 0) e, ap (λ (x : List ℕ). get_or x 1 0) e)

passes_slot : (r : List ℕ) (p q : ℕ) → Passes (behind_slot r) (profile_tier_level p q)
unfolding numbers
passes_slot r p q = record { pass = keeps_so (keeps_both (slot_begins p q) (local_skim (local_profile_tier_level p q))) (λ a t h z. past t z h.0 (h.1 r z)) }
  where
    past : (t : List Token) (z : List ℕ) → (u : List Token) × (t ≡ number p ∷ number q ∷ u) → skim (profile_tier_level p q) r (numbers t ++ z) ≡ z → behind_slot r (numbers t ++ z) ≡ z
    past t z b e =
        let f : numbers t ++ z ≡ p ∷ q ∷ (numbers b.0 ++ z) = ap (λ (l : List Token). numbers l ++ z) b.1 in
        ap₂ (λ (i j : ℕ). skim (profile_tier_level i j) r (numbers t ++ z)) (ap (λ (x : List ℕ). get_or x 0 0) f) (ap (λ (x : List ℕ). get_or x 1 0) f) ∙ e

pub slots_read : (h : Header) (total count : ℕ) (r y z : List ℕ) → ReadAt (ptl_section h total) count y z → SlotsRead r count y z
unfolding ptl_section ptl_slot
slots_read h total count r y z R =
    let B₁ = read_both (long_passes (long_one counted)) R in
    let n : ℕ = B₁.0 in
    let B₂ = read_both (long_passes (long_check _ _)) B₁.2 in
    let B₃ = read_both (long_passes (long_none (ahead_heads h n 0 [] refl).silent)) B₂.2 in
    let B₄ = read_both (long_passes (long_none (keeps_aligned _))) B₃.2 in
    let B₅ = read_both (passes_loop (behind_slot r) n 0 tt (λ i x. passes_slot r _ _)) B₄.2 in
    let D = read_done B₅.2 in
    let x : List ℕ = drop 1 y in
    let e : n ≡ count = D.0 in
    record {
      count_is = read_first counted B₁.1 ∙ e;
      slot = λ i l.
          let T = read_turn (behind_slot r) n 0 tt x (λ i x. passes_slot r _ _) B₅.1 i (subst (λ (m : ℕ). i < m) (sym e) l) in
          turned i _ _ T.4;
      ends = sym (slot_again r x count) ∙ ap (λ (m : ℕ). again (behind_slot r) m x) (sym e) ∙ D.1;
    }
  where
    counted : Keeps (λ a t. t ≡ number a ∷ []) (test (eqb h.layers 1) (inferred 1) (u_minus1 8))
    counted = keeps_test (eqb h.layers 1) (λ e. keeps_so (keeps_inferred 1) (λ a t h. h.0)) (λ e. keeps_so (keeps_u_minus1 8) (λ a t h. h.0))

    turned : (i p q : ℕ) → ReadAt (profile_tier_level p q) tt (again (behind_slot r) i (drop 1 y)) (again (behind_slot r) (suc i) (drop 1 y))
        → ReadAt (profile_tier_level (get_or (slot_at i r (drop 1 y)) 0 0) (get_or (slot_at i r (drop 1 y)) 1 0)) tt (slot_at i r (drop 1 y)) (slot_at (suc i) r (drop 1 y))
    turned i p q R =
        let R' : ReadAt (profile_tier_level p q) tt (slot_at i r (drop 1 y)) (slot_at (suc i) r (drop 1 y)) = subst₂ (λ (u v : List ℕ). ReadAt (profile_tier_level p q) tt u v) (slot_again r (drop 1 y) i) (slot_again r (drop 1 y) (suc i)) R in
        let H = slot_head R' in
        subst₂ (λ (a b : ℕ). ReadAt (profile_tier_level a b) tt (slot_at i r (drop 1 y)) (slot_at (suc i) r (drop 1 y))) (sym H.0) (sym H.1) R'
