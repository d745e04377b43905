-- The facts behind the promises, in the promises' form.
use Rattle.std.specs.Prelude.{ℕ, zero, suc, ◌+◌, ◌≤◌, ◌<◌, ◌≡◌, refl, List, [], ◌∷◌, Bool, true, false, length, get_or, drop}
use Rattle.std.proofs.Common.{ap, ◌∙◌, arith}
use Rattle.refusals.specs.Answer.{Answer}
use Rattle.refusals.specs.Answer.Answer.{success, refusal}
use Rattle.stuffing.specs.Stuffing.{unstuff}
use Rattle.vps_definition.specs.Rules.{Rules}
use Rattle.vps_definition.specs.Layout.{from_section, entry_length, ids_from, layer_ids}
use Rattle.vps_definition.specs.Reading.{read_rbsp_under, most_rbsp_bytes, read_unit_under}
use Rattle.vps_definition.specs.Reading.Reading.{accepts}
use Rattle.vps_definition.specs.Writing.{write_record_under, well_formed_under}
use Rattle.vps_laws.specs.Reading.{Each}
use Rattle.vps_laws.specs.Keeps.{Below}
use Rattle.vps_laws.specs.Units.{unit_accepted}
use Rattle.vps_laws.specs.Indices.{RisingFrom}

-- ── Lists ─────────────────────────────────────────────────────────────
pub rising : (n : ℕ) (l : List ℕ) → RisingFrom n l → (i : ℕ) → i + 1 < length l → get_or l i 0 < get_or l (i + 1) 0
rising n [] h i k = absurd (omega arith)
rising n (a ∷ []) h i k = absurd (omega arith)
rising n (a ∷ b ∷ l) h zero k = omega (arith, h.1.0)
rising n (a ∷ b ∷ l) h (suc i) k =
    let e : suc i + 1 ≡ suc (i + 1) = omega arith in
    rw e (rising (a + 1) (b ∷ l) h.1 i (omega arith))

pub below : (n : ℕ) (l : List ℕ) → Below n l → (i : ℕ) → i < length l → get_or l i 0 < n
below n [] h i k = absurd (omega arith)
below n (a ∷ l) h zero k = h.0
below n (a ∷ l) h (suc i) k = below n l h.1 i (omega arith)

ids_from_many : (n i : ℕ) (x : List ℕ) → length (ids_from n i x) ≡ n
unfolding ids_from
ids_from_many zero i x = refl
ids_from_many (suc n) i x = ap suc (ids_from_many n (i + 1) (drop (entry_length i x) x))

pub ids_many : (r : List ℕ) → length (layer_ids r) ≡ get_or r 0 0
unfolding layer_ids
ids_many r = ids_from_many (get_or r 0 0) 0 (from_section r 1)

-- ── Accepted units ────────────────────────────────────────────────────
-- the RBSP of a unit
abbrev pub rbsp_in : List ℕ → List ℕ
rbsp_in u = unstuff (drop 2 u)

pub accepted_reads : (rules : Rules) (u r : List ℕ) (n : ℕ) → read_unit_under rules u ≡ accepts r n → read_rbsp_under rules (rbsp_in u) ≡ accepts r n
accepted_reads rules u r n e = let A = unit_accepted rules u r n e in ap (λ (x : List ℕ). read_rbsp_under rules (rbsp_in x)) A.bytes ∙ A.reads

pub accepted_short : (rules : Rules) (u r : List ℕ) (n : ℕ) → read_unit_under rules u ≡ accepts r n → length (rbsp_in u) ≤ most_rbsp_bytes
accepted_short rules u r n e = let A = unit_accepted rules u r n e in rw A.bytes A.short

pub written_well_formed : (rules : Rules) (r u : List ℕ) → write_record_under rules r ≡ success u → well_formed_under rules r ≡ true
unfolding well_formed_under
written_well_formed rules r u e = ap (λ (a : Answer (List ℕ)). elim a as (λ d. Bool) [ success b ↦ true | refusal n ↦ false ]) e

pub refused_ill_formed : (rules : Rules) (r : List ℕ) {n : ℕ} → write_record_under rules r ≡ refusal n → well_formed_under rules r ≡ false
unfolding well_formed_under
refused_ill_formed rules r e = ap (λ (a : Answer (List ℕ)). elim a as (λ d. Bool) [ success b ↦ true | refusal n ↦ false ]) e

pub well_formed_written : (rules : Rules) (r : List ℕ) → well_formed_under rules r ≡ true → (u : List ℕ) × (write_record_under rules r ≡ success u)
unfolding well_formed_under
well_formed_written rules r e = go (write_record_under rules r) refl e
  where
    go : (a : Answer (List ℕ)) → write_record_under rules r ≡ a → elim a as (λ d. Bool) [ success b ↦ true | refusal n ↦ false ] ≡ true → (u : List ℕ) × (write_record_under rules r ≡ success u)
    go (success u) f g = (u, f)
    go (refusal n) f g = absurd (let n : ◌≡◌ {A = ℕ} 0 1 = cc in omega arith)

-- ── Bits ──────────────────────────────────────────────────────────────
pub each_so : {A : Type 0} (P Q : A → Type 0) (l : List A) → ((a : A) → P a → Q a) → Each P l → Each Q l
each_so P Q [] f h = tt
each_so P Q (a ∷ l) f h = (f a h.0, each_so P Q l f h.1)
