-- Only the bits used count: what agrees with an accepted reading without extension on them is read alike.
use Rattle.std.specs.Prelude.{ℕ, ◌/◌, ◌≤◌, ◌≡◌, List, [], ◌∷◌, length, get_or, take}
use Rattle.std.proofs.Common.{ap, ◌∙◌, arith}
use Rattle.bits.specs.FieldLaws.{Agree}
use Rattle.vps_definition.specs.Rules.{Rules}
use Rattle.vps_definition.specs.Reading.{read_rbsp_under, most_rbsp_bytes, vps_nut, read_unit_under}
use Rattle.vps_definition.specs.Reading.Reading.{accepts}
use Rattle.vps_laws.specs.Units.{unit_accepted, accepted_unit}
use Rattle.vps_laws.specs.Claims.{rbsp_in, accepted_reads}
use Rattle.vps_laws.proofs.UsedBits.{rbsp_used}

-- ── Units ─────────────────────────────────────────────────────────────
-- with the same two bytes of header, within the length limit
pub unit_used : (rules : Rules) (u v r : List ℕ) (n : ℕ) → read_unit_under rules u ≡ accepts r n → get_or r 8 0 ≡ 0 → take 2 v ≡ take 2 u → Agree (rbsp_in u) (rbsp_in v) n → length (rbsp_in v) ≤ most_rbsp_bytes
    → read_unit_under rules v ≡ accepts r n
unit_used rules u v r n e z t h l =
    let A = unit_accepted rules u r n e in
    go v (t ∙ ap (take 2) A.bytes) A.type l (rbsp_used rules (rbsp_in u) (rbsp_in v) r n (accepted_reads rules u r n e) z h)
  where
    other : {A : Type 0} → ◌≡◌ {A = ℕ} 0 1 → A
    other e = absurd (omega arith)

    go : {a b : ℕ} (v : List ℕ) → take 2 v ≡ a ∷ b ∷ [] → b / 8 ≡ vps_nut → length (rbsp_in v) ≤ most_rbsp_bytes → read_rbsp_under rules (rbsp_in v) ≡ accepts r n → read_unit_under rules v ≡ accepts r n
    go [] t y l R = other cc
    go (c ∷ []) t y l R = other cc
    go {b = b} (c ∷ d ∷ s) t y l R = let i : d ≡ b = cc in accepted_unit rules c d s r n (ap (λ (k : ℕ). k / 8) i ∙ y) l R
