-- The order of checks is the table's: the first condition that fails gives the refusal, whatever stands behind it.
use Rattle.std.specs.Prelude.{ℕ, ◌/◌, ◌≤◌, ◌<◌, ◌≡◌, refl, List, [], ◌∷◌, Bool, true, false, length, get_or, drop}
use Rattle.std.proofs.Common.{ap, arith, eq-eqb, ne_eqb, le-leb}
use Rattle.std.proofs.lemmas.Bool.{lt-leb}
use Rattle.refusals.specs.Number.{unit_too_short, not_a_vps, rbsp_too_long}
use Rattle.stuffing.specs.Stuffing.{unstuff}
use Rattle.vps_definition.specs.Rules.{Rules}
use Rattle.vps_definition.specs.Syntax.{Token, run}
use Rattle.vps_definition.specs.Syntax.Outcome.{accepted, refused}
use Rattle.vps_definition.specs.Words.{check}
use Rattle.vps_definition.specs.Vps.{vps_under}
use Rattle.vps_definition.specs.Reading.{closed, read_rbsp_under, most_rbsp_bytes, limited_by, vps_nut, unit_by, read_unit_under}
use Rattle.vps_definition.specs.Reading.Reading.{refuses}

-- a check passes, and takes and keeps nothing; or it refuses
pub check_passes : (b : Bool) (n : ℕ) (s : List ℕ) (at : ℕ) → b ≡ true → run (check b n) s at ≡ accepted tt [] at
unfolding run check
check_passes b n s at e = rw e refl

pub check_refuses : (b : Bool) (n : ℕ) (s : List ℕ) (at : ℕ) → b ≡ false → run (check b n) s at ≡ refused n []
unfolding run check
check_refuses b n s at e = rw e refl

-- ── A unit ────────────────────────────────────────────────────────────
-- refusals 1, 2 and 3 go by the header and the length alone; any other unit is read as its RBSP
pub record HeaderFirst (rules : Rules) (u : List ℕ) : Type 0 where
  pub short : length u < 2 → read_unit_under rules u ≡ refuses unit_too_short
  pub other : 2 ≤ length u → (get_or u 1 0 / 8 ≡ vps_nut → ⊥) → read_unit_under rules u ≡ refuses not_a_vps
  pub long : 2 ≤ length u → get_or u 1 0 / 8 ≡ vps_nut → most_rbsp_bytes < length (unstuff (drop 2 u)) → read_unit_under rules u ≡ refuses rbsp_too_long
  pub within : 2 ≤ length u → get_or u 1 0 / 8 ≡ vps_nut → length (unstuff (drop 2 u)) ≤ most_rbsp_bytes → read_unit_under rules u ≡ read_rbsp_under rules (unstuff (drop 2 u))

pub header_first : (rules : Rules) (u : List ℕ) → HeaderFirst rules u
unfolding unit_by limited_by
header_first rules [] = record { short = λ l. refl; other = λ l h. absurd (omega arith); long = λ l h k. absurd (omega arith); within = λ l h k. absurd (omega arith) }
header_first rules (a ∷ []) = record { short = λ l. refl; other = λ l h. absurd (omega arith); long = λ l h k. absurd (omega arith); within = λ l h k. absurd (omega arith) }
header_first rules (a ∷ b ∷ s) = record {
  short = λ l. absurd (omega arith);
  other = λ l h. rw (ne_eqb (b / 8) vps_nut h, unit_by) refl;
  long = λ l h k. rw (eq-eqb (b / 8) vps_nut h, unit_by) (rw (lt-leb (length (unstuff s)) most_rbsp_bytes k, limited_by) refl);
  within = λ l h k. rw (eq-eqb (b / 8) vps_nut h, unit_by) (rw (le-leb (length (unstuff s)) most_rbsp_bytes k, limited_by) refl);
}

-- the table's refusal stands before the extension and the trailing bits
pub table_before_end : (rules : Rules) {n : ℕ} {t : List Token} (s : List ℕ) → run (vps_under rules) s 0 ≡ refused n t → read_rbsp_under rules s ≡ refuses n
unfolding read_rbsp_under closed
table_before_end rules s e = ap (closed s) e
