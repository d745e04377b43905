-- Accepted units: their records are written.
use Rattle.std.specs.Prelude.{ℕ, ◌+◌, ◌*◌, ◌≤◌, ◌<◌, ◌≡◌, refl, List, [], ◌∷◌, ◌++◌, true, false, length, get_or}
use Rattle.std.proofs.Common.{ap, ◌∙◌, append_assoc, arith, le-leb}
use Rattle.std.proofs.Math.ListN.{get_or-append}
use Rattle.std.proofs.Math.Seq.{take-append_seam}
use Rattle.refusals.specs.Answer.{Answer}
use Rattle.refusals.specs.Answer.Answer.{success, refusal}
use Rattle.refusals.specs.Number.{not_well_formed}
use Rattle.lists.specs.Same.{same_refl}
use Rattle.vps_definition.specs.Rules.{Rules}
use Rattle.vps_definition.specs.Syntax.{Token, numbers, starts}
use Rattle.vps_definition.specs.Syntax.Written.{wrote}
use Rattle.vps_definition.specs.Record.{body_of, record_of}
use Rattle.vps_definition.specs.Reading.{most_rbsp_bytes}
use Rattle.vps_definition.specs.Writing.{extension_good, extension_of, rbsp_of, unit_of, limited, parts_good, finished, write_record_under}
use Rattle.vps_laws.specs.Whole.{Begun}

-- ── The parts of a record ─────────────────────────────────────────────
-- behind the General section and the table's numbers
abbrev pub closing : List ℕ → List Token → List ℕ → List ℕ
closing general t e = (length e ∷ e) ++ (starts 9 t ++ ((length (body_of general t e) + 8) ∷ []))

pub record_parts : (general : List ℕ) (t : List Token) (e : List ℕ) → record_of general t e ≡ general ++ (numbers t ++ closing general t e)
unfolding record_of body_of
record_parts general t e =
    let z : List ℕ = (length (body_of general t e) + 8) ∷ [] in
    append_assoc (general ++ numbers t ++ (length e ∷ e)) (starts 9 t) z
    ∙ append_assoc (general ++ numbers t) (length e ∷ e) (starts 9 t ++ z)
    ∙ append_assoc general (numbers t) ((length e ∷ e) ++ (starts 9 t ++ z))

-- what is known of a General section that was read
pub record General (general : List ℕ) : Type 0 where
  pub nine : length general ≡ 9
  pub flag : get_or general 8 0 < 2

pub begun : (general x : List ℕ) → length general ≡ 9 → Begun (general ++ x) general
begun general x l = record { at = λ i h. get_or-append general x 0 i (omega arith) }

pub extension_of_lem : (general : List ℕ) (t : List Token) (e : List ℕ) → extension_of (closing general t e) ≡ e
unfolding extension_of
extension_of_lem general t e = take-append_seam e (starts 9 t ++ ((length (body_of general t e) + 8) ∷ []))

-- ── What was read is written ──────────────────────────────────────────
pub finished_of : (r general : List ℕ) (t : List Token) (y b e : List ℕ) → extension_of y ≡ e → record_of general t e ≡ r → extension_good (get_or general 8 0) e ≡ true
    → length (rbsp_of b e) ≤ most_rbsp_bytes → finished r (wrote general t y b) ≡ success (unit_of (rbsp_of b e))
unfolding finished parts_good limited
finished_of r general t y b e x i g l =
    ap (λ (z : List ℕ). elim (parts_good general t z r) as (λ d. Answer (List ℕ)) [ true ↦ limited (rbsp_of b z) | false ↦ refusal not_well_formed ]) x
    ∙ rw (i, same_refl r, g) (rw (le-leb (length (rbsp_of b e)) most_rbsp_bytes l, limited) refl)

-- the unit that an RBSP's record is written as
pub record Rewritten (rules : Rules) (s r : List ℕ) (n : ℕ) : Type 0 where
  pub rbsp : List ℕ
  pub written : write_record_under rules r ≡ success (unit_of rbsp)
  pub size : n ≡ 8 * length rbsp
