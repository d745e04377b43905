-- Only the bits used count: what agrees with an accepted reading without extension on them is read alike.
use Rattle.std.specs.Prelude.{ℕ, ◌+◌, ◌≤◌, ◌≡◌, List, ◌∷◌, ◌++◌, length, get_or, take}
use Rattle.std.proofs.Common.{sym, ap, ◌∙◌}
use Rattle.std.proofs.Math.Path.{subst⁻¹}
use Rattle.stuffing.specs.Machine.{unstuff_behind, zeros_read}
use Rattle.stuffing.specs.Laws.{unstuff_append}
use Rattle.bits.specs.FieldLaws.{Agree, agree_append}
use Rattle.vps_definition.specs.Rules.{Rules}
use Rattle.vps_definition.specs.Reading.{most_rbsp_bytes, read_unit_under}
use Rattle.vps_definition.specs.Reading.Reading.{accepts}
use Rattle.vps_laws.specs.Units.{unit_accepted}
use Rattle.vps_laws.specs.Claims.{rbsp_in, accepted_reads}
use Rattle.vps_laws.proofs.Claims.{bits_counted}
use Rattle.vps_laws.proofs.UsedBitsThen.{unit_used}

-- so bytes appended change nothing
pub unit_appended : (rules : Rules) (u x r : List ℕ) (n : ℕ) → read_unit_under rules u ≡ accepts r n → get_or r 8 0 ≡ 0 → length (rbsp_in (u ++ x)) ≤ most_rbsp_bytes → read_unit_under rules (u ++ x) ≡ accepts r n
unit_appended rules u x r n e z l =
    let A = unit_accepted rules u r n e in
    let s : List ℕ = A.payload in
    let q : u ++ x ≡ A.first ∷ A.second ∷ (s ++ x) = ap (λ (y : List ℕ). y ++ x) A.bytes in
    let w : rbsp_in (u ++ x) ≡ rbsp_in u ++ unstuff_behind (zeros_read 0 s) x = ap rbsp_in q ∙ unstuff_append s x ∙ ap (λ (y : List ℕ). rbsp_in y ++ unstuff_behind (zeros_read 0 s) x) (sym A.bytes) in
    unit_used rules u (u ++ x) r n e z (ap (take 2) q ∙ sym (ap (take 2) A.bytes))
    (subst⁻¹ (λ (y : List ℕ). Agree (rbsp_in u) y n) w (agree_append (rbsp_in u) _ n (bits_counted rules (rbsp_in u) r n (accepted_reads rules u r n e)).0)) l
