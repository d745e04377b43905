-- Units: what an accepted one is, and that what is written reads back.
use Rattle.std.specs.Prelude.{ℕ, ◌*◌, ◌≡◌, List, length, drop}
use Rattle.std.proofs.Common.{sym, ◌∙◌}
use Rattle.std.proofs.Math.Path.{ap}
use Rattle.refusals.specs.Answer.Answer.{success}
use Rattle.stuffing.specs.Stuffing.{unstuff}
use Rattle.vps_definition.specs.Rules.{Rules}
use Rattle.vps_definition.specs.Vps.{vps_under}
use Rattle.vps_definition.specs.Reading.{read_rbsp_under, read_unit_under}
use Rattle.vps_definition.specs.Reading.Reading.{accepts}
use Rattle.vps_definition.specs.Writing.{extension_of, rbsp_of, write_record_under}
use Rattle.vps_laws.specs.Writing.{emit_run, emit_bits}
use Rattle.vps_laws.specs.Units.{read_packed, payload_of, unit_reads, written_made}

-- what was written is read as the record it was written from
pub written_read : (rules : Rules) (r u : List ℕ) → write_record_under rules r ≡ success u → read_unit_under rules u ≡ accepts r (8 * length (unstuff (drop 2 u)))
written_read rules r u e =
    let M = written_made rules r u e in
    let y : List ℕ = extension_of M.rest in
    let s : List ℕ = rbsp_of M.bits y in
    let R : read_rbsp_under rules s ≡ accepts r (8 * length s) =
    read_packed rules M.general M.tokens M.bits y (emit_bits (vps_under rules) r (drop 9 r) 0 M.emits) M.extension
    (λ s H l. emit_run (vps_under rules) r (drop 9 r) 0 M.emits s H l)
    ∙ ap (λ (l : List ℕ). accepts l (8 * length s)) M.is in
    let z : unstuff (drop 2 u) ≡ s = ap (λ (l : List ℕ). unstuff (drop 2 l)) M.unit ∙ payload_of s in
    ap (read_unit_under rules) M.unit ∙ unit_reads rules s r (8 * length s) M.short R ∙ ap (λ (l : List ℕ). accepts r (8 * length l)) (sym z)

-- so no two records have the same bytes
pub written_once : (rules : Rules) (r r' u : List ℕ) → write_record_under rules r ≡ success u → write_record_under rules r' ≡ success u → r ≡ r'
written_once rules r r' u e f = let i : accepts r (8 * length (unstuff (drop 2 u))) ≡ accepts r' (8 * length (unstuff (drop 2 u))) = sym (written_read rules r u e) ∙ written_read rules r' u f in cc
