-- The facts behind the promises, in the promises' form.
use Rattle.std.specs.Prelude.{ℕ, ◌*◌, ◌≤◌, ◌≡◌, refl, List, length}
use Rattle.std.proofs.Common.{sym, arith}
use Rattle.refusals.specs.Answer.Answer.{success}
use Rattle.bits.specs.TrailingLaws.{trails_inside}
use Rattle.vps_definition.specs.Rules.{Rules}
use Rattle.vps_definition.specs.Syntax.{spans, run}
use Rattle.vps_definition.specs.Vps.{vps_under}
use Rattle.vps_definition.specs.Reading.{closed_spans, rbsp_spans_under, read_rbsp_under, read_unit_under}
use Rattle.vps_definition.specs.Reading.Reading.{accepts}
use Rattle.vps_definition.specs.Writing.{unit_of, write_record_under}
use Rattle.vps_laws.specs.Reading.{Each, Within, Gapless, gapless_join, gapless_inside}
use Rattle.vps_laws.proofs.Reading.{spans_gapless}
use Rattle.vps_laws.specs.Units.{rbsp_parts}
use Rattle.vps_laws.proofs.Accepted.{rbsp_rewritten}
use Rattle.vps_laws.specs.Laid.{Sound}
use Rattle.vps_laws.proofs.Laid.{record_sound}
use Rattle.vps_laws.specs.Claims.{rbsp_in, accepted_reads, accepted_short, each_so}

pub accepted_sound : (rules : Rules) (u r : List ℕ) (n : ℕ) → read_unit_under rules u ≡ accepts r n → Sound r
accepted_sound rules u r n e =
    let P = rbsp_parts rules (rbsp_in u) r n (accepted_reads rules u r n e) in
    rw P.is (record_sound rules (rbsp_in u) P.general P.tokens P.behind _ P.reads)

pub accepted_written : (rules : Rules) (u r : List ℕ) (n : ℕ) → read_unit_under rules u ≡ accepts r n → (v : List ℕ) × (write_record_under rules r ≡ success v)
accepted_written rules u r n e =
    let W = rbsp_rewritten rules (rbsp_in u) r n (accepted_short rules u r n e) (accepted_reads rules u r n e) in
    (unit_of W.rbsp, W.written)

-- the table's bits, the extension's and the trailing bits, from the first bit to the last one used
pub spans_used : (rules : Rules) (s r : List ℕ) (n : ℕ) → read_rbsp_under rules s ≡ accepts r n → Gapless 0 (rbsp_spans_under rules s) n
unfolding rbsp_spans_under closed_spans
spans_used rules s r n e =
    let m = vps_under rules in
    let P = rbsp_parts rules s r n e in
    gapless_join 0 P.behind n (spans m s 0) (closed_spans s (run m s 0)) (spans_gapless m s 0 P.reads) (rw P.reads (refl, (omega arith, (refl, (omega arith, sym P.ends.behind)))))

pub bits_counted : (rules : Rules) (s r : List ℕ) (n : ℕ) → read_rbsp_under rules s ≡ accepts r n → (n ≤ 8 * length s) × Each (λ sp. sp.to ≤ n) (rbsp_spans_under rules s)
bits_counted rules s r n e = (
  trails_inside s _ n (rbsp_parts rules s r n e).ends,
  each_so (Within 0 n) (λ sp. sp.to ≤ n) (rbsp_spans_under rules s) (λ sp h. h.2) (gapless_inside 0 0 n (rbsp_spans_under rules s) (omega arith) (spans_used rules s r n e)),
)
