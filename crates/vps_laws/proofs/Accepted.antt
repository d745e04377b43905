-- Accepted units: their records are written.
use Rattle.std.specs.Prelude.{ℕ, ◌+◌, ◌*◌, ◌≤◌, ◌≡◌, List, ◌++◌, true, length, get_or, drop}
use Rattle.std.proofs.Common.{sym, ap, ◌∙◌, arith}
use Rattle.std.proofs.Math.Path.{subst⁻¹}
use Rattle.std.proofs.Math.Seq.{drop-append_seam}
use Rattle.bits.specs.Bits.{to_boundary}
use Rattle.bits.specs.TrailingLaws.{trails_inside}
use Rattle.vps_definition.specs.Rules.{Rules}
use Rattle.vps_definition.specs.Syntax.{Token, numbers, run, emit}
use Rattle.vps_definition.specs.Syntax.Outcome.{accepted}
use Rattle.vps_definition.specs.Vps.{vps_under}
use Rattle.vps_definition.specs.Reading.{bits_at, extension_bits, read_rbsp_under, most_rbsp_bytes}
use Rattle.vps_definition.specs.Reading.Reading.{accepts}
use Rattle.vps_definition.specs.Writing.{extension_good, rbsp_of, finished, write_record_under}
use Rattle.vps_laws.specs.Writing.{emit_bits}
use Rattle.vps_laws.specs.RoundTrip.{Emits}
use Rattle.vps_laws.proofs.RoundTrip.{run_emit}
use Rattle.vps_laws.specs.Keeps.{keeps_general}
use Rattle.vps_laws.specs.Extension.{bits_at_length, good_bits, extension_good_lem}
use Rattle.vps_laws.specs.Units.{rbsp_parts, packed}
use Rattle.vps_laws.proofs.Sections.{sections}
use Rattle.vps_laws.specs.Whole.{Begun}
use Rattle.vps_laws.proofs.Whole.{coh_vps}
use Rattle.vps_laws.specs.Accepted.{closing, record_parts, General, begun, extension_of_lem, finished_of, Rewritten}

pub general_read : (rules : Rules) (s general : List ℕ) (t : List Token) (next : ℕ) → run (vps_under rules) s 0 ≡ accepted general t next → General general
general_read rules s general t next e =
    let S = sections rules s general t next e in
    let f = ((keeps_general 8 1).holds s S.at₆ S.extension_read).1 in
    record { nine = ap length S.general_is; flag = rw S.general_is f }

pub rbsp_rewritten : (rules : Rules) (s r : List ℕ) (n : ℕ) → length s ≤ most_rbsp_bytes → read_rbsp_under rules s ≡ accepts r n → Rewritten rules s r n
unfolding write_record_under
rbsp_rewritten rules s r n l R =
    let P = rbsp_parts rules s r n R in
    let g : List ℕ = P.general in
    let t : List Token = P.tokens in
    let at : ℕ = P.behind in
    let G = general_read rules s g t at P.reads in
    let m : ℕ = extension_bits (get_or g 8 0) s at in
    let e : List ℕ = bits_at s at m in
    let c : length e ≡ m = bits_at_length s at m in
    let y : List ℕ = closing g t e in
    let B : r ≡ g ++ (numbers t ++ y) = P.is ∙ record_parts g t e in
    let D : drop 9 r ≡ numbers t ++ y = ap (drop 9) B ∙ ap (λ (k : ℕ). drop k (g ++ (numbers t ++ y))) (sym G.nine) ∙ drop-append_seam g (numbers t ++ y) in
    let F : Begun r g = subst⁻¹ (λ (x : List ℕ). Begun x g) B (begun g (numbers t ++ y) G.nine) in
    let T = P.ends in
    let i = T.inside in
    let M : Emits (vps_under rules) 0 g t at r y = run_emit (vps_under rules) s 0 P.reads r y ((coh_vps rules).coh s 0 r y P.reads F) in
    let b : List ℕ = M.bits in
    let X : extension_good (get_or g 8 0) e ≡ true = extension_good_lem (get_or g 8 0) s at G.flag in
    let Q = packed b e (emit_bits (vps_under rules) r (numbers t ++ y) 0 M.emits) (good_bits (get_or g 8 0) e X) in
    let w = Q.size in
    let q : length b + length e ≡ at + m = omega (arith, M.reaches) in
    let z : n ≡ 8 * length (rbsp_of b e) = T.behind ∙ ap (λ (k : ℕ). k + 1 + to_boundary (k + 1)) (sym q) ∙ sym w in
    let L : length (rbsp_of b e) ≤ most_rbsp_bytes = omega (arith, trails_inside s _ n T) in
    record {
      rbsp = rbsp_of b e;
      written = ap (λ (x : List ℕ). finished r (emit (vps_under rules) r x 0)) D ∙ ap (finished r) M.emits ∙ finished_of r g t y b e (extension_of_lem g t e) (sym P.is) X L;
      size = z;
    }
