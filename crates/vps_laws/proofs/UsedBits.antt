-- Only the bits used count: what agrees with an accepted reading without extension on them is read alike.
use Rattle.std.specs.Prelude.{ℕ, ◌+◌, ◌*◌, ◌<◌, ◌≡◌, List, length, get_or}
use Rattle.std.proofs.Common.{sym, ap, ◌∙◌, subst, arith}
use Rattle.std.proofs.Math.Path.{subst⁻¹}
use Rattle.bits.specs.FieldLaws.{Agree, one_inside}
use Rattle.bits.specs.TrailingLaws.{Trails, trails_agree}
use Rattle.vps_definition.specs.Rules.{Rules}
use Rattle.vps_definition.specs.Vps.{vps_under}
use Rattle.vps_definition.specs.Record.{record_of}
use Rattle.vps_definition.specs.Reading.{bits_at, extension_bits, read_rbsp_under}
use Rattle.vps_definition.specs.Reading.Reading.{accepts}
use Rattle.vps_laws.specs.Reading.{run_agree}
use Rattle.vps_laws.specs.Units.{rbsp_parts, parts_rbsp}
use Rattle.vps_laws.proofs.Accepted.{general_read}
use Rattle.vps_laws.specs.UsedBits.{no_extension, no_bits, record_flag}

-- the stop bit is one of those used, so the other RBSP reaches as far
pub rbsp_used : (rules : Rules) (s s' r : List ℕ) (n : ℕ) → read_rbsp_under rules s ≡ accepts r n → get_or r 8 0 ≡ 0 → Agree s s' n → read_rbsp_under rules s' ≡ accepts r n
rbsp_used rules s s' r n R z h =
    let P = rbsp_parts rules s r n R in
    let g : List ℕ = P.general in
    let at : ℕ = P.behind in
    let G = general_read rules s g P.tokens at P.reads in
    let f : get_or g 8 0 ≡ 0 = sym (record_flag g P.tokens _ G.nine) ∙ ap (λ (l : List ℕ). get_or l 8 0) (sym P.is) ∙ z in
    let k₁ : extension_bits (get_or g 8 0) s at ≡ 0 = ap (λ (b : ℕ). extension_bits b s at) f ∙ no_extension s at in
    let k₂ : extension_bits (get_or g 8 0) s' at ≡ 0 = ap (λ (b : ℕ). extension_bits b s' at) f ∙ no_extension s' at in
    let T : Trails s (at + 0) n = subst (λ (k : ℕ). Trails s (at + k) n) k₁ P.ends in
    let i = T.inside in
    let b = T.behind in
    let o : at + 0 < 8 * length s' = one_inside s' (at + 0) (sym (h (at + 0) (omega arith)) ∙ T.stop) in
    parts_rbsp rules s' r n
    (record {
      general = g;
      tokens = P.tokens;
      behind = at;
      reads = run_agree (vps_under rules) s 0 P.reads s' (λ j l. h j (omega arith)) (omega arith);
      is = P.is ∙ ap (record_of g P.tokens) (ap (bits_at s at) k₁ ∙ no_bits s s' at ∙ ap (bits_at s' at) (sym k₂));
      ends = subst⁻¹ (λ (k : ℕ). Trails s' (at + k) n) k₂ (trails_agree s s' (at + 0) n T h (omega arith));
    })
