-- The rate and the size field of every schedule of a well-formed record are at most 2 ^ 32 - 2, as coded numbers are.
use Rattle.std.specs.Prelude.{ℕ, suc, ◌+◌, ◌*◌, ◌-◌, ◌^◌, ◌≤◌, ◌<◌, ◌≡◌, refl, List, Bool, true, false, cond, ltb, length, get_or}
use Rattle.std.proofs.Common.{sym, ◌∙◌, arith, lit<, ltb-true}
use Rattle.std.proofs.Math.Pow.{pow_mono}
use Rattle.std.proofs.Math.Nat.{two-pow-succ, one-le-pow}
use Rattle.refusals.specs.Number.{code_too_long}
use Rattle.bits.specs.Bits.{field_at}
use Rattle.bits.specs.Code.{code_at}
use Rattle.bits.specs.Code.Taken.{taken, refused}
use Rattle.bits.specs.CodeLaws.{code_whole}
use Rattle.vps_definition.specs.Syntax.{Token, run, keeping}
use Rattle.vps_definition.specs.Syntax.Token.{number}
use Rattle.vps_definition.specs.Syntax.Syntax.{done}
use Rattle.vps_definition.specs.Syntax.Outcome.{accepted}
use Rattle.vps_definition.specs.Words.{ue}
use Rattle.vps_definition.specs.TimingHrd.{schedule}
use Rattle.vps_definition.specs.Writing.{well_formed}
use Rattle.vps_definition.specs.Layout.{timing_flag, timing_count}
use Rattle.vps_definition.specs.Views.{hrd_of, sublayer_count}
use Rattle.vps_laws.specs.Inversion.{code_accepted, keeping_accepted}
use Rattle.vps_laws.specs.Keeps.{Keeps, keeps_ue}
use Rattle.vps_laws.specs.Indices.{long_ue}
use Rattle.vps_laws.specs.Places.{ReadAt, read_keeps, read_first, long_passes, get_drop}
use Rattle.vps_laws.proofs.Places.{read_both}
use Rattle.record_timing.specs.declared.schedule.Kind.{Kind}
use Rattle.record_timing.specs.declared.schedule.Kind.TheVariants.{Nal, Vcl}
use Rattle.record_timing.specs.Timing.{flag_of, schedule_at}
use Rattle.record_timing.specs.Few.{viewed}

ue_small : (s : List ℕ) (at : ℕ) {a : ℕ} {t : List Token} {next : ℕ} → run ue s at ≡ accepted a t next → a < 4294967295
unfolding ue run
ue_small s at {a} e =
    let C = code_accepted (code_at s at) (λ v next. keeping (number (v + 0)) (run (done (v + 0)) s next)) e in
    let K = keeping_accepted (number (C.value + 0)) (run (done (C.value + 0)) s C.behind) C.inner in
    let k = K.inner in
    let v : C.value + 0 ≡ a = cc in
    omega (arith, v, (code_whole s at C.value C.behind C.is).small)

keeps_small : Keeps (λ v t. v < 4294967295) ue
keeps_small = record { holds = λ s at e. ue_small s at e }

-- the two fields that a schedule begins with
pub record Fields (y : List ℕ) : Type 0 where
  pub rate : get_or y 0 0 ≤ 4294967294
  pub size : get_or y 1 0 ≤ 4294967294

fields_read : (du : ℕ) (y z : List ℕ) → ReadAt (schedule du) tt y z → Fields y
unfolding schedule
fields_read du y z R =
    let B₁ = read_both (long_passes long_ue) R in
    let B₂ = read_both (long_passes long_ue) B₁.2 in
    let v₁ : get_or y 0 0 ≡ B₁.0 = read_first keeps_ue B₁.1 in
    let v₂ : get_or y 1 0 ≡ B₂.0 = sym (get_drop 1 y) ∙ read_first keeps_ue B₂.1 in
    record { rate = omega (arith, v₁, read_keeps keeps_small B₁.1); size = omega (arith, v₂, read_keeps keeps_small B₂.1) }

module _ (r : List ℕ) (w : well_formed r ≡ true) (f : timing_flag r ≡ 1) (e : ℕ) (l : e < timing_count r) (j : ℕ) (m : j < sublayer_count r e) (c : ℕ) where
  pub fields : (kind : Kind) → (flag_of (hrd_of r) kind ≡ 1) → c ≤ (hrd_of r).cpb_cnt_minus1 → Fields (schedule_at r e j kind c)
  fields Nal q h = fields_read _ _ _ ((viewed r w f).nal e l j m q c h)
  fields Vcl q h = fields_read _ _ _ ((viewed r w f).vcl e l j m q c h)
