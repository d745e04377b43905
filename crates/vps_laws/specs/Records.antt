-- A record is refused as not well formed, or is written as the unit of an RBSP within the limit: what holds of both holds of every record.
use Rattle.std.specs.Prelude.{ℕ, ◌≤◌, ◌≡◌, refl, List, Bool, true, false, leb, length, drop}
use Rattle.std.proofs.Common.{leb-true, arith}
use Rattle.refusals.specs.Answer.{Answer}
use Rattle.refusals.specs.Answer.Answer.{success, refusal}
use Rattle.refusals.specs.Number.{not_well_formed}
use Rattle.vps_definition.specs.Rules.{Rules}
use Rattle.vps_definition.specs.Syntax.{Written, emit}
use Rattle.vps_definition.specs.Syntax.Written.{wrote, bad}
use Rattle.vps_definition.specs.Vps.{vps_under}
use Rattle.vps_definition.specs.Reading.{most_rbsp_bytes}
use Rattle.vps_definition.specs.Writing.{extension_of, rbsp_of, parts_good, unit_of, limited, finished, write_record_under, well_formed_under}

pub of_record : (rules : Rules) (P : Answer (List ℕ) → Type 0) → P (refusal not_well_formed) → ((rbsp : List ℕ) → length rbsp ≤ most_rbsp_bytes → P (success (unit_of rbsp))) → (r : List ℕ) → P (write_record_under rules r)
unfolding write_record_under finished limited
of_record rules P refused written r = go (emit (vps_under rules) r (drop 9 r) 0)
  where
    within : (rbsp : List ℕ) (b : Bool) → leb (length rbsp) most_rbsp_bytes ≡ b → P (elim b as (λ d. Answer (List ℕ)) [ true ↦ success (unit_of rbsp) | false ↦ refusal not_well_formed ])
    within rbsp true e = written rbsp (leb-true (length rbsp) most_rbsp_bytes e)
    within rbsp false e = refused

    parts : (b : Bool) (x : Answer (List ℕ)) → P x → P (elim b as (λ d. Answer (List ℕ)) [ true ↦ x | false ↦ refusal not_well_formed ])
    parts true x h = h
    parts false x h = refused

    go : (w : Written (List ℕ)) → P (finished r w)
    go (wrote g t x b) =
        let rbsp : List ℕ = rbsp_of b (extension_of x) in
        parts (parts_good g t (extension_of x) r) (limited rbsp) (within rbsp (leb (length rbsp) most_rbsp_bytes) refl)
    go bad = refused

-- so there is one number for all that are not well formed
pub ill_formed_refused : (rules : Rules) (r : List ℕ) → well_formed_under rules r ≡ false → write_record_under rules r ≡ refusal not_well_formed
unfolding well_formed_under
ill_formed_refused rules r e = of_record rules (λ x. elim x as (λ d. Bool) [ success b ↦ true | refusal n ↦ false ] ≡ false → x ≡ refusal not_well_formed) (λ h. refl) (λ rbsp l h. not_both h) r e
  where
    not_both : {A : Type 0} → true ≡ false → A
    not_both h = absurd (let n : ◌≡◌ {A = ℕ} 0 1 = cc in omega arith)
