-- What each change of a rule changed: for every unit, the answer beside the answer of before, whichever other rules are in force.
use Rattle.std.specs.Prelude.{ℕ, ◌+◌, ◌/◌, ◌≤◌, ◌<◌, ◌≡◌, refl, List, [], ◌∷◌, ◌++◌, true, ◌↔◌, length, get_or, drop}
use Rattle.std.proofs.Common.{sym, ◌∙◌, subst, arith}
use Rattle.std.proofs.lemmas.List.Edits.{sets}
use Rattle.refusals.specs.Answer.Answer.{refusal}
use Rattle.refusals.specs.Number.{stop_bit_zero, not_well_formed, id_zero, code_past_end}
use Rattle.stuffing.specs.Stuffing.{unstuff}
use Rattle.bits.specs.Bits.{field_at}
use Rattle.vps_definition.specs.Rules.{Rules, today, refusing_id, taking_id}
use Rattle.vps_definition.specs.Record.{start_of}
use Rattle.vps_definition.specs.Layout.{extension_in}
use Rattle.vps_definition.specs.Reading.{Reading, most_rbsp_bytes, vps_nut, read_unit_under}
use Rattle.vps_definition.specs.Reading.Reading.{accepts, refuses}
use Rattle.vps_definition.specs.Writing.{all_flags, write_record_under, well_formed_under}
use Rattle.vps_laws.specs.Units.{not_accepts}
use Rattle.vps_laws.specs.LongerExtension.{unit_with_shorter_extension, Longer}
use Rattle.vps_laws.proofs.LongerExtension.{answer_longer}
use Rattle.vps_laws.specs.LongerExtension.Longer.{as_before, ends_in_zero}
use Rattle.vps_laws.proofs.AnyExtension.{others_well_formed}
use Rattle.vps_laws.specs.Records.{ill_formed_refused}
use Rattle.vps_laws.specs.Lookup.{Found}
use Rattle.vps_laws.proofs.Lookup.{found_ill_formed}
use Rattle.vps_laws.specs.Order.{header_first}
use Rattle.vps_laws.specs.Says.{ReadingSays}
use Rattle.vps_laws.proofs.IdRule.{IdMoved, id_moved, rbsp_refuses, record_same, Another, unit_other, accepted_was, accepted_is, some_id, ill_formed_of_zero}
use Rattle.vps_laws.proofs.IdRule.IdMoved.{id_same, id_refused}
use Rattle.vps_laws.specs.CutCodes.{unit_with_cut_codes}
use Rattle.vps_laws.proofs.CutCodes.{AnswerMoved, answer_moved}
use Rattle.vps_laws.proofs.CutCodes as CutCodes
use Rattle.vps_laws.proofs.CutCodes.AnswerMoved.{answer_same, answer_cut}

-- ── Extension bits run up to the last one-bit ─────────────────────────
-- A unit that was accepted is accepted, with the same record and bits used.
pub extensions_stay : (rules : Rules) (u r : List ℕ) (n : ℕ) → unit_with_shorter_extension rules u ≡ accepts r n → read_unit_under rules u ≡ accepts r n
extensions_stay rules u r n = go (answer_longer rules u)
  where
    go : {R S : Reading} → Longer R S → S ≡ accepts r n → R ≡ accepts r n
    go as_before e = e
    go (ends_in_zero q m f x h) e = not_accepts e

-- A unit that is refused was refused with the same number.
pub refusals_stay : (rules : Rules) (u : List ℕ) (k : ℕ) → read_unit_under rules u ≡ refuses k → unit_with_shorter_extension rules u ≡ refuses k
refusals_stay rules u k = go (answer_longer rules u)
  where
    go : {R S : Reading} → Longer R S → R ≡ refuses k → S ≡ refuses k
    go as_before e = e
    go (ends_in_zero q m f x h) e = not_accepts (sym e)

-- Where the answer is another, it was 28, and the unit is accepted with a record of extension flag 1 whose extension bits end in 0.
pub answers_moved_from_28 : (rules : Rules) (u : List ℕ) → (read_unit_under rules u ≡ unit_with_shorter_extension rules u → ⊥)
    → (unit_with_shorter_extension rules u ≡ refuses stop_bit_zero)
    × ((r : List ℕ) × ((n : ℕ) × ((read_unit_under rules u ≡ accepts r n) × ((get_or r 8 0 ≡ 1) × ((e : List ℕ) × (extension_in r ≡ e ++ (0 ∷ [])))))))
answers_moved_from_28 rules u = go (answer_longer rules u)
  where
    go : {R S : Reading} → Longer R S → (R ≡ S → ⊥)
        → (S ≡ refuses stop_bit_zero) × ((r : List ℕ) × ((n : ℕ) × ((R ≡ accepts r n) × ((get_or r 8 0 ≡ 1) × ((e : List ℕ) × (extension_in r ≡ e ++ (0 ∷ [])))))))
    go as_before h = absurd (h refl)
    go (ends_in_zero r n f e x) h = (refl, (r, (n, (refl, (f, (e, x))))))

-- The extension bits of a well-formed record may be any, and so end in either bit: with others in their place, as many, it is well formed.
pub any_extension_bits : (rules : Rules) (r e : List ℕ) → well_formed_under rules r ≡ true → all_flags e ≡ true → length e ≡ length (extension_in r)
    → well_formed_under rules (sets r (start_of r 7 + 1) e) ≡ true
any_extension_bits = others_well_formed

-- ── Id 0 is refused ───────────────────────────────────────────────────
-- Where the answer is another, it is 34, and the id's four bits are 0.
pub id_rule_changes_only : (rules : Rules) (u : List ℕ) → (read_unit_under (refusing_id rules) u ≡ read_unit_under (taking_id rules) u → ⊥)
    → (read_unit_under (refusing_id rules) u ≡ refuses id_zero) × (field_at (unstuff (drop 2 u)) 0 4 ≡ 0)
id_rule_changes_only rules u = go (id_moved rules u)
  where
    go : {R S : Reading} → IdMoved (unstuff (drop 2 u)) R S → (R ≡ S → ⊥) → (R ≡ refuses id_zero) × (field_at (unstuff (drop 2 u)) 0 4 ≡ 0)
    go id_same h = absurd (h refl)
    go (id_refused z) h = (refl, z)

-- And it is 34 for every such unit that its header and its length let through.
pub id_zero_is_refused : (rules : Rules) (u : List ℕ) → 2 ≤ length u → get_or u 1 0 / 8 ≡ vps_nut → length (unstuff (drop 2 u)) ≤ most_rbsp_bytes
    → field_at (unstuff (drop 2 u)) 0 4 ≡ 0 → read_unit_under (refusing_id rules) u ≡ refuses id_zero
id_zero_is_refused rules u l h k z = (header_first (refusing_id rules) u).within l h k ∙ rbsp_refuses rules (unstuff (drop 2 u)) z

-- 34 was no answer before, so each 34 is another answer.
pub id_zero_was_no_answer : (rules : Rules) (u : List ℕ) → read_unit_under (taking_id rules) u ≡ refuses id_zero → ⊥
id_zero_was_no_answer rules u e = (subst (ReadingSays Another) e (unit_other rules u)).is refl

-- Every other unit has the answer of before.
pub units_with_an_id_stay : (rules : Rules) (u : List ℕ) → 0 < field_at (unstuff (drop 2 u)) 0 4 → read_unit_under (refusing_id rules) u ≡ read_unit_under (taking_id rules) u
units_with_an_id_stay rules u l = go (id_moved rules u)
  where
    go : {R S : Reading} → IdMoved (unstuff (drop 2 u)) R S → R ≡ S
    go id_same = refl
    go (id_refused z) = absurd (omega (arith, z, l))

-- So a unit is accepted exactly if it was before with an id above 0, with the same record and bits used.
pub accepted_with_an_id : (rules : Rules) (u r : List ℕ) (n : ℕ)
    → (read_unit_under (refusing_id rules) u ≡ accepts r n) ↔ ((read_unit_under (taking_id rules) u ≡ accepts r n) × (0 < get_or r 1 0))
accepted_with_an_id rules u r n = (accepted_was rules u r n, accepted_is rules u r n)

-- A well-formed record has an id above 0; one with id 0 is not well formed, and the writer refuses it with 31.
pub well_formed_has_an_id : (rules : Rules) (r : List ℕ) → well_formed_under (refusing_id rules) r ≡ true → 0 < get_or r 1 0
well_formed_has_an_id = some_id

pub id_zero_is_not_written : (rules : Rules) (r : List ℕ) → get_or r 1 0 ≡ 0 → write_record_under (refusing_id rules) r ≡ refusal not_well_formed
id_zero_is_not_written rules r z = ill_formed_refused (refusing_id rules) r (ill_formed_of_zero rules r z)

-- Every other record is written as before: to the same bytes, or refused.
pub records_with_an_id_stay : (rules : Rules) (r : List ℕ) → 0 < get_or r 1 0 → write_record_under (refusing_id rules) r ≡ write_record_under (taking_id rules) r
records_with_an_id_stay = record_same

-- Lookup gives the empty part at the end of a record with id 0.
pub id_zero_has_no_section : (r : List ℕ) (k : ℕ) → get_or r 1 0 ≡ 0 → Found r k (length r) (length r)
id_zero_has_no_section r k z = found_ill_formed r k (ill_formed_of_zero today r z)

-- ── Codes that the end cuts are refused there ─────────────────────────
-- No unit is lost or won: one is accepted exactly if it was, with the same record and bits used.
pub cut_codes_were_refused : (rules : Rules) (u r : List ℕ) (n : ℕ) → (read_unit_under rules u ≡ accepts r n) ↔ (unit_with_cut_codes rules u ≡ accepts r n)
cut_codes_were_refused rules u r n = go (answer_moved rules u)
  where
    go : {R S : Reading} → AnswerMoved R S → (R ≡ accepts r n) ↔ (S ≡ accepts r n)
    go answer_same = (λ e. e, λ e. e)
    go answer_cut = (λ e. not_accepts e, λ e. not_accepts e)

-- Where the answer is another, it is 35, and was a refusal.
pub answers_moved_to_35 : (rules : Rules) (u : List ℕ) → (read_unit_under rules u ≡ unit_with_cut_codes rules u → ⊥)
    → (read_unit_under rules u ≡ refuses code_past_end) × ((k : ℕ) × (unit_with_cut_codes rules u ≡ refuses k))
answers_moved_to_35 rules u = go (answer_moved rules u)
  where
    go : {R S : Reading} → AnswerMoved R S → (R ≡ S → ⊥) → (R ≡ refuses code_past_end) × ((k : ℕ) × (S ≡ refuses k))
    go answer_same h = absurd (h refl)
    go (answer_cut {n}) h = (refl, (n, refl))

-- 35 was no answer before, so each 35 is another answer.
pub cut_was_not_35 : (rules : Rules) (u : List ℕ) → unit_with_cut_codes rules u ≡ refuses code_past_end → ⊥
cut_was_not_35 rules u e = (subst (ReadingSays CutCodes.Another) e (CutCodes.unit_other rules u)).is refl

-- A unit that is refused with another number was refused with the same.
pub other_refusals_stay : (rules : Rules) (u : List ℕ) (k : ℕ) → (k ≡ code_past_end → ⊥) → read_unit_under rules u ≡ refuses k → unit_with_cut_codes rules u ≡ refuses k
other_refusals_stay rules u k h = go (answer_moved rules u)
  where
    go : {R S : Reading} → AnswerMoved R S → R ≡ refuses k → S ≡ refuses k
    go answer_same e = e
    go answer_cut e = let n : code_past_end ≡ k = cc in absurd (h (sym n))
