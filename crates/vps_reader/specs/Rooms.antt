-- With a work buffer that is long enough for every unit, a call's answer and record are those of the definition's reading, which
-- knows no buffers; with a long enough record buffer, the answer says what the reading is.
use Rattle.std.specs.Prelude.{ℕ, ◌/◌, ◌≤◌, ◌≡◌, refl, List, [], ◌∷◌, Bool, true, false, cond, leb, eqb, length, take, drop, Err}
use Rattle.std.proofs.Common.{sym, ap, ◌∙◌, arith, leb-true, le-leb}
use Rattle.std.proofs.Math.Seq.{take-append_seam}
use Rattle.refusals.specs.Number.{unit_too_short, not_a_vps, rbsp_too_long, work_too_short}
use Rattle.refusals.specs.Refusals.{number_of}
use Rattle.lists.specs.Stored.{overlaid}
use Rattle.stuffing.specs.Stuffing.{unstuff}
use Rattle.vps_definition.specs.Reading.{Reading, read_rbsp, read_unit, most_rbsp_bytes, limited_by, vps_nut, unit_by}
use Rattle.vps_definition.specs.Reading.Reading.{accepts, refuses}
use Rattle.vps_reader.specs.Parse.{Parsed, untouched, parse_of, record_after, parse_rbsp, parse_payload, parse_unit}
use Rattle.vps_reader.specs.Parse.Parse.{accepted, too_short}
use Rattle.vps_reader.specs.Answers.{parsed_answer, refusal_of}
use Rattle.vps_reader.specs.declared.parsed.NotParsed.{NotParsed}
use Rattle.vps_reader.specs.declared.parsed.NotParsed.TheVariants.{RecordTooShort, Refused}

-- ── The work buffer ───────────────────────────────────────────────────
-- what a call answers and makes of a lent record is what a reading does
pub record ByReading (lent : List ℕ) (x : Reading) (p : Parsed) : Type 0 where
  pub answered : p.answer ≡ parse_of lent x
  pub left : p.vps_record ≡ record_after lent x

module _ (work lent : List ℕ) (room : most_rbsp_bytes ≤ length work) where
  refused_early : (k : ℕ) → ByReading lent (refuses k) (untouched k work lent)
  unfolding parse_of record_after
  refused_early k = record { answered = refl; left = refl }

  payload_by_reading : (s : List ℕ) → ByReading lent (limited_by read_rbsp s) (parse_payload s work lent)
  unfolding parse_payload parse_rbsp limited_by
  payload_by_reading s = go (leb (length s) most_rbsp_bytes) refl
    where
      go : (b : Bool) → leb (length s) most_rbsp_bytes ≡ b
          → ByReading lent (elim b as (λ d. Reading) [ true ↦ read_rbsp s | false ↦ refuses rbsp_too_long ])
          (cond b (cond (leb (length s) (length work)) (parse_rbsp s work lent) (untouched work_too_short work lent)) (untouched rbsp_too_long work lent))
      go true e = rw (le-leb (length s) (length work) (omega (arith, leb-true (length s) most_rbsp_bytes e, room))) (record { answered = refl; left = refl })
      go false e = refused_early rbsp_too_long

  pub unit_by_reading : (u : List ℕ) → ByReading lent (read_unit u) (parse_unit u work lent)
  unfolding parse_unit unit_by
  unit_by_reading [] = refused_early unit_too_short
  unit_by_reading (a ∷ []) = refused_early unit_too_short
  unit_by_reading (a ∷ b ∷ s) = go (eqb (b / 8) vps_nut) (payload_by_reading (unstuff s))
    where
      go : (t : Bool) → ByReading lent (limited_by read_rbsp (unstuff s)) (parse_payload (unstuff s) work lent)
          → ByReading lent (elim t as (λ d. Reading) [ true ↦ limited_by read_rbsp (unstuff s) | false ↦ refuses not_a_vps ]) (cond t (parse_payload (unstuff s) work lent) (untouched not_a_vps work lent))
      go true h = h
      go false h = refused_early not_a_vps

-- ── The record buffer ─────────────────────────────────────────────────
clash : {A : Type 0} → ◌≡◌ {A = ℕ} 0 1 → A
clash e = absurd (omega (arith, e))

module _ (lent : List ℕ) where
  -- success gives the record and the bits used
  pub accepted_reading : (x : Reading) {m n : ℕ} {after : List ℕ} → accepted m n ≡ parse_of lent x → after ≡ record_after lent x → x ≡ accepts (take m after) n
  unfolding parse_of record_after
  accepted_reading (refuses k) e f = clash cc
  accepted_reading (accepts r k) {m} {n} {after} e f = go (leb (length r) (length lent)) e f
    where
      go : (b : Bool) → accepted m n ≡ cond b (accepted (length r) k) (too_short (length r)) → after ≡ cond b (overlaid r lent) lent → accepts r k ≡ accepts (take m after) n
      go true e f =
          let i : m ≡ length r = cc in
          let j : n ≡ k = cc in
          λ t. accepts (sym ((λ t. take (i t) (f t)) ∙ take-append_seam r (drop (length r) lent)) t) (sym j t)
      go false e f = clash cc

  -- a refusal is the reading's, where there is room for every record of it
  pub refused_reading : (x : Reading) (e : NotParsed) → ((r : List ℕ) (n : ℕ) → x ≡ accepts r n → length r ≤ length lent) → parsed_answer (Err e) ≡ parse_of lent x → x ≡ refuses (number_of (refusal_of e))
  unfolding parse_of
  refused_reading (refuses k) (RecordTooShort needed) room e = clash cc
  refused_reading (refuses k) (Refused refusal) room e = let i : number_of refusal ≡ k = cc in ap refuses (sym i)
  refused_reading (accepts r n) not_parsed room e =
      other not_parsed (e ∙ ap (λ (b : Bool). cond b (accepted (length r) n) (too_short (length r))) (le-leb (length r) (length lent) (room r n refl)))
    where
      other : {A : Type 0} (not_parsed : NotParsed) → parsed_answer (Err not_parsed) ≡ accepted (length r) n → A
      other (RecordTooShort needed) e = clash cc
      other (Refused refusal) e = clash cc
