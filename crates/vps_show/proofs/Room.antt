-- The text of every input has room in the buffer: a number takes at most eleven bytes, and the sections of a record follow
-- one another, so that their lines have no more numbers than the record.
use Rattle.std.specs.Prelude.{ℕ, ◌+◌, ◌-◌, ◌/◌, ◌≤◌, ◌≡◌, refl, List, [], ◌∷◌, ◌++◌, Bool, true, false, cond, leb, eqb, length, replicate, drop}
use Rattle.std.proofs.Common.{arith, leb-true, eqb-true, lit≤, length-append, length-take}
use Rattle.std.proofs.lemmas.List.{length-replicate}
use Rattle.std.proofs.Math.Seq.{take-append_seam}
use Rattle.refusals.specs.Number.{record_too_short}
use Rattle.lists.specs.Stored.{overlaid}
use Rattle.stuffing.specs.Stuffing.{unstuff}
use Rattle.vps_definition.specs.Rules.{today}
use Rattle.vps_definition.specs.Record.{start_of, end_of}
use Rattle.vps_definition.specs.Reading.{Reading, read_rbsp, read_unit, most_rbsp_bytes, vps_nut}
use Rattle.vps_definition.specs.Reading.Reading.{accepts, refuses}
use Rattle.vps_laws.specs.Units.{accepted_unit}
use Rattle.vps_laws.specs.Lookup.{Inside}
use Rattle.vps_laws.proofs.Lookup.{section_inside}
use Rattle.vps_laws.proofs.Promises.{accepted_is_written}
use Rattle.vps_reader.specs.Parse.{parse_of, record_after, parse_rbsp, parse_payload, parse_unit}
use Rattle.texts.specs.Text.{Puts, puts_whole}
use Rattle.vps_show.specs.Shown.{spaced, newline, part, line, general_name, layers_name, rows_name, ptls_name, ols_name, dpb_name, timing_name, extension_name, trailer_name, first_lines, last_lines, ok_text, record_text, shown, unit_bytes, record_numbers, shown_unit, too_long, shown_input}
use Rattle.vps_show.specs.Room.{name_bytes, text_bytes, spaced_most, Takes, takes_then, ok_most, refused_fits, Fits, fits_if, untouched_fits}

module _ (r : List ℕ) (inside : (k : ℕ) → k ≤ 8 → Inside r (start_of r k) (end_of r k)) where
  line_takes : (name : List ℕ) (k : ℕ) → k ≤ 8 → Takes (line name r k) (start_of r k) (end_of r k) (length name + 1)
  line_takes name k h = record {
    most =
        omega (
          arith,
          length-append (name ++ spaced (part r k)) newline,
          length-append name (spaced (part r k)),
          spaced_most (part r k),
          length-take (end_of r k - start_of r k) (drop (start_of r k) r),
          (inside k h).rises,
        );
  }

  first_takes : Takes (first_lines r) 0 (start_of r 5) 29
  unfolding first_lines start_of end_of
  first_takes = takes_then (takes_then (takes_then (takes_then (line_takes general_name 0 (lit≤ tt)) (line_takes layers_name 1 (lit≤ tt))) (line_takes rows_name 2 (lit≤ tt))) (line_takes ptls_name 3 (lit≤ tt))) (line_takes ols_name 4 (lit≤ tt))

  last_takes : Takes (last_lines r) (start_of r 5) (length r) 29
  unfolding last_lines end_of
  last_takes = takes_then (takes_then (takes_then (line_takes dpb_name 5 (lit≤ tt)) (line_takes timing_name 6 (lit≤ tt))) (line_takes extension_name 7 (lit≤ tt))) (line_takes trailer_name 8 (lit≤ tt))

  record_takes : Takes (record_text r) 0 (length r) name_bytes
  unfolding record_text
  record_takes = takes_then first_takes last_takes

accepted_fits : (u r : List ℕ) (n : ℕ) → read_unit u ≡ accepts r n → length r ≤ record_numbers → length (ok_text (length r) ++ record_text r) ≤ text_bytes
accepted_fits u r n e h =
    let t = (record_takes r (section_inside today r (accepted_is_written u r n e).0)).most in
    omega (arith, length-append (ok_text (length r)) (record_text r), ok_most (length r), t, h)

-- ── The text of a unit ────────────────────────────────────────────────
rbsp_fits : (u s work lent : List ℕ) → ((r : List ℕ) (n : ℕ) → read_rbsp s ≡ accepts r n → read_unit u ≡ accepts r n) → length lent ≤ record_numbers → Fits (parse_rbsp s work lent)
unfolding parse_rbsp parse_of record_after shown
rbsp_fits u s work lent is l = record { fits = go (read_rbsp s) refl }
  where
    go : (x : Reading) → read_rbsp s ≡ x → length (shown (parse_of lent x) (record_after lent x)) ≤ text_bytes
    go (refuses n) e = refused_fits n
    go (accepts r n) e = room (leb (length r) (length lent)) refl
      where
        room : (b : Bool) → leb (length r) (length lent) ≡ b → length (shown (parse_of lent (accepts r n)) (record_after lent (accepts r n))) ≤ text_bytes
        room true f = rw (f, take-append_seam r (drop (length r) lent)) (accepted_fits u r n (is r n e) (omega (arith, leb-true (length r) (length lent) f, l)))
        room false f = rw f (refused_fits record_too_short)

unit_fits : (u work lent : List ℕ) → length lent ≤ record_numbers → Fits (parse_unit u work lent)
unfolding parse_unit parse_payload
unit_fits [] work lent l = untouched_fits _ work lent
unit_fits (a ∷ []) work lent l = untouched_fits _ work lent
unit_fits (a ∷ b ∷ s) work lent l =
    fits_if (eqb (b / 8) vps_nut)
    (λ e. fits_if (leb (length (unstuff s)) most_rbsp_bytes)
    (λ f. fits_if (leb (length (unstuff s)) (length work))
    (λ g. rbsp_fits (a ∷ b ∷ s) (unstuff s) work lent (λ r n i. accepted_unit today a b s r n (eqb-true (b / 8) vps_nut e) (leb-true (length (unstuff s)) most_rbsp_bytes f) i) l)
    (λ g. untouched_fits _ work lent))
    (λ f. untouched_fits _ work lent))
    (λ e. untouched_fits _ work lent)

-- ── The text of an input ──────────────────────────────────────────────
-- the buffer suffices for every input
pub shown_fits : (input : List ℕ) → length (shown_input input) ≤ text_bytes
unfolding shown_input shown_unit
shown_fits input = go (leb (length input) unit_bytes)
  where
    go : (b : Bool) → length (cond b (shown_unit input) too_long) ≤ text_bytes
    go true = (unit_fits input (replicate unit_bytes 0) (replicate record_numbers 0) (omega (arith, length-replicate {A = ℕ} record_numbers 0))).fits
    go false = omega arith

-- so nothing of it is cut: the buffer begins with it, and is otherwise as before
pub shown_whole : (input : List ℕ) {next : ℕ} {text text' : List ℕ} → Puts (shown_input input) 0 next text text' → text_bytes ≤ length text
    → (next ≡ length (shown_input input)) × (text' ≡ overlaid (shown_input input) text)
shown_whole input p room = puts_whole p (omega (arith, shown_fits input, room))
