-- The text of every unit has room in the buffer, so nothing of it is cut.
use Rattle.std.specs.Prelude.{ℕ, ◌≤◌, ◌≡◌, refl, List, Bool, true, false, cond, leb, length}
use Rattle.std.proofs.Common.{sym, ap, arith, le-leb, length-append}
use Rattle.refusals.specs.Answer.{Answer}
use Rattle.refusals.specs.Answer.Answer.{success, refusal}
use Rattle.refusals.specs.Number.{output_too_short}
use Rattle.refusals.specs.Lent.{lent, output_after}
use Rattle.lists.specs.Stored.{overlaid}
use Rattle.texts.specs.Bytes.{bytes}
use Rattle.text_numbers.specs.Decimal.{places_most}
use Rattle.sentences.specs.Refused.{refused_text}
use Rattle.vps_definition.specs.Reading.{Reading, read_unit}
use Rattle.vps_definition.specs.Reading.Reading.{accepts, refuses}
use Rattle.vps_laws.proofs.Promises.{accepted_is_written}
use Rattle.vps_writer.specs.Write.{write_of, output_of}
use Rattle.layer_page.specs.Answers.{page_most}
use Rattle.vps_page.specs.Printed.{reading_page, unit_page, printed, page_text}

-- 257 lines of 72 bytes
abbrev pub text_bytes : ℕ
text_bytes = 18504

pub text_fits : (u : List ℕ) → length (page_text u) ≤ text_bytes
unfolding page_text unit_page reading_page printed refused_text bytes
text_fits u = go (read_unit u) refl
  where
    go : (x : Reading) → read_unit u ≡ x → length (printed (reading_page x)) ≤ text_bytes
    go (accepts r n) e = page_most r (accepted_is_written u r n e).0
    go (refuses k) e = simp length-append (omega (arith, places_most 20 k))

-- ── What a call says where there is room ──────────────────────────────
clash : {A : Type 0} → ◌≡◌ {A = ℕ} 0 1 → A
clash e = absurd (omega (arith, e))

module _ (out : List ℕ) where
  -- success is a page, which stands at the output's beginning
  pub told_page : (x : Answer (List ℕ)) {n : ℕ} → length (printed x) ≤ length out → success n ≡ write_of out x → (n ≡ length (printed x)) × (output_of out x ≡ overlaid (printed x) out)
  unfolding write_of output_of lent output_after printed
  told_page (success page) {n} h e = go (leb (length page) (length out)) (le-leb (length page) (length out) h) e
    where
      go : (b : Bool) → b ≡ true → success n ≡ cond b (success (length page)) (refusal output_too_short) → (n ≡ length page) × (cond b (overlaid page out) out ≡ overlaid page out)
      go true t e = (cc, refl)
      go false t e = clash cc
  told_page (refusal k) h e = clash cc

  -- a refusal is that of the reading, and the output is as it was
  pub told_refusal : (x : Answer (List ℕ)) {k : ℕ} → length (printed x) ≤ length out → refusal k ≡ write_of out x → (printed x ≡ refused_text k) × (output_of out x ≡ out)
  unfolding write_of output_of lent output_after printed
  told_refusal (success page) {k} h e = go (leb (length page) (length out)) (le-leb (length page) (length out) h) e
    where
      go : (b : Bool) → b ≡ true → refusal k ≡ cond b (success (length page)) (refusal output_too_short) → (page ≡ refused_text k) × (cond b (overlaid page out) out ≡ out)
      go true t e = clash cc
      go false t e = clash cc
  told_refusal (refusal j) {k} h e = let i : k ≡ j = cc in (ap refused_text (sym i), refl)
