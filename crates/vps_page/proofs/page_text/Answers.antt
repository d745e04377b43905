-- `page_text` meets its contract: the room suffices for every text, so a refusal is the reading's, and the room is then as it was.
use Rattle.std.proofs.Common.{sym, ap, ◌∙◌, arith}
use Rattle.std.proofs.Math.Seq.{take-append_seam}
use Rattle.std.specs.Prelude.{take}
use Rattle.refusals.specs.Refusals.{answer_of}
use Rattle.texts.specs.Text.{puts_whole}
use Rattle.texts.specs.Adds.{adds_same, puts_first}
use Rattle.vps_page.specs.Printed.{unit_page, page_text}
use Rattle.vps_page.specs.Room.{text_fits, told_page, told_refusal}
use Rattle.vps_page.proofs.page_text.Goals as goal

pub returns-in-Ok-clause-value : goal.returns-in-Ok-clause-value
unfolding page_text
returns-in-Ok-clause-value c =
    let u = c.args.unit.now in
    let told = told_page c.args.room.now (unit_page u) (omega (arith, text_fits u)) (sym (ap answer_of c.in-Ok.is) ∙ c.unit_page.ensures.result_value) in
    let after = c.at.ensures.bytes ∙ c.unit_page.ensures.output_after ∙ told.1 in
    (λ i. take ((c.at.ensures.place ∙ told.0) i) (after i)) ∙ take-append_seam (page_text u) _

pub returns-in-Ok-clause-text_after : goal.returns-in-Ok-clause-text_after
unfolding page_text
returns-in-Ok-clause-text_after c =
    let u = c.args.unit.now in
    let told = told_page c.args.room.now (unit_page u) (omega (arith, text_fits u)) (sym (ap answer_of c.in-Ok.is) ∙ c.unit_page.ensures.result_value) in
    c.at.ensures.bytes ∙ c.unit_page.ensures.output_after ∙ told.1

pub returns-in-Err-clause-value : goal.returns-in-Err-clause-value
unfolding page_text
returns-in-Err-clause-value c =
    let u = c.args.unit.now in
    let told = told_refusal c.args.room.now (unit_page u) (omega (arith, text_fits u)) (sym (ap answer_of c.in-Err.is) ∙ c.unit_page.ensures.result_value) in
    let puts = puts_first (adds_same (sym told.0) c.put_refused.ensures) c.at-text.ensures.place (c.at-text.ensures.bytes ∙ c.unit_page.ensures.output_after ∙ told.1) in
    let whole = puts_whole puts (omega (arith, text_fits u)) in
    (λ i. take (whole.0 i) (whole.1 i)) ∙ take-append_seam (page_text u) _

pub returns-in-Err-clause-text_after : goal.returns-in-Err-clause-text_after
unfolding page_text
returns-in-Err-clause-text_after c =
    let u = c.args.unit.now in
    let told = told_refusal c.args.room.now (unit_page u) (omega (arith, text_fits u)) (sym (ap answer_of c.in-Err.is) ∙ c.unit_page.ensures.result_value) in
    let puts = puts_first (adds_same (sym told.0) c.put_refused.ensures) c.at-text.ensures.place (c.at-text.ensures.bytes ∙ c.unit_page.ensures.output_after ∙ told.1) in
    (puts_whole puts (omega (arith, text_fits u))).1
