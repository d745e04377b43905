-- `layer_page` meets its contract: the output is known to suffice before the first line is put there.
use Rattle.std.specs.Prelude.{ℕ, ◌≡◌, List, Option, Result, Some, Err, is_some, IfSome, get_or}
use Rattle.std.specs.Option.{ok_or}
use Rattle.std.proofs.Common.{rules, sym, ap, ◌∙◌, subst}
use Rattle.refusals.specs.declared.refusal.Refusal.{Refusal}
use Rattle.refusals.specs.declared.refusal.Refusal.TheVariants.{NotWellFormed}
use Rattle.texts.specs.Adds.{adds_same, puts_first}
use Rattle.vps_definition.specs.OutputLayerSets.{total_num_olss}
use Rattle.vps_definition.specs.Views.{sets_of}
use Rattle.record_sets.specs.declared.RecordSets.{RecordSets}
use Rattle.layer_page.specs.Page.{page_of}
use Rattle.layer_page.specs.Answers.{says_ill_formed, says_too_short, says_whole}
use Rattle.layer_page.proofs.layer_page.Goals as goal

-- the sets are those of the record that was lent
lent : (r : List ℕ) {o : Option RecordSets} {sets : RecordSets} → o ≡ Some sets → IfSome o (λ s. s.record.now ≡ r) → sets.record.now ≡ r
lent r e f = subst (λ o. IfSome o (λ s. s.record.now ≡ r)) e f

-- so is how many there are
counted : {r x : List ℕ} {count : ℕ} → x ≡ r → count ≡ total_num_olss (get_or x 0 0) (sets_of x) → count ≡ total_num_olss (get_or r 0 0) (sets_of r)
counted {count = count} e f = subst (λ (x : List ℕ). count ≡ total_num_olss (get_or x 0 0) (sets_of x)) e f

pub returns-in_err-sets-clause-result_value : goal.returns-in_err-sets-clause-result_value
returns-in_err-sets-clause-result_value c =
    let none = c.in_err-sets.ensures.ok_part in
    let said : ◌≡◌ {A = Result RecordSets Refusal} (Err c.in_err-sets.field-0.0) (Err NotWellFormed) = c.in_err-sets.ensures.value ∙ ap (λ o. ok_or o NotWellFormed) none in
    let refusal : c.in_err-sets.field-0.0 ≡ NotWellFormed = cc in
    let says = (says_ill_formed c.args.record.now c.args.output.now (sym c.of.ensures.formed ∙ ap is_some none)).answered in
    search (rules, refusal, says)

pub returns-in_err-sets-clause-output_after : goal.returns-in_err-sets-clause-output_after
returns-in_err-sets-clause-output_after c = (says_ill_formed _ _ (sym c.of.ensures.formed ∙ ap is_some c.in_err-sets.ensures.ok_part)).left

pub returns-then-output-length-clause-result_value : goal.returns-then-output-length-clause-result_value
returns-then-output-length-clause-result_value c =
    let some = c.in_ok-sets.ensures.ok_part in
    (says_too_short _ _ (sym c.of.ensures.formed ∙ ap is_some some) (counted (lent _ some c.of.ensures.lent) c.count.ensures) c.if-output-length.true).answered

pub returns-then-output-length-clause-output_after : goal.returns-then-output-length-clause-output_after
returns-then-output-length-clause-output_after c =
    let some = c.in_ok-sets.ensures.ok_part in
    (says_too_short _ _ (sym c.of.ensures.formed ∙ ap is_some some) (counted (lent _ some c.of.ensures.lent) c.count.ensures) c.if-output-length.true).left

pub returns-clause-result_value : goal.returns-clause-result_value
returns-clause-result_value c =
    let some = c.in_ok-sets.ensures.ok_part in
    let same = lent _ some c.of.ensures.lent in
    let put = puts_first (adds_same (ap page_of same) c.put_page.ensures) c.at-text.ensures.place c.at-text.ensures.bytes in
    (says_whole _ _ (sym c.of.ensures.formed ∙ ap is_some some) (counted same c.count.ensures) c.if-output-length.false put).answered

pub returns-clause-output_after : goal.returns-clause-output_after
returns-clause-output_after c =
    let some = c.in_ok-sets.ensures.ok_part in
    let same = lent _ some c.of.ensures.lent in
    let put = puts_first (adds_same (ap page_of same) c.put_page.ensures) c.at-text.ensures.place c.at-text.ensures.bytes in
    let says = (says_whole c.args.record.now c.args.output.now (sym c.of.ensures.formed ∙ ap is_some some) (counted same c.count.ensures) c.if-output-length.false put).left in
    search (rules, says, c.put_page.ensures.same_reference, c.at-text.ensures.same_reference)
