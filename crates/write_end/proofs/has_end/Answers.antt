-- `has_end` meets its contract: each test that fails says why the parts don't make up the record.
use Rattle.std.proofs.Common.{ℕ, ◌≡◌, get_or, rules, sym, ap, length, ◌∙◌}
use Rattle.std.proofs.lemmas.Bool.{not_from_false, not_from_true, not-true, not-false}
use Rattle.write_end.specs.Numbers.{stands, stands_not}
use Rattle.write_end.specs.Ends.{may_extend, no_count, no_bits, no_end, no_general, no_trailer, looked}
use Rattle.write_end.proofs.has_end.Goals as goal

pub returns-in_default : goal.returns-in_default
returns-in_default c t T q = no_count T (sym (ap length c.behind.ensures) ∙ c.in_default.ensures.cases)

pub returns-in_default-split_at_checked : goal.returns-in_default-split_at_checked
returns-in_default-split_at_checked c t T q = no_bits T (sym c.behind.ensures ∙ c.in-Some.ensures.cases.0) q c.in_default-split_at_checked.ensures.cases

pub returns-then-end-ne-TRAILER : goal.returns-then-end-ne-TRAILER
returns-then-end-ne-TRAILER c t T q =
    let S = c.in-Some-split_at_checked.ensures.cases in
    no_end T (sym c.behind.ensures ∙ c.in-Some.ensures.cases.0) q S.2 S.4 c.if-end-ne-TRAILER.true

pub returns-then-not-has_numbers : goal.returns-then-not-has_numbers
returns-then-not-has_numbers c t T q =
    no_general T (sym c.behind.ensures ∙ c.in-Some.ensures.cases.0) q (stands_not c.args.writing.now.rec.now c.args.general.now c.has_numbers.result c.has_numbers.ensures (not-true _ (not_from_false _ c.if-not-has_numbers.true)))

pub returns-then-not-has_numbers-2 : goal.returns-then-not-has_numbers-2
returns-then-not-has_numbers-2 c t T q =
    let S = c.in-Some-split_at_checked.ensures.cases in
    no_trailer T (sym c.behind.ensures ∙ c.in-Some.ensures.cases.0) q S.2 S.4 (stands_not c.in-Some-split_at_checked.end.now c.args.trailer.now c.has_numbers-2.result c.has_numbers-2.ensures (not-true _ (not_from_false _ c.if-not-has_numbers-2.true)))

pub returns : goal.returns
returns c t T q =
    let S = c.in-Some-split_at_checked.ensures.cases in
    let flag : c.unwrap_or-flag.result ≡ get_or c.args.general.now 8 0 = search rules in
    looked T (sym c.behind.ensures ∙ c.in-Some.ensures.cases.0) q S.2 S.4 _ c.if-end-ne-TRAILER.false
    (stands c.args.writing.now.rec.now c.args.general.now c.has_numbers.result c.has_numbers.ensures (not-false _ (not_from_true _ c.if-not-has_numbers.false)))
    (stands c.in-Some-split_at_checked.end.now c.args.trailer.now c.has_numbers-2.result c.has_numbers-2.ensures (not-false _ (not_from_true _ c.if-not-has_numbers-2.false)))
    (c.may_extend.ensures ∙ ap (λ (f : ℕ). may_extend f c.in-Some.count.now) flag)
