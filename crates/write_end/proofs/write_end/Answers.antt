-- `write_end` meets its contract: the end is looked through, and then the bits are put out.
use Rattle.std.proofs.Common.{arith, rules, refl, length-append}
use Rattle.std.proofs.lemmas.Bool.{not_from_false, not_from_true, not-true, not-false}
use Rattle.vps_definition.specs.Writing.{rbsp_of}
use Rattle.write_end.specs.Ends.{is_almost, not_almost, finished_bad, ends_bad, ends_long, ends_good}
use Rattle.write_end.proofs.write_end.Goals as goal

pub returns-then-not-has_end-clause-ends : goal.returns-then-not-has_end-clause-ends
returns-then-not-has_end-clause-ends c start d lent t R T q =
    let w = c.args.writing.now in
    (refl, finished_bad w.rec.now c.args.general.now t _ d (not_almost w.rec.now c.args.general.now t w.c c.has_end.result (c.has_end.ensures t T q) (not-true _ (not_from_false _ c.if-not-has_end.true))))

pub returns-in_err-extension-clause-ends : goal.returns-in_err-extension-clause-ends
returns-in_err-extension-clause-ends c start d lent t R T q =
    let w = c.args.writing.now in
    let A = is_almost w.rec.now c.args.general.now t w.c c.has_end.result (c.has_end.ensures t T q) (not-false _ (not_from_true _ c.if-not-has_end.false)) in
    let E = c.in_err-extension.ensures.says in
    search (rules, E.0, ends_bad T A d (E.1 start d lent R))

pub returns-then-writing-ge-MOST_RBSP_BITS-clause-ends : goal.returns-then-writing-ge-MOST_RBSP_BITS-clause-ends
returns-then-writing-ge-MOST_RBSP_BITS-clause-ends c start d lent t R T q =
    let w = c.args.writing.now in
    let A = is_almost w.rec.now c.args.general.now t w.c c.has_end.result (c.has_end.ensures t T q) (not-false _ (not_from_true _ c.if-not-has_end.false)) in
    let W = c.in_ok-extension.ensures.says start d lent R in
    (refl, ends_long T A d W.is (omega (arith, c.if-writing-ge-MOST_RBSP_BITS.true, W.ready.holds.counted, length-append d W.bits)))

pub returns-clause-ends : goal.returns-clause-ends
unfolding rbsp_of
returns-clause-ends c start d lent t R T q =
    let w = c.args.writing.now in
    let A = is_almost w.rec.now c.args.general.now t w.c c.has_end.result (c.has_end.ensures t T q) (not-false _ (not_from_true _ c.if-not-has_end.false)) in
    let W = c.in_ok-extension.ensures.says start d lent R in
    let H = c.finish.ensures.finishes start _ lent W.ready.holds (omega (arith, W.ready.short)) in
    record {
      rbsp = rbsp_of d W.bits;
      is = ends_good T A d W.is (omega (arith, c.if-writing-ge-MOST_RBSP_BITS.false, W.ready.holds.counted, length-append d W.bits));
      long = H.used;
      stored = search (rules, H.stored, c.finish.ensures.output.same);
    }
