-- A set's layers, mode by mode.
use Rattle.std.proofs.Common.{◌∙◌, arith}
use Rattle.record_sets.specs.Sets.{mask_each, mask_up_to, mask_first_set, mask_row}
use Rattle.record_sets.proofs.RecordSets.mask.Goals as goal

pub returns-then-number_at-ne0 : goal.returns-then-number_at-ne0
returns-then-number_at-ne0 c = c.only.ensures ∙ mask_each _ c.args.self.now.masked.formed _ (omega (arith, c.if-number_at-ne0.true, c.number_at.ensures))

pub returns-then-number_at-ne2 : goal.returns-then-number_at-ne2
returns-then-number_at-ne2 c = c.up_to.ensures ∙ mask_up_to _ c.args.self.now.masked.formed _ (omega (arith, c.if-number_at-ne0.false, c.number_at.ensures)) (omega (arith, c.if-number_at-ne2.true, c.number_at-2.ensures))

pub returns-then-i-eq0 : goal.returns-then-i-eq0
returns-then-i-eq0 c = c.only-then-i-eq0.ensures ∙ mask_first_set _ c.args.self.now.masked.formed _ (omega (arith, c.if-number_at-ne0.false, c.number_at.ensures)) (omega (arith, c.if-number_at-ne2.false, c.number_at-2.ensures)) c.if-i-eq0.true

pub returns : goal.returns
returns c = c.row_mask.ensures ∙ mask_row _ c.args.self.now.masked.formed _ (omega (arith, c.if-number_at-ne0.false, c.number_at.ensures)) (omega (arith, c.if-number_at-ne2.false, c.number_at-2.ensures)) c.if-i-eq0.false
