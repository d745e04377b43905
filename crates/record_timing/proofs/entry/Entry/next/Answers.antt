-- The next entry stands behind this one.
use Rattle.std.proofs.Common.{◌∙◌, arith}
use Rattle.record_timing.specs.Few.{entry_next}
use Rattle.record_timing.proofs.entry.Entry.next.Goals as goal

pub overflow_add-index : goal.overflow_add-index
overflow_add-index c = record { fits = omega (arith, c.args.self.there, c.entries-entries.ensures, c.entries-entries.type_inv) }

pub invariant_of-result : goal.invariant_of-result
invariant_of-result c = record {
  is = c.behind_entry.ensures ∙ entry_next _ _ c.args.self.is;
  there = omega (arith, c.entries-entries.ensures, c.if-index-entries.false);
}
