-- The count, and so many flags.
use Rattle.std.proofs.Common.{ap, rules}
use Rattle.writing.specs.Marked.{laws}
use Rattle.table_steps.specs.Laws.{goes_as}
use Rattle.write_end.specs.Flags.{data_flags_kept}
use Rattle.write_end.specs.Ends.{counted, extension_table}
use Rattle.write_end.proofs.extension.Goals as goal

pub returns-in_err-infer : goal.returns-in_err-infer
returns-in_err-infer c =
    let w = c.args.writing.now in
    let G = goes_as laws (ap extension_table (counted w.rec.now w.c c.number_at-count.ensures)) (laws.goes_stop _ _ c.in_err-infer.ensures.goes) in
    search (rules, G)

pub returns : goal.returns
returns c =
    let w = c.args.writing.now in
    goes_as laws (ap extension_table (counted w.rec.now w.c c.number_at-count.ensures)) (laws.goes_then _ _ c.in_ok-infer.ensures.goes (goes_as laws (data_flags_kept c.number_at-count.result) c.flags.ensures))
