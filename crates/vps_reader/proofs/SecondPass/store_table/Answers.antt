-- What the first pass has kept is the table's, and so is what is read again.
use Rattle.std.proofs.Common.{ap, ◌∙◌, arith, length}
use Rattle.std.proofs.lemmas.List.Edits.{sets}
use Rattle.vps_definition.specs.Syntax.{numbers}
use Rattle.lists.specs.Stored.{part_stored, written_part}
use Rattle.vps_reader.proofs.SecondPass.store_table.Goals as goal

pub returns-in-Some : goal.returns-in-Some
returns-in-Some c T lent h =
    let at = c.in-Some.ensures.lookup.0 in
    let same = c.copy_from_slice.ensures.after ∙ at.2 ∙ part_stored lent c.args.self.now.small.now 9 c.args.self.now.m.table.n (numbers T.kept) h T.count at.1 in
    written_part c.args.rec.now c.copy_from_slice.new.self 9 (ap length same ∙ omega (arith, T.count)) (omega (arith, at.0, c.requires))
    ∙ ap (sets c.args.rec.now 9) same
