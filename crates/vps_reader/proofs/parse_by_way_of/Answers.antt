-- What the first pass found decides.
use Rattle.std.proofs.Common.{ap, ◌∙◌, Err}
use Rattle.std.proofs.lemmas.Result.{err_from_is_err_and}
use Rattle.vps_reader.specs.Measures.{found_most}
use Rattle.vps_reader.specs.Answers.{answers_refused}
use Rattle.vps_reader.proofs.parse_by_way_of.Goals as goal

pub returns-in_err-m : goal.returns-in_err-m
returns-in_err-m c =
    let p = err_from_is_err_and c.from_residual.result c.from_residual.ensures.1 in
    rw (p.1 ∙ ap Err p.2) (answers_refused c.args.rbsp.bytes.now _ c.in_err-m.ensures)

pub invariant_of-fill_where_room : goal.invariant_of-fill_where_room
invariant_of-fill_where_room c = record { few_numbers = found_most c.in_ok-m.ensures.found }

pub returns : goal.returns
returns c = c.fill_where_room.ensures _ c.in_ok-m.ensures
