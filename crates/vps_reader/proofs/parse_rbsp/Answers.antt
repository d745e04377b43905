-- Too many bytes are refused before any is read.
use Rattle.std.proofs.Common.{ap, sym, ◌∙◌, Err}
use Rattle.std.proofs.lemmas.Result.{err_from_is_err_and}
use Rattle.refusals.specs.Refusals.{number_of}
use Rattle.vps_definition.specs.Reading.Reading.{refuses}
use Rattle.vps_reader.specs.Measures.{limited_long}
use Rattle.vps_reader.specs.Answers.{answers_refused}
use Rattle.vps_reader.proofs.parse_rbsp.Goals as goal

pub returns-in_err-rbsp : goal.returns-in_err-rbsp
returns-in_err-rbsp c =
    let p = err_from_is_err_and c.from_residual.result c.from_residual.ensures.1 in
    let long = c.in_err-rbsp.ensures in
    rw (p.1 ∙ ap Err p.2) (answers_refused c.args.bytes.now _ (limited_long _ long.1 ∙ ap (λ e. refuses (number_of e)) (sym long.0)))
