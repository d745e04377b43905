-- `way_back` meets its contract, case by case.
use Rattle.std.proofs.Common.{Err, ap, ◌∙◌, refl}
use Rattle.std.proofs.lemmas.Result.{err_from_is_err_and}
use Rattle.vps_back.specs.Back.{back_accepted, back_not_read}
use Rattle.vps_back.proofs.way_back.Goals as goal

pub returns-in_err-parsed : goal.returns-in_err-parsed
returns-in_err-parsed c =
    let p = err_from_is_err_and c.from_residual.result c.from_residual.ensures.1 in
    rw (p.1 ∙ ap Err p.2) (back_not_read _ c.in_err-parsed.ensures _ refl)

pub returns : goal.returns
returns c = back_accepted _ c.in_ok-parsed.ensures refl c.record_in.ensures c.written_back.ensures
