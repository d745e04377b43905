-- A 0 and no row.
use Rattle.std.proofs.Common.{rules}
use Rattle.vps_sets.specs.Sets.{goes_no_rows, goes_no_rows_stop}
use Rattle.vps_sets.proofs.no_rows.Goals as goal

pub returns-in_err-infer : goal.returns-in_err-infer
returns-in_err-infer g c = λ n refs sets C. let b = goes_no_rows_stop g.S.Steps.laws sets c.in_err-infer.ensures.goes in search (rules, b)

pub returns : goal.returns
returns g c = λ n refs sets C. (sets, C, goes_no_rows g.S.Steps.laws sets c.in_ok-infer.ensures.goes)
