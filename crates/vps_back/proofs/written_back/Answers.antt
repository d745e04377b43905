-- `written_back` meets its contract, case by case.
use Rattle.std.proofs.Common.{ℕ, ◌≤◌, Err, length, sym, ap, ◌∙◌, refl, rules, arith, length-take-le}
use Rattle.std.proofs.lemmas.Result.{err_from_is_err_and}
use lib.ListN.{length-replicate}
use Rattle.vps_back.specs.Same.{same_said}
use Rattle.vps_back.specs.Back.{back_inside, back_done, back_refused}
use Rattle.vps_back.proofs.written_back.Goals as goal

pub returns-in_err-count : goal.returns-in_err-count
returns-in_err-count c =
    let p = err_from_is_err_and c.from_residual.result c.from_residual.ensures.1 in
    rw (p.1 ∙ ap Err p.2) (back_refused c.args.unit.now _ _ (length-replicate {A = ℕ} 6146 0) c.in_err-count.ensures refl)

pub slice_bounds-output-end : goal.slice_bounds-output-end
slice_bounds-output-end c = omega (arith, back_inside c.args.unit.now _ _ (length-replicate {A = ℕ} 6146 0) c.in_ok-count.ensures refl, c.write_vps_nal.auto.output, length-replicate {A = ℕ} 6146 0)

pub slice_bounds-written-end : goal.slice_bounds-written-end
slice_bounds-written-end c =
    let room : c.in_ok-count.count ≤ length c.write_vps_nal.new.output = omega (arith, back_inside c.args.unit.now _ _ (length-replicate {A = ℕ} 6146 0) c.in_ok-count.ensures refl, c.write_vps_nal.auto.output, length-replicate {A = ℕ} 6146 0) in
    sym (length-take-le _ c.write_vps_nal.new.output room)

pub returns : goal.returns
returns c = back_done _ _ _ (length-replicate {A = ℕ} 6146 0) c.in_ok-count.ensures refl (search (rules, ← same_said))
