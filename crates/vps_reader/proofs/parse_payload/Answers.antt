-- `parse_payload` meets its contract: two checks, and then the RBSP in the work buffer.
use Rattle.std.proofs.Common.{sym, ap, ◌∙◌, Err, rules}
use Rattle.std.proofs.lemmas.Result.{err_from_is_err_and}
use borrow.Author.Tests.{ltb-true, ltb-false}
use Rattle.refusals.specs.declared.refusal.Refusal.TheVariants.{WorkTooShort}
use Rattle.vps_reader.specs.declared.parsed.NotParsed.TheVariants.{Refused}
use Rattle.vps_reader.specs.Units.{came_ok, came_err, gives_long, gives_narrow, gives_rbsp, removed_refused, removed_room, removed_begins, removed_long, removed_size}
use Rattle.vps_reader.proofs.parse_payload.Goals as goal

pub returns-then-is_too_long : goal.returns-then-is_too_long
returns-then-is_too_long c = rw c.into.ensures (gives_long _ _ _ (ltb-true _ _ (sym c.is_too_long.ensures ∙ c.if-is_too_long.true)))

pub slice_bounds-parse_rbsp-end : goal.slice_bounds-parse_rbsp-end
slice_bounds-parse_rbsp-end c = removed_long (record { answered = c.ebsp_to_rbsp.ensures.answered; left = c.ebsp_to_rbsp.ensures.left }) (came_ok c.ebsp_to_rbsp.result c.in_ok-n.ensures.cases)

pub slice_bounds-parse_rbsp-end-2 : goal.slice_bounds-parse_rbsp-end-2
slice_bounds-parse_rbsp-end-2 c = removed_size (record { answered = c.ebsp_to_rbsp.ensures.answered; left = c.ebsp_to_rbsp.ensures.left }) (came_ok c.ebsp_to_rbsp.result c.in_ok-n.ensures.cases)

pub returns-in_err-n : goal.returns-in_err-n
returns-in_err-n c =
    let p = err_from_is_err_and c.from_residual.result c.from_residual.ensures.1 in
    let q = came_err c.ebsp_to_rbsp.result {n = WorkTooShort} c.in_err-n.ensures.cases (λ e h. search rules) in
    rw (p.1 ∙ ap Err (p.2 ∙ ap Refused q.2)) (gives_narrow _ _ _ (ltb-false _ _ (sym c.is_too_long.ensures ∙ c.if-is_too_long.false)) (removed_refused (record { answered = c.ebsp_to_rbsp.ensures.answered; left = c.ebsp_to_rbsp.ensures.left }) q.1))

pub returns : goal.returns
returns c =
    let e = came_ok c.ebsp_to_rbsp.result c.in_ok-n.ensures.cases in
    gives_rbsp _ _ _ (ltb-false _ _ (sym c.is_too_long.ensures ∙ c.if-is_too_long.false)) _ (removed_room (record { answered = c.ebsp_to_rbsp.ensures.answered; left = c.ebsp_to_rbsp.ensures.left }) e) c.ebsp_to_rbsp.ensures.left (removed_begins (record { answered = c.ebsp_to_rbsp.ensures.answered; left = c.ebsp_to_rbsp.ensures.left }) e) c.parse_rbsp.ensures
