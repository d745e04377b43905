-- 31, then 32, then the unit's bytes, copied or put out again.
use Rattle.std.specs.Prelude.{ℕ, List, ◌++◌, drop}
use Rattle.std.proofs.Common.{ap, rules}
use Rattle.vps_writer.specs.Write.{writes_refused, writes_narrow, writes_copied, writes_again}
use Rattle.vps_writer.proofs.write_by_way_of.Goals as goal

pub returns-in_err-length : goal.returns-in_err-length
returns-in_err-length c = let W = writes_refused c.args.record.now c.args.output.now c.in_err-length.ensures in search (rules, W)

pub returns-then-output-length : goal.returns-then-output-length
returns-then-output-length c = writes_narrow _ _ c.args.small.now c.in_ok-length.ensures c.if-output-length.true

pub returns-then-length-small : goal.returns-then-length-small
returns-then-length-small c =
    writes_copied _ _ c.args.small.now c.in_ok-length.ensures c.if-length-small.true c.if-output-length.false (ap (λ (l : List ℕ). l ++ drop c.in_ok-length.length c.args.output.now) c.copy_from_slice.ensures.after)

pub returns : goal.returns
returns c = writes_again _ _ c.args.small.now c.in_ok-length.ensures c.if-output-length.false c.put_unit-2.ensures
