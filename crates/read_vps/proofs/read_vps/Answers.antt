-- The walk along the table, from its beginning.
use Rattle.std.proofs.Common.{ap, rules}
use Rattle.read_vps.specs.Table.{Begins, table_stored, table_refused}
use Rattle.read_vps.proofs.read_vps.Goals as goal

pub returns-in_err-whole : goal.returns-in_err-whole
returns-in_err-whole c =
    let N = c.new-reading.ensures in
    let B : Begins c.args.bytes.now c.args.rec.now c.new-reading.result = record { bytes = ap (λ b. b.now) N.bytes; rec = N.rec; at' = N.at; n' = N.n } in
    search (rules, table_refused B c.in_err-whole.ensures)

pub returns : goal.returns
returns c =
    let N = c.new-reading.ensures in
    let B : Begins c.args.bytes.now c.args.rec.now c.new-reading.result = record { bytes = ap (λ b. b.now) N.bytes; rec = N.rec; at' = N.at; n' = N.n } in
    let T = table_stored B {w = c.in_ok-whole.whole} c.in_ok-whole.ensures in
    record { table = T.table; stored = search (rules, T.stored) }
