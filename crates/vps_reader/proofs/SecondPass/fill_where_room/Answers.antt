-- The record where there is room, else the length that it needs.
use Rattle.std.proofs.Common.{arith}
use Rattle.vps_reader.specs.Answers.{answers_short, answers_filled}
use Rattle.vps_reader.proofs.SecondPass.fill_where_room.Goals as goal

pub returns-then-record-needed : goal.returns-then-record-needed
returns-then-record-needed c lent K = answers_short K.found _ (omega arith) c.if-record-needed.true

pub returns : goal.returns
returns c lent K = answers_filled K.found _ (omega arith) c.if-record-needed.false (c.fill.ensures lent K)
