-- `write_table` meets its contract: behind each turn one text more is written, and the next entry is left.
use Rattle.std.proofs.Common.{rules}
use Rattle.texts.specs.Bytes.{bytes}
use Rattle.vps_rates.specs.Printed.{heading, table_text}
use Rattle.vps_rates.specs.Written.{appends_then, written_begin, written_end}
use Rattle.vps_rates.specs.Turns.{entry_turn}
use Rattle.vps_rates.proofs.table.write_table.Goals as goal

pub loop-rest-init : goal.loop-rest-init
loop-rest-init g c = written_begin _ _ _ _ c.entry-rest.result c.entry-rest.ensures.there c.entry-rest.ensures.is

pub loop-rest-preserved : goal.loop-rest-preserved
loop-rest-preserved g c = entry_turn _ _ _ _ _ c.next-rest.result c.in-Some.entry c.in-Some.is c.loop-rest.invariant c.in_ok-write_entry.ensures c.next-rest.ensures.there c.next-rest.ensures.is

pub returns : goal.returns
unfolding heading bytes table_text
returns g c = appends_then _ _ _ _ _ c.in_ok-write_all.ensures.bytes (written_end _ _ _ _ _ c.loop-rest.rest (search rules) c.loop-rest.invariant)
