-- `write_entry` meets its contract: behind each turn one text more is written, and the next sublayer is left.
use Rattle.std.proofs.Common.{rules}
use Rattle.vps_rates.specs.Printed.{entry_text}
use Rattle.vps_rates.specs.Written.{written_begin, written_end}
use Rattle.vps_rates.specs.Turns.{sublayer_turn}
use Rattle.vps_rates.proofs.table.write_entry.Goals as goal

pub loop-rest-init : goal.loop-rest-init
loop-rest-init g c = written_begin _ _ _ _ c.sublayer-rest.result c.sublayer-rest.ensures.there c.sublayer-rest.ensures.is

pub loop-rest-preserved : goal.loop-rest-preserved
loop-rest-preserved g c = sublayer_turn _ _ _ _ _ _ c.next-rest.result c.in-Some.sublayer c.in-Some.is c.loop-rest.invariant c.in_ok-write_sublayer.ensures c.next-rest.ensures.there c.next-rest.ensures.is

pub returns : goal.returns
unfolding entry_text
returns g c = written_end _ _ _ _ _ c.loop-rest.rest (search rules) c.loop-rest.invariant
