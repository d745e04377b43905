-- `vps_parse` meets its contract, case by case of the reader's answer.
use Rattle.vps_c.specs.Calls.{parses_accepted, parses_too_short, parses_refused}
use Rattle.vps_c.proofs.vps_parse.Goals as goal

pub returns-in-Ok : goal.returns-in-Ok
returns-in-Ok c = parses_accepted c.parse_vps.ensures c.in-Ok.is
