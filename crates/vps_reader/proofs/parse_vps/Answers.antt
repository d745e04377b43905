-- `parse_vps` meets its contract: two checks, and then the payload.
use Rattle.vps_reader.specs.Units.{gives_short, gives_other, gives_payload}
use Rattle.vps_reader.proofs.parse_vps.Goals as goal

pub returns-then-unit-lt2 : goal.returns-then-unit-lt2
returns-then-unit-lt2 c = rw c.into.ensures (gives_short _ _ _ c.if-unit-lt2.true)

pub returns-then-unit-ne-VPS_NUT : goal.returns-then-unit-ne-VPS_NUT
returns-then-unit-ne-VPS_NUT c = rw c.into-then-unit-ne-VPS_NUT.ensures (gives_other _ _ _ c.if-unit-lt2.false c.if-unit-ne-VPS_NUT.true)

pub returns : goal.returns
returns c = gives_payload _ _ _ c.if-unit-lt2.false c.if-unit-ne-VPS_NUT.false c.parse_payload.ensures
