-- An RBSP is no longer than its payload.
use Rattle.vps_reader.specs.Units.{short_payload}
use Rattle.vps_reader.proofs.is_too_long.Goals as goal

pub returns-then-payload-le-MOST_RBSP_BYTES : goal.returns-then-payload-le-MOST_RBSP_BYTES
returns-then-payload-le-MOST_RBSP_BYTES c = short_payload _ c.if-payload-le-MOST_RBSP_BYTES.true
