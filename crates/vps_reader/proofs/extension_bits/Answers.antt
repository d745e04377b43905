-- None without the flag.
use Rattle.std.proofs.Common.{refl, eq-eqb, ne_eqb}
use Rattle.vps_definition.specs.Reading.{extension_bits}
use Rattle.vps_reader.proofs.extension_bits.Goals as goal

pub returns-then-flag-eq0 : goal.returns-then-flag-eq0
unfolding extension_bits
returns-then-flag-eq0 c = rw (eq-eqb _ _ c.if-flag-eq0.true, extension_bits) refl

pub returns : goal.returns
unfolding extension_bits
returns c = rw (ne_eqb _ _ c.if-flag-eq0.false, extension_bits) c.data_bits.ensures
