-- One of two, by the flag.
use Rattle.std.proofs.Common.{eq-eqb, ne_eqb}
use Rattle.vps_definition.specs.Vps.{multi_layer_sections, single_layer_sections, buffer_sections}
use Rattle.vps_fields.specs.Header.{header_of}
use Rattle.vps_table.specs.Buffers.{either_first, either_second}
use Rattle.vps_table.proofs.buffers.Buffers.of.Goals as goal

pub returns-then-each_layer_flag-eq0 : goal.returns-then-each_layer_flag-eq0
unfolding buffer_sections
returns-then-each_layer_flag-eq0 g c =
    either_first g.S.Steps.laws (multi_layer_sections (header_of c.args.h) c.args.multi) single_layer_sections c.multi_layer.result _ _ (eq-eqb _ _ c.if-each_layer_flag-eq0.true) c.multi_layer.ensures

pub returns-else-each_layer_flag-eq0 : goal.returns-else-each_layer_flag-eq0
unfolding buffer_sections
returns-else-each_layer_flag-eq0 g c =
    either_second g.S.Steps.laws (multi_layer_sections (header_of c.args.h) c.args.multi) single_layer_sections c.single_layer.result _ _ (ne_eqb _ _ c.if-each_layer_flag-eq0.false) c.single_layer.ensures
