-- The definition's record of the code's first fields.
use Rattle.std.specs.Prelude.{◌≡◌}
use Rattle.vps_definition.specs.Vps as Vps
use Rattle.vps_fields.specs.declared.Header.{Header}

abbrev pub header_of : Header → Vps.Header
header_of h = record {
  id = h.id;
  layers = h.layers;
  max_sublayers_minus1 = h.max_sublayers_minus1;
  default_max_tid_flag = h.default_max_tid_flag;
  all_independent_flag = h.all_independent_flag;
}

abbrev pub IsHeader : Header → Vps.Header → Type 0
IsHeader h x = x ≡ header_of h
