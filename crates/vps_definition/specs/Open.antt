-- Every definition that a closed case computes by: an `unfolding opened` line stands for them all.
use Rattle.std.specs.Int.Count.{ones_in, count_leading_zeros}
use Rattle.lists.specs.Same.{same}
use Rattle.stuffing.specs.Stuffing.{unstuff, stuff_behind, stuff}
use Rattle.bits.specs.Bits.{bit_at, field_at, ones_at, bits_of, pack}
use Rattle.bits.specs.Code.{zeros_at, code_behind, code_at, code_of}
use Rattle.bits.specs.Reading.{read_field, read_code, more_data, trailing_at}
use Rattle.vps_definition.specs.Syntax.{◌>>=◌, numbers, starts, keeping, run, putting, emit, skim, look}
use Rattle.vps_definition.specs.Words.{u, u_minus1, ue, ue_minus1, inferred, u_if, ue_if, general, general_if, check, ruled, nothing, when, aligned, keeps, loop, repeat, sum}
use Rattle.vps_definition.specs.OutputLayerSets.{any_below, count_below, with_reached, reaches_in, reaches, included, in_set, total_num_olss, num_layers_in_ols, num_multi_layer_olss, mask_of, set_mask}
use Rattle.vps_definition.specs.ProfileTierLevel.{falling, reversed, ahead, number_of, constraint_bit, constraints, constraints_if, general_constraints_info, profile_and_tier, sub_profile, sub_profiles, profile_tier_level}
use Rattle.vps_definition.specs.DpbParameters.{dpb_sublayer, per_sublayer, index, ols_dpb, dpb_section}
use Rattle.vps_definition.specs.TimingHrd.{general_timing_hrd, du_values, schedule, sublayer_hrd, timing_sublayer, timing_section}
use Rattle.vps_definition.specs.Vps.{header_under, direct_reference, dependent_layer, independent_layer, layer, layers_section, output_flag, row, rows_section, no_rows, sets_section, slot_at, slot_number_if, ptl_head, ptl_slot, ptl_section, ols_section, multi_layer_sections, single_layer_sections, buffer_sections, vps_under}
use Rattle.vps_definition.specs.Record.{body_of, record_of, start_of, end_of}
use Rattle.vps_definition.specs.Reading.{bits_at, data_bits, extension_bits, ended, closed, read_rbsp_under, limited_by, unit_by}
use Rattle.vps_definition.specs.Writing.{all_flags, extension_good, extension_of, rbsp_of, unit_of, limited, parts_good, finished, write_record_under, well_formed_under}
use Rattle.vps_definition.specs.Lookup.{section_start, section_end, section_of}
use Rattle.vps_definition.specs.Layout.{from_section, entry_length, ids_from, layer_ids, ptl_count, set_count, ptl_indices, dpb_count, behind_slots, dpb_entries, multi_count, fifths, dpb_indices, timing_flag, timing_count, timing_indices, extension_in}
use Rattle.vps_definition.specs.Views.{header_of, layers_of, sets_read_of, refs_of, sets_of, layer_in_set, slot_of, timing_numbers, hrd_of, schedule_length, schedules_length, sublayer_length, behind_entry, again, timing_entry, sublayer_count, sublayer_at, nal_schedule_at, vcl_schedule_at}

unfoldable pub opened : Unit {0}
unfolding ones_in count_leading_zeros unstuff stuff_behind stuff bit_at field_at ones_at bits_of pack zeros_at code_behind code_at code_of read_field read_code more_data trailing_at ◌>>=◌ numbers starts keeping run putting emit skim look u u_minus1 ue ue_minus1 inferred u_if ue_if general general_if check ruled nothing when aligned keeps loop repeat sum any_below count_below with_reached reaches_in reaches included in_set total_num_olss num_layers_in_ols num_multi_layer_olss mask_of set_mask falling reversed ahead number_of constraint_bit constraints constraints_if general_constraints_info profile_and_tier sub_profile sub_profiles profile_tier_level dpb_sublayer per_sublayer index ols_dpb dpb_section general_timing_hrd du_values schedule sublayer_hrd timing_sublayer timing_section header_under direct_reference dependent_layer independent_layer layer layers_section output_flag row rows_section no_rows sets_section slot_at slot_number_if ptl_head ptl_slot ptl_section ols_section multi_layer_sections single_layer_sections buffer_sections vps_under body_of record_of start_of end_of bits_at data_bits extension_bits ended closed read_rbsp_under limited_by unit_by same all_flags extension_good extension_of rbsp_of unit_of limited parts_good finished write_record_under well_formed_under section_start section_end section_of from_section entry_length ids_from layer_ids ptl_count set_count ptl_indices dpb_count behind_slots dpb_entries multi_count fifths dpb_indices timing_flag timing_count timing_indices extension_in header_of layers_of sets_read_of refs_of sets_of layer_in_set slot_of timing_numbers hrd_of schedule_length schedules_length sublayer_length behind_entry again timing_entry sublayer_count sublayer_at nal_schedule_at vcl_schedule_at
opened = tt
