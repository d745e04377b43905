-- `write_rates` meets its contract: the buffers are long enough for every unit and every record.
use Rattle.std.proofs.Common.{sym, ap, ◌∙◌}
use Rattle.refusals.specs.Refusals.{number_of}
use Rattle.refusals.specs.declared.refusal.Refusal.{Refusal}
use Rattle.sentences.specs.Refused.{refused_text}
use Rattle.vps_rates.specs.Printed.{record_text}
use Rattle.vps_rates.specs.Reads.{record_numbers, zeros_long, text_of_record, text_of_refusal}
use Rattle.vps_rates.specs.Written.{on_ok, appends_same}
use Rattle.vps_rates.proofs.write_rates.Goals as goal

pub slice_bounds-parse_vps-end-2 : goal.slice_bounds-parse_vps-end-2
slice_bounds-parse_vps-end-2 g c = sym (zeros_long record_numbers)

pub slice_bounds-record_in-end : goal.slice_bounds-record_in-end
slice_bounds-record_in-end g c = sym (c.parse_vps.auto.record ∙ zeros_long record_numbers)

pub returns-in-Ok : goal.returns-in-Ok
returns-in-Ok g c = on_ok c.write_record.result (appends_same _ _ (ap record_text c.record_in.ensures ∙ text_of_record c.args.unit.now c.parse_vps.ensures c.in-Ok.is)) c.write_record.ensures

pub returns-in-Err : goal.returns-in-Err
returns-in-Err g c = on_ok c.write_refused.result (appends_same _ _ (ap (λ (e : Refusal). refused_text (number_of e)) c.refusal.ensures ∙ text_of_refusal c.args.unit.now c.parse_vps.ensures c.in-Err.is)) c.write_refused.ensures
