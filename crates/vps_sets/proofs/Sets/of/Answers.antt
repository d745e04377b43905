-- Each word in the table's order, and then the sets by mode.
use Rattle.std.proofs.Common.{rules}
use Rattle.vps_fields.specs.Header.{header_of}
use Rattle.vps_sets.specs.Sets.{section_each, section_mode, section_check, section_rows, section_done}
use Rattle.vps_sets.proofs.Sets.of.Goals as goal

pub returns-in_err-each_layer_flag : goal.returns-in_err-each_layer_flag
returns-in_err-each_layer_flag g c = λ refs K. let b = section_each g.S.Steps.laws (header_of c.args.h) c.in_err-each_layer_flag.ensures in search (rules, b)

pub returns-in_err-mode_idc : goal.returns-in_err-mode_idc
returns-in_err-mode_idc g c = λ refs K. let b = section_mode g.S.Steps.laws (header_of c.args.h) c.in_ok-each_layer_flag.ensures c.in_err-mode_idc.ensures in search (rules, b)

pub returns-in_err-check : goal.returns-in_err-check
returns-in_err-check g c =
    λ refs K.
    let b = section_check g.S.Steps.laws (header_of c.args.h) c.in_ok-each_layer_flag.ensures c.in_ok-mode_idc.ensures c.in_err-check.ensures.goes in
    search (rules, b)

pub returns-in_err-counts : goal.returns-in_err-counts
returns-in_err-counts g c =
    λ refs K.
    let b = section_rows g.S.Steps.laws (header_of c.args.h) c.in_ok-each_layer_flag.ensures c.in_ok-mode_idc.ensures c.in_ok-check.ensures.goes (c.in_err-counts.ensures refs K) in
    search (rules, b)

pub returns : goal.returns
returns g c =
    λ refs K.
    let R = c.in_ok-counts.ensures refs K in
    (R.0, R.1, section_done g.S.Steps.laws (header_of c.args.h) c.in_ok-each_layer_flag.ensures c.in_ok-mode_idc.ensures c.in_ok-check.ensures.goes c.place-start.ensures R.2)
