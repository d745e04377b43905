-- The table, the extension and the trailing bits, each refused by its number.
use Rattle.std.proofs.Common.{ap, sym, ◌∙◌, arith, rules}
use Rattle.vps_definition.specs.Reading.{extension_bits}
use Rattle.vps_reader.specs.Measures.{table_refused, limited_short, end_near, ended_refused}
use Rattle.vps_reader.proofs.measure.Goals as goal

pub returns-in_err-table : goal.returns-in_err-table
returns-in_err-table c = let b = limited_short c.args.rbsp.bytes.now c.args.rbsp.within ∙ table_refused c.in_err-table.ensures in search (rules, b)

pub overflow_add-end : goal.overflow_add-end
overflow_add-end c =
    let e = c.extension_bits-count.ensures ∙ ap (λ f. extension_bits f c.args.rbsp.bytes.now c.in_ok-table.table.at) c.extension_flag.ensures in
    record { fits = omega (arith, end_near c.args.rbsp.within c.in_ok-table.ensures.table e) }

pub returns-in_err-bits : goal.returns-in_err-bits
returns-in_err-bits c =
    let l = c.args.rbsp.within in
    let T = c.in_ok-table.ensures.table in
    let e = c.extension_bits-count.ensures ∙ ap (λ f. extension_bits f c.args.rbsp.bytes.now c.in_ok-table.table.at) c.extension_flag.ensures in
    let b = limited_short c.args.rbsp.bytes.now l ∙ ended_refused T e (sym (c.in_err-bits.ensures (end_near l T e))) in
    search (rules, b)

pub returns : goal.returns
returns c =
    let l = c.args.rbsp.within in
    let T = c.in_ok-table.ensures.table in
    let e = c.extension_bits-count.ensures ∙ ap (λ f. extension_bits f c.args.rbsp.bytes.now c.in_ok-table.table.at) c.extension_flag.ensures in
    record {
      found = record { short = l; table = T; extension = e; ends = sym (c.in_ok-bits.ensures (end_near l T e)) };
      stored = c.in_ok-table.ensures.stored;
    }
