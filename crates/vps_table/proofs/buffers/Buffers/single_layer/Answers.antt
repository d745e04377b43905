-- A 0 for each count, and for the flag.
use Rattle.std.proofs.Common.{rules}
use Rattle.vps_table.specs.Buffers.{single_slots, single_entries, single_flag, single_done}
use Rattle.vps_table.proofs.buffers.Buffers.single_layer.Goals as goal

pub returns-in_err-infer : goal.returns-in_err-infer
returns-in_err-infer g c = let b = single_slots g.S.Steps.laws c.in_err-infer.ensures.goes in search (rules, b)

pub returns-in_err-infer-2 : goal.returns-in_err-infer-2
returns-in_err-infer-2 g c = let b = single_entries g.S.Steps.laws c.in_ok-infer.ensures.goes c.in_err-infer-2.ensures.goes in search (rules, b)

pub returns-in_err-infer-3 : goal.returns-in_err-infer-3
returns-in_err-infer-3 g c = let b = single_flag g.S.Steps.laws c.in_ok-infer.ensures.goes c.in_ok-infer-2.ensures.goes c.in_err-infer-3.ensures.goes in search (rules, b)

pub returns : goal.returns
returns g c = single_done g.S.Steps.laws c.in_ok-infer.ensures.goes c.in_ok-infer-2.ensures.goes c.place-dpb.ensures c.place-timing.ensures c.in_ok-infer-3.ensures.goes
