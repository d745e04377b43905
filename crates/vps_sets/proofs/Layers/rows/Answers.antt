-- Behind turn i the rows so far are counted; a row that is refused is the last.
use Rattle.std.proofs.Common.{rules, arith, refl, ap, ◌∙◌, ltb, Bool, ℕ, ◌+◌}
use Rattle.vps_definition.specs.OutputLayerSets.{digit, count_below}
use Rattle.layer_sets.specs.Masks.{bit_of}
use Rattle.layer_sets.specs.Rows.{digit_most}
use Rattle.vps_sets.specs.Rows.{covered, rows_begin, rows_turn, rows_end, rows_break}
use Rattle.vps_sets.proofs.Layers.rows.Goals as goal

pub loop-init : goal.loop-init
loop-init g c = (omega arith, omega arith, rows_begin g.S.Steps.laws _)

pub returns-in_err-outputs : goal.returns-in_err-outputs
returns-in_err-outputs g c =
    let R = c.loop.invariant.2 in
    let b = rows_break g.S.Steps.laws _ c.loop-test.true R (c.in_err-outputs.ensures _ R.rows) in
    search (rules, b)

pub loop-preserved : goal.loop-preserved
loop-preserved g c =
    let R = c.loop.invariant.2 in
    let more = c.is_multi.ensures ∙ ap (λ (x : ℕ). ltb 1 (count_below 64 (bit_of x))) (covered _ _ _ c.masks-closed.ensures c.cover-layers.ensures) in
    let e = c.count_row-multi.ensures ∙ ap (λ (b : Bool). c.loop.multi + digit b) more in (
      omega (arith, c.loop-test.true),
      omega (arith, c.count_row-multi.ensures, digit_most c.is_multi.result, c.loop.invariant.1),
      rows_turn g.S.Steps.laws _ R (c.in_ok-outputs.ensures _ R.rows) e,
    )

pub returns : goal.returns
returns g c = rows_end g.S.Steps.laws _ (omega arith) refl refl c.loop.invariant.2
