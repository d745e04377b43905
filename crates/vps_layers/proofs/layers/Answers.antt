-- Behind turn i the layers below i have their closed masks; a layer that is refused is the last.
use Rattle.std.proofs.Common.{rules, arith, refl}
use Rattle.vps_layers.specs.Layers.{layers_begin, layers_turn, layers_end, layers_break}
use Rattle.vps_layers.proofs.layers.Goals as goal

pub loop-i-init : goal.loop-i-init
loop-i-init g c = (omega arith, refl, layers_begin g.S.Steps.laws _)

pub returns-in_err-layer : goal.returns-in_err-layer
returns-in_err-layer g c =
    let T = c.loop-i.invariant.2 in
    let b = layers_break g.S.Steps.laws _ c.loop-i-test.true T (c.in_err-layer.ensures T.refs) in
    search (rules, b)

pub loop-i-preserved : goal.loop-i-preserved
loop-i-preserved g c =
    let T = c.loop-i.invariant.2 in
    let l = c.loop-i-test.true in (
      omega (arith, l),
      search (rules, c.close, c.loop-i),
      layers_turn g.S.Steps.laws _ (omega (arith, l, c.args.h.few_layers)) (omega (arith, l, c.args.h.few_layers, c.loop-i.invariant.1)) c.close.ensures T (c.in_ok-layer.ensures T.refs),
    )

pub returns : goal.returns
returns g c = layers_end g.S.Steps.laws _ (omega arith) (omega (arith, c.args.h.some_layers)) (omega (arith, c.args.h.few_layers)) c.loop-i.invariant.2
