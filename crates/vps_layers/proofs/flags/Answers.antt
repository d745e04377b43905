-- Behind turn j the mask has the flags so far; a flag that is refused is the last.
use Rattle.std.proofs.Common.{rules, arith}
use Rattle.vps_layers.specs.Flags.{flags_begin, flags_turn, flags_end, flags_break}
use Rattle.vps_layers.proofs.flags.Goals as goal

pub loop-j-init : goal.loop-j-init
loop-j-init g c = (omega arith, λ few f I. flags_begin g.S.Steps.laws f)

pub returns-in_err-go : goal.returns-in_err-go
returns-in_err-go g c few f I = let b = flags_break g.S.Steps.laws f c.loop-j-test.true (c.loop-j.invariant.1 few f I) ((I _ _ _ c.in_err-go.ensures).gives _) in search (rules, b)

pub loop-j-preserved : goal.loop-j-preserved
loop-j-preserved g c = (
  omega (arith, c.loop-j-test.true),
  λ few f I.
      let F = I _ _ _ c.in_ok-go.ensures in
      flags_turn g.S.Steps.laws f (omega (arith, c.loop-j-test.true, few)) F.within c.with_flag-mask.ensures (c.loop-j.invariant.1 few f I) (F.gives _),
)

pub returns : goal.returns
returns g c few f I = flags_end g.S.Steps.laws f (omega arith) (c.loop-j.invariant.1 few f I)
