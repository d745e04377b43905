-- No field, or each turn stores the field before those stored so far.
use Rattle.std.proofs.Common.{rules, [], refl, arith, ◌∙◌, ◌+◌, ◌*◌, ◌-◌, ap}
use Rattle.bits.specs.Bits.{field_at, field_width}
use Rattle.vps_definition.specs.Syntax.{◌>>=◌}
use Rattle.vps_definition.specs.Words.{sum, keeps, nothing}
use Rattle.vps_definition.specs.ProfileTierLevel.{falling, reversed}
use Rattle.reading.specs.Laws.{laws}
use Rattle.reading.specs.Steps.{meets_shut}
use Rattle.reading.specs.Reversed.{stored_begin, stored_more, stored_all, room_reversed}
use Rattle.reading.proofs.ReadingParts.reversed.Goals as goal

pub returns-then-count-eq0-clause-goes : goal.returns-then-count-eq0-clause-goes
unfolding sum reversed falling keeps nothing ◌>>=◌
returns-then-count-eq0-clause-goes c = rw c.if-count-eq0.true ([], refl, laws.goes_done)

pub returns-in_err-reach-clause-goes : goal.returns-in_err-reach-clause-goes
returns-in_err-reach-clause-goes c =
    let s = c.args.self.now in
    search (rules, meets_shut, room_reversed c.args.count (field_width c.args.width) s.bytes.now s.at s.n (omega (arith, c.if-count-eq0.false)))

pub loop-i-init : goal.loop-i-init
loop-i-init c = stored_begin

pub loop-i-preserved : goal.loop-i-preserved
loop-i-preserved c =
    let s = c.args.self.now in
    let w = c.field_width-w.ensures.0 in
    let v = c.field_at-v.ensures ∙ (λ k. field_at c.loop-i.self.bytes.now (s.at + (c.loop-i.i - 1) * w k) (field_width c.args.width)) in
    stored_more (omega (arith, c.loop-i-test.true)) (search rules) v c.loop-i.invariant c.push.ensures

pub returns-clause-goes : goal.returns-clause-goes
returns-clause-goes c =
    let s = c.args.self.now in
    let F = c.loop-i.invariant in
    stored_all (omega (arith, c.loop-i-test.false)) F (record { bytes = refl; name = refl; at' = ap (λ k. s.at + c.args.count * k) c.field_width-w.ensures.0; n' = refl; rec' = refl })
