-- `put` meets its contract: behind each turn there is a byte more.
use Rattle.std.proofs.Common.{ℕ, sym, ◌∙◌, ap, take, arith, add-one, take-suc, take_all}
use Rattle.texts.specs.Adds.{adds_same, adds_none, adds_then}
use Rattle.texts.proofs.Text.put.Goals as goal

pub loop-byte-init : goal.loop-byte-init
loop-byte-init c = adds_none _

pub loop-byte-preserved : goal.loop-byte-preserved
loop-byte-preserved c =
    let i = c.loop-byte.byte-index in
    adds_same (sym (take-suc c.args.bytes.now i 0 c.loop-byte-test.true) ∙ ap (λ (k : ℕ). take k c.args.bytes.now) (sym (add-one i))) (adds_then c.loop-byte.invariant c.put_byte.ensures)

pub returns : goal.returns
returns c = adds_same (take_all c.loop-byte.byte-index c.args.bytes.now (omega (arith, c.loop-byte-test.false))) c.loop-byte.invariant
