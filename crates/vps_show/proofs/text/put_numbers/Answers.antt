-- `put_numbers` meets its contract: each number is one more of those that are put; ten digits are enough for one of 32 bits.
use Rattle.std.proofs.Common.{ℕ, List, ◌∷◌, sym, ap, ◌∙◌, arith}
use Rattle.texts.specs.Adds.{adds_same, adds_none, adds_then}
use Rattle.text_numbers.specs.Decimal.{decimal, decimal_ten}
use Rattle.vps_show.specs.Shown.{spaced_none, spaced_more}
use Rattle.vps_show.proofs.text.put_numbers.Goals as goal

pub loop-n-init : goal.loop-n-init
loop-n-init c = adds_same (sym spaced_none) (adds_none _)

pub loop-n-preserved : goal.loop-n-preserved
loop-n-preserved c =
    let number = adds_same (ap (λ (n : ℕ). 32 ∷ decimal n) c.from.ensures ∙ ap (λ (x : List ℕ). 32 ∷ x) (decimal_ten _ (omega (arith, c.type_inv.numbers c.loop-n.n-index)))) c.put_number.ensures in
    adds_same (spaced_more _ _ c.loop-n-test.true) (adds_then c.loop-n.invariant number)
