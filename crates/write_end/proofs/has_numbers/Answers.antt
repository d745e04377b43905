-- The numbers that stand first are compared with the list one by one.
use Rattle.std.proofs.Common.{ℕ, ◌≡◌, ◌-◌, rules, arith, ap, ◌∙◌, length, take, length-take}
use Rattle.std.proofs.lemmas.Iterator.{YieldsList-from_slice, YieldsList-from_zip, same_from_all}
use Rattle.write_end.specs.Numbers.{too_few, has_decided}
use Rattle.write_end.proofs.has_numbers.Goals as goal

pub returns-in_default : goal.returns-in_default
returns-in_default c = too_few c.args.numbers.now c.args.list.now (omega (arith, c.in_default.ensures.lookup.0))

pub returns : goal.returns
returns c =
    let x = c.args.numbers.now in
    let l = c.args.list.now in
    let L = c.in-Some.ensures.lookup.0 in
    let n : length l - 0 ≡ length l = omega arith in
    let first : c.in-Some.first.now ≡ take (length l) x = L.2 ∙ ap (λ (k : ℕ). take k x) n in
    let long : length c.in-Some.first.now ≡ length l = omega (arith, ap length first, length-take (length l) x, L.1) in
    has_decided x c.all.result first
    (same_from_all c.all.new.self _ _ c.in-Some.first.now l c.all.ensures.ran (YieldsList-from_zip (YieldsList-from_slice c.in-Some.first.now (search rules)) (YieldsList-from_slice l (search rules))) long
    (λ x q k. search rules)
    (λ x q k. search rules))
