-- `with_flag` meets its contract: a flag that is 1 adds its layer, and another changes nothing.
use mathlib.Core.Path.{sym, ap, ◌∙◌}
use mathlib.Core.Bool.{Bool, ◌&&◌, ◌||◌, or-false}
use borrow.Author.Tests.{eq-eqb, ne_eqb}
use lib.Dec.{eqb}
use Rattle.vps_definition.specs.OutputLayerSets.{mask_of}
use Rattle.layer_sets.specs.Masks.{bit_of}
use Rattle.layer_sets.specs.MaskLaws.{mask_ext, mask_of_bits}
use borrow.Author.Rules.{rules}
use Rattle.layer_sets.proofs.with_flag.Goals as goal

pub returns-then-v-eq1 : goal.returns-then-v-eq1
returns-then-v-eq1 c =
    c.with.ensures
    ∙ ap (λ (b : Bool). mask_of 64 (λ k. bit_of c.args.mask k || (b && eqb c.args.j k))) (sym (eq-eqb c.args.v 1 c.if-v-eq1.true))

pub returns : goal.returns
returns c =
    sym (mask_of_bits 64 c.args.mask (search rules))
    ∙ mask_ext 64 _ _ (λ k l. sym (ap (λ (b : Bool). bit_of c.args.mask k || (b && eqb c.args.j k)) (ne_eqb c.args.v 1 c.if-v-eq1.false) ∙ or-false _))
