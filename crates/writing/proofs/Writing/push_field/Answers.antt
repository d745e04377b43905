-- The field is the sink's.
use Rattle.std.proofs.Common.{rules, sym, ◌∙◌}
use Rattle.bits.specs.Bits.{field_width, bits_of}
use Rattle.bits.specs.FieldLaws.{bits_length}
use Rattle.writing.proofs.Writing.push_field.Goals as goal

pub returns : goal.returns
returns c =
    rw c.is_field.ensures at c.push.ensures (bits_of (field_width c.args.width) c.args.value) (λ f. c.field_width.ensures.0 ∙ sym (bits_length _ c.args.value)) (λ x y p. (search (rules, p), λ f. search (rules, p)))
