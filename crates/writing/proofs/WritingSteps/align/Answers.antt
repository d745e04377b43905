-- The zeros are the sink's.
use Rattle.std.proofs.Common.{rules, sym, ◌∙◌}
use Rattle.bits.specs.Bits.{field_width, bits_of}
use Rattle.bits.specs.FieldLaws.{bits_length}
use Rattle.writing.specs.Steps.{boundary_width, align_goes}
use Rattle.writing.proofs.WritingSteps.align.Goals as goal

pub returns : goal.returns
returns c =
    let e = c.to_boundary-more.ensures.0 in
    let n = c.to_boundary-more.result in
    align_goes _ _ e (c.push.ensures (bits_of (field_width n) 0) (λ f. sym (bits_length (field_width n) 0 ∙ boundary_width _ e)) (λ x y p. (search (rules, p), λ f. search (rules, p))))
