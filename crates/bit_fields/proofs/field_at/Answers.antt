use Prim.Native.Nat.{◌/◌, ◌%◌, ◌<◌}
use mathlib.Core.Path.{◌≡◌, refl, sym, ◌∙◌}
use native.Mathlib.Omega.{arith}
use borrow.Author.Tests.{lt-ltb}
use lib.ListN.{length, drop}
use Rattle.std.proofs.Common.{rules}
use Rattle.std.proofs.lemmas.Grind.{common_steps}
use Rattle.bits.specs.FieldLaws.{field_one}
use Rattle.bit_fields.specs.Window.{window_start, window_start_le}
use Rattle.bit_fields.proofs.Steps.{field_past_end, field_in_rest, field_in_first, field_in_window}
use Rattle.bit_fields.proofs.field_at.Goals as goal

pub returns-then-width-eq1 : goal.returns-then-width-eq1
returns-then-width-eq1 c = c.bit_at.ensures ∙ rw c.if-width-eq1.true (sym (field_one c.args.bytes.now c.args.at))

pub returns-in_default : goal.returns-in_default
returns-in_default c =
    let s = c.args.bytes.now in
    let l : length s < c.args.at / 8 = search rules in
    sym (field_past_end s c.args.at _ (omega arith))

pub returns-then-width-le8 : goal.returns-then-width-le8
returns-then-width-le8 c =
    let e : c.in-Some.rest.now ≡ drop (c.args.at / 8) c.args.bytes.now = grind (arith, common_steps) in
    c.short_field.ensures ∙ field_in_rest c.args.bytes.now c.args.at c.args.width e ∙ rw (lt-ltb c.args.width 32 (omega arith)) refl

pub returns : goal.returns
returns c =
    let s = c.args.bytes.now in
    let i = window_start (length s) (c.args.at / 8) in
    let W = c.in-Some-window_for.ensures in
    c.field_in.ensures
    ∙ rw (W.bits, W.before, ← c.field_width-w.ensures.0) (field_in_window s i 64 c.args.at c.field_width-w.result (omega (arith, window_start_le (length s) (c.args.at / 8))) (omega (arith, W.before)))

pub returns-2 : goal.returns-2
returns-2 c =
    c.field_in-2.ensures
    ∙ rw (c.first_bytes.ensures, ← c.field_width-w.ensures.0) (field_in_first c.behind-rest.result.now 64 (c.args.at % 8) c.field_width-w.result (omega arith) ∙ field_in_rest c.args.bytes.now c.args.at c.field_width-w.result c.behind-rest.ensures)
