-- `sentence` meets its contract: the buffer has room for every sentence.
use Rattle.std.proofs.Common.{rules, ap, length, ◌∙◌, arith}
use Rattle.texts.specs.Adds.{puts_first}
use Rattle.sentences.proofs.Steps.{said_whole, too_short, has_room}
use Rattle.sentences.proofs.sentence.Goals as goal

pub returns-then-output-said : goal.returns-then-output-said
returns-then-output-said c =
    let said = c.so_far-said.ensures ∙ said_whole c.args.number c.put_sentence.ensures c.at-text.ensures.place (omega (arith, ap length c.at-text.ensures.bytes)) in
    let none = too_short _ _ _ said c.if-output-said.true in
    record { result_value = none.0; output_after = none.1 }

pub returns : goal.returns
returns c =
    let said = c.so_far-said.ensures ∙ said_whole c.args.number c.put_sentence.ensures c.at-text.ensures.place (omega (arith, ap length c.at-text.ensures.bytes)) in
    let room = has_room _ _ c.args.output.now said c.if-output-said.false (puts_first c.put.ensures c.at.ensures.place c.at.ensures.bytes) in
    let written = room.1 in
    record { result_value = room.0; output_after = search (rules, written, c.put.ensures.same_reference, c.at.ensures.same_reference) }
