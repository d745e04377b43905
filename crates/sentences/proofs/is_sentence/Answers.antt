-- `is_sentence` meets its contract: the buffer has room for every sentence.
use Rattle.std.proofs.Common.{rules, ap, length, ◌∙◌, arith}
use Rattle.sentences.proofs.Steps.{said_whole}
use Rattle.sentences.proofs.is_sentence.Goals as goal

pub returns : goal.returns
returns c =
    let said = c.so_far.ensures ∙ said_whole c.args.number c.put_sentence.ensures c.at-text.ensures.place (omega (arith, ap length c.at-text.ensures.bytes)) in
    rw (← said) (search rules)
