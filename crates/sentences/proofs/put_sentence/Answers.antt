-- `put_sentence` meets its contract: a number that no refusal has has no sentence.
use Rattle.std.proofs.Common.{sym}
use Rattle.texts.specs.Adds.{adds_same, adds_none}
use Rattle.sentences.specs.Named.{unnamed}
use Rattle.sentences.proofs.put_sentence.Goals as goal

pub returns-in_default : goal.returns-in_default
returns-in_default c = adds_same (sym (unnamed _ c.in_default.ensures.1)) (adds_none _)
