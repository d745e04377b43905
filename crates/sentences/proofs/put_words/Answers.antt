-- `put_words` meets its contract, word by word.
use Rattle.std.proofs.Common.{refl, ap, ◌∙◌, List, ℕ, ◌∷◌}
use Rattle.texts.specs.Adds.{adds_same, adds_then}
use Rattle.refusals.specs.Refusals.{number_of}
use Rattle.sentences.specs.Sentences.{blank}
use Rattle.sentences.specs.Named.{in_table_of}
use Rattle.sentences.proofs.Laws.{sentence_is}
use Rattle.sentences.proofs.Steps.{word_is}
use Rattle.sentences.proofs.put_words.Goals as goal

pub returns : goal.returns
returns c =
    let row = c.words.ensures in
    let place = adds_same (c.as_bytes.ensures.value ∙ word_is _ _ _ _ row refl) c.put.ensures in
    let field = adds_same (ap (λ (w : List ℕ). blank ∷ w) (word_is _ _ _ _ row refl)) c.put_next_word.ensures in
    let fault = adds_same (ap (λ (w : List ℕ). blank ∷ w) (word_is _ _ _ _ row refl)) c.put_next_word-2.ensures in
    adds_same (sentence_is (number_of c.args.refusal) (in_table_of c.args.refusal)) (adds_then (adds_then place field) fault)
