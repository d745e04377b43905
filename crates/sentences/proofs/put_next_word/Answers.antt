-- `put_next_word` meets its contract.
use Rattle.std.proofs.Common.{List, ℕ, ◌∷◌, ap}
use Rattle.texts.specs.Adds.{adds_same, adds_then}
use Rattle.sentences.specs.Sentences.{blank}
use Rattle.sentences.proofs.put_next_word.Goals as goal

pub returns : goal.returns
returns c = adds_same (ap (λ (w : List ℕ). blank ∷ w) c.as_bytes.ensures.value) (adds_then c.put.ensures c.put-2.ensures)
