-- `words` meets its contract: the rows are those of the table.
use Rattle.std.proofs.Common.{List, ℕ, Bor, map}
use Rattle.std.proofs.Math.ListN.{get_or-map}
use Rattle.sentences.specs.Laws.{opened}
use Rattle.sentences.specs.Named.{in_table_of}
use Rattle.sentences.proofs.Steps.{words_are}
use Rattle.sentences.proofs.words.Goals as goal

pub returns : goal.returns
unfolding opened
returns c = rw (c.number.ensures, ← get_or-map (map (λ (w : Bor (List ℕ)). w.now))) (words_are (in_table_of c.args.refusal))
