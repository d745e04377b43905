-- The promises of the sentences.
use Rattle.std.specs.Prelude.{ℕ, ◌≡◌, List, ◌⊎◌}
use Rattle.std.proofs.Common.{sym, ap, ◌∙◌, subst, inl, inr}
use Rattle.sentences.specs.Sentences.{words_of, sentence_of, number_of}
use Rattle.sentences.specs.Words.{ThreeParts, three_parts}
use Rattle.sentences.specs.Laws.{InTable, Says}
use Rattle.sentences.proofs.Laws.{good, number_or_none}

-- each number of the table: three words, none empty, none with a blank, joined by single blanks
pub sentence_has_three_parts : (n : ℕ) → InTable n → ThreeParts (sentence_of n)
unfolding sentence_of
sentence_has_three_parts n h = three_parts (words_of n) (good n h).words

-- the number comes back from the sentence alone
pub number_of_sentence : (n : ℕ) → InTable n → number_of (sentence_of n) ≡ n
number_of_sentence n h = (good n h).back

-- no two numbers of the table give the same sentence
pub sentences_differ : (n m : ℕ) → InTable n → InTable m → sentence_of n ≡ sentence_of m → n ≡ m
sentences_differ n m h g e = sym (number_of_sentence n h) ∙ ap number_of e ∙ number_of_sentence m g

-- whatever bytes give a number other than 0 are that number's sentence
pub sentence_of_number : (s : List ℕ) (n : ℕ) → number_of s ≡ n → (n ≡ 0 → ⊥) → InTable n × (sentence_of n ≡ s)
sentence_of_number s n e some = go (number_or_none s)
  where
    go : (number_of s ≡ 0) ⊎ Says (number_of s) s → InTable n × (sentence_of n ≡ s)
    go (inl none) = absurd (some (sym e ∙ none))
    go (inr y) = (subst InTable e y.in_table, ap sentence_of (sym e) ∙ y.says)

-- so every other byte list gives 0
pub other_bytes_give_none : (s : List ℕ) → ((n : ℕ) → InTable n → sentence_of n ≡ s → ⊥) → number_of s ≡ 0
other_bytes_give_none s other = go (number_or_none s)
  where
    go : (number_of s ≡ 0) ⊎ Says (number_of s) s → number_of s ≡ 0
    go (inl none) = none
    go (inr y) = absurd (other (number_of s) y.in_table y.says)
