-- What holds of the table, by tests that compute over it, and what follows for every number and all bytes.
use Rattle.std.specs.Prelude.{ℕ, zero, suc, ◌≤◌, ◌≡◌, refl, List, [], ◌∷◌, ◌++◌, Bool, true, false, ◌⊎◌, leb, length}
use Rattle.std.proofs.Common.{sym, ap, ◌∙◌, append_assoc, inl, inr, add-zero, arith, leb-true, leb-false, eqb-true}
use Rattle.lists.specs.Table.{and_both, every_below_lem}
use Rattle.sentences.specs.Sentences.{Row, table, last_number, words_of, word_of, blank, joined, sentence_of, is_sentence, number_from, number_of}
use Rattle.sentences.specs.Words.{three_words, three_words_lem}
use Rattle.sentences.specs.Laws.{InTable, sentence_bytes, row_good, table_good, Good, no_words, nothing_said, spoken, is_sentence_lem, Found, Says}

pub good : (n : ℕ) → InTable n → Good n
unfolding row_good
good zero h = absurd (omega (arith, h.first))
good (suc k) h =
    let all = every_below_lem row_good last_number table_good k (omega (arith, h.last)) in
    let one = and_both (three_words (words_of (suc k))) _ all in
    let two = and_both (leb (length (sentence_of (suc k))) sentence_bytes) _ one.1 in
    record {
      words = three_words_lem (words_of (suc k)) one.0;
      short = leb-true (length (sentence_of (suc k))) sentence_bytes two.0;
      back = eqb-true (number_of (sentence_of (suc k))) (suc k) two.1;
    }

-- no number has a longer sentence
pub sentence_most : (n : ℕ) → length (sentence_of n) ≤ sentence_bytes
sentence_most n = go (leb 1 n) refl (leb n last_number) refl
  where
    go : (a : Bool) → leb 1 n ≡ a → (b : Bool) → leb n last_number ≡ b → length (sentence_of n) ≤ sentence_bytes
    go true e true f = (good n (record { first = leb-true 1 n e; last = leb-true n last_number f })).short
    go true e false f = omega (arith, ap length (nothing_said n (no_words n (λ t. omega (arith, t.last, leb-false n last_number f)))))
    go false e b f = omega (arith, ap length (nothing_said n (no_words n (λ t. omega (arith, t.first, leb-false 1 n e)))))

pub sentence_is : (n : ℕ) → InTable n → word_of n 0 ++ (blank ∷ word_of n 1) ++ (blank ∷ word_of n 2) ≡ sentence_of n
unfolding spoken sentence_of joined
sentence_is n h =
    let t = (good n h).words in
    let e : words_of n ≡ t.place ∷ t.field ∷ t.fault ∷ [] = t.words in
    ap spoken e ∙ append_assoc t.place (blank ∷ t.field) (blank ∷ t.fault) ∙ sym (ap joined e)

found_or_none : (m : ℕ) (rows : List Row) (s : List ℕ) → (number_from m rows s ≡ 0) ⊎ Found m rows s
unfolding number_from
found_or_none m [] s = inl refl
found_or_none m (r ∷ rows) s = go (is_sentence r s) refl (found_or_none (suc m) rows s)
  where
    go : (b : Bool) → is_sentence r s ≡ b → (number_from (suc m) rows s ≡ 0) ⊎ Found (suc m) rows s → (number_from m (r ∷ rows) s ≡ 0) ⊎ Found m (r ∷ rows) s
    go true e later = inr (record { at = 0; inside = omega arith; is = rw (e, number_from) (sym (add-zero m)); says = is_sentence_lem r s e })
    go false e (inl none) = inl (rw (e, number_from) none)
    go false e (inr F) = inr (record { at = suc F.at; inside = omega (arith, F.inside); is = rw (e, number_from) (omega (arith, F.is)); says = F.says })

-- no number, or that of the sentence
pub number_or_none : (s : List ℕ) → (number_of s ≡ 0) ⊎ Says (number_of s) s
unfolding number_of last_number sentence_of words_of
number_or_none s = go (found_or_none 1 table s)
  where
    go : (number_from 1 table s ≡ 0) ⊎ Found 1 table s → (number_of s ≡ 0) ⊎ Says (number_of s) s
    go (inl none) = inl none
    go (inr F) =
        let e : number_from 1 table s ≡ suc F.at = omega (arith, F.is) in
        inr (record {
          in_table = record { first = omega (arith, e); last = omega (arith, e, F.inside) };
          says = ap sentence_of e ∙ F.says;
        })
