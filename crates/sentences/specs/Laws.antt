-- What holds of the table, by tests that compute over it, and what follows for every number and all bytes.
use Rattle.std.specs.Prelude.{ℕ, zero, suc, ◌+◌, ◌≤◌, ◌<◌, ◌≡◌, refl, List, [], ◌∷◌, ◌++◌, map, Bool, true, false, ◌&&◌, leb, eqb, length, get_or}
use Rattle.std.proofs.Common.{ap, not-suc-le-zero, le_of_suc-le-suc, arith, leb-true, leb-false}
use Rattle.std.proofs.lemmas.List.{length-map}
use Rattle.lists.specs.Same.{same, same_true}
use Rattle.lists.specs.Table.{every_below}
use Rattle.texts.specs.Bytes.{bytes}
use Rattle.sentences.specs.Sentences.{Row, table, last_number, words_of_row, words_of, blank, joined, sentence_of, is_sentence, number_from, number_of}
use Rattle.sentences.specs.Words.{letter, all_letters, is_word, three_words, Three}

-- every definition that the table is computed by
unfoldable pub opened : Unit {0}
unfolding same bytes table last_number words_of_row words_of joined sentence_of is_sentence number_from number_of letter all_letters is_word three_words
opened = tt

-- a number of the table
pub record InTable (n : ℕ) : Type 0 where
  pub first : 1 ≤ n
  pub last : n ≤ last_number

pub in_table : {n : ℕ} → (n ≡ 0 → ⊥) → n ≤ last_number → InTable n
in_table some h = record { first = omega (arith, some); last = h }

-- three words of at most 15 bytes each, and two blanks
abbrev pub sentence_bytes : ℕ
sentence_bytes = 47

-- ── One test of the table ─────────────────────────────────────────────
-- of number k + 1: three words, not too long, and the number comes back
unfoldable pub row_good : ℕ → Bool
row_good k = three_words (words_of (suc k)) && (leb (length (sentence_of (suc k))) sentence_bytes && eqb (number_of (sentence_of (suc k))) (suc k))

pub table_good : every_below row_good last_number ≡ true
unfolding opened row_good
table_good = refl

pub record Good (n : ℕ) : Type 0 where
  pub words : Three (words_of n)
  pub short : length (sentence_of n) ≤ sentence_bytes
  pub back : number_of (sentence_of n) ≡ n

-- ── Outside of the table ──────────────────────────────────────────────
past_end : {A : Type 0} (l : List A) (k : ℕ) (d : A) → length l ≤ k → get_or l k d ≡ d
past_end [] k d h = refl
past_end (x ∷ l) zero d h = absurd (not-suc-le-zero h)
past_end (x ∷ l) (suc k) d h = past_end l k d (le_of_suc-le-suc h)

pub no_words : (n : ℕ) → (InTable n → ⊥) → words_of n ≡ []
unfolding words_of last_number
no_words zero h = refl
no_words (suc n) h = go (leb (suc n) last_number) refl
  where
    go : (b : Bool) → leb (suc n) last_number ≡ b → get_or ([] ∷ map words_of_row table) (suc n) [] ≡ []
    go true e = absurd (h (record { first = omega arith; last = leb-true (suc n) last_number e }))
    go false e = past_end (map words_of_row table) n [] (omega (arith, leb-false (suc n) last_number e, length-map table words_of_row))

-- so their sentence is empty
pub nothing_said : (n : ℕ) → words_of n ≡ [] → sentence_of n ≡ []
unfolding sentence_of joined
nothing_said n e = ap joined e

-- ── Word by word ──────────────────────────────────────────────────────
unfoldable pub spoken : List (List ℕ) → List ℕ
spoken ws = get_or ws 0 [] ++ (blank ∷ get_or ws 1 []) ++ (blank ∷ get_or ws 2 [])

-- ── Which bytes give which number ─────────────────────────────────────
pub is_sentence_lem : (r : Row) (s : List ℕ) → is_sentence r s ≡ true → joined (words_of_row r) ≡ s
unfolding is_sentence
is_sentence_lem r s e = same_true (joined (words_of_row r)) s e

pub record Found (m : ℕ) (rows : List Row) (s : List ℕ) : Type 0 where
  pub at : ℕ
  pub inside : at < length rows
  pub is : number_from m rows s ≡ m + at
  pub says : joined (get_or (map words_of_row rows) at []) ≡ s

pub record Says (n : ℕ) (s : List ℕ) : Type 0 where
  pub in_table : InTable n
  pub says : sentence_of n ≡ s
