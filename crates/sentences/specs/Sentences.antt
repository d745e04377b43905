-- The sentence of each refusal: three words, the place, the field and the fault, with a blank between them.
use Rattle.std.specs.Prelude.{ℕ, suc, List, [], ◌∷◌, ◌++◌, map, Bool, true, false, length, get_or}
use Prim.Native.String.{String}
use Rattle.lists.specs.Same.{same}
use Rattle.texts.specs.Bytes.{bytes}

-- ── The table ─────────────────────────────────────────────────────────
-- a refusal's words
pub data Row : Type 0 where
  row : (place field fault : String) → Row

-- a row a refusal, from number 1 on
unfoldable pub table : List Row
table =
    row "header" "unit" "too-short"
    ∷ row "header" "type" "wrong"
    ∷ row "lengths" "unit" "too-long"
    ∷ row "lengths" "buffer" "too-short"
    ∷ row "layers" "sublayers" "too-many"
    ∷ row "layers" "ids" "not-rising"
    ∷ row "layers" "reference" "missing"
    ∷ row "sets" "mode" "wrong"
    ∷ row "sets" "output-layer" "missing"
    ∷ row "sets" "profiles" "too-many"
    ∷ row "PTL" "top-sublayer" "too-high"
    ∷ row "PTL" "padding" "not-zero"
    ∷ row "PTL" "index" "past-table"
    ∷ row "code" "zeros" "too-many"
    ∷ row "DPB" "slots" "too-many"
    ∷ row "DPB" "top-sublayer" "too-high"
    ∷ row "DPB" "buffering" "over-15"
    ∷ row "DPB" "reorder" "over-buffering"
    ∷ row "DPB" "depth" "over-8"
    ∷ row "DPB" "index" "past-table"
    ∷ row "timing" "clock" "zero"
    ∷ row "timing" "schedule-count" "over-31"
    ∷ row "timing" "entries" "too-many"
    ∷ row "timing" "top-sublayer" "too-high"
    ∷ row "timing" "duration" "over-2047"
    ∷ row "timing" "index" "past-table"
    ∷ row "end" "stop-bit" "missing"
    ∷ row "end" "stop-bit" "zero"
    ∷ row "end" "padding" "not-zero"
    ∷ row "record" "buffer" "too-short"
    ∷ row "writer" "record" "malformed"
    ∷ row "writer" "buffer" "too-short"
    ∷ row "rates" "item" "missing"
    ∷ row "layers" "set-id" "zero"
    ∷ row "code" "bits" "missing"
    ∷ []

-- the last number that has a sentence
unfoldable pub last_number : ℕ
last_number = length table

-- ── From a number to its sentence ─────────────────────────────────────
unfoldable pub words_of_row : Row → List (List ℕ)
words_of_row (row place field fault) = bytes place ∷ bytes field ∷ bytes fault ∷ []

-- a refusal's words; 0 and numbers past the table have none
unfoldable pub words_of : ℕ → List (List ℕ)
words_of n = get_or ([] ∷ map words_of_row table) n []

-- one of them: 0 the place, 1 the field, 2 the fault
abbrev pub word_of : (number part : ℕ) → List ℕ
word_of n k = get_or (words_of n) k []

abbrev pub blank : ℕ
blank = 32

-- words in a row, a blank between two
unfoldable pub joined : List (List ℕ) → List ℕ
joined [] = []
joined (w ∷ []) = w
joined (w ∷ v ∷ ws) = w ++ (blank ∷ joined (v ∷ ws))

unfoldable pub sentence_of : ℕ → List ℕ
sentence_of n = joined (words_of n)

-- ── And back ──────────────────────────────────────────────────────────
-- whether s is the sentence of a row
unfoldable pub is_sentence : Row → (s : List ℕ) → Bool
is_sentence r s = same (joined (words_of_row r)) s

-- the number of the first of some rows, counted from n, whose sentence is s; 0 if none is
unfoldable pub number_from : (n : ℕ) → List Row → List ℕ → ℕ
number_from n [] s = 0
number_from n (r ∷ rows) s = elim (is_sentence r s) [ true ↦ n | false ↦ number_from (suc n) rows s ]

unfoldable pub number_of : List ℕ → ℕ
number_of = number_from 1 table
