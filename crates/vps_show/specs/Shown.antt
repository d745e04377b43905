-- What vps-show prints: `ok` and the length, and a line a section; or `refused` and the number; or `too long`.
use Rattle.std.specs.Prelude.{ℕ, zero, suc, ◌+◌, ◌-◌, ◌≤◌, ◌<◌, ◌≡◌, refl, List, [], ◌∷◌, ◌++◌, cond, leb, length, replicate, take, drop, get_or, Err}
use Rattle.std.proofs.Common.{sym, ap, ◌∙◌, add-zero, zero-add, add-one, append-nil, append_assoc, not-suc-le-zero, le_of_suc-le-suc, arith, le-leb}
use Rattle.std.proofs.lemmas.Bool.{lt-leb}
use Rattle.refusals.specs.Refusals.{number_of}
use Rattle.vps_definition.specs.Record.{start_of, end_of}
use Rattle.vps_reader.specs.Parse.{Parse, parse_number, parse_unit}
use Rattle.vps_reader.specs.Parse.Parse.{accepted, too_short, refused}
use Rattle.vps_reader.specs.Answers.{parsed_answer, refusal_of}
use Rattle.vps_reader.specs.declared.parsed.NotParsed.{NotParsed}
use Rattle.vps_reader.specs.declared.parsed.NotParsed.TheVariants.{RecordTooShort, Refused}
use Rattle.text_numbers.specs.Decimal.{decimal, decimal32}

-- each number of 32 bits behind a space
unfoldable pub spaced : List ℕ → List ℕ
spaced [] = []
spaced (n ∷ x) = (32 ∷ decimal32 n) ++ spaced x

abbrev pub newline : List ℕ
newline = 10 ∷ []

-- section k of a record
abbrev pub part : List ℕ → ℕ → List ℕ
part r k = take (end_of r k - start_of r k) (drop (start_of r k) r)

abbrev pub line : (name : List ℕ) → List ℕ → ℕ → List ℕ
line name r k = name ++ spaced (part r k) ++ newline

-- the names of the sections
abbrev pub general_name : List ℕ
general_name = 103 ∷ 101 ∷ 110 ∷ 101 ∷ 114 ∷ 97 ∷ 108 ∷ []

abbrev pub layers_name : List ℕ
layers_name = 108 ∷ 97 ∷ 121 ∷ 101 ∷ 114 ∷ 115 ∷ []

abbrev pub rows_name : List ℕ
rows_name = 114 ∷ 111 ∷ 119 ∷ 115 ∷ []

abbrev pub ptls_name : List ℕ
ptls_name = 112 ∷ 116 ∷ 108 ∷ 115 ∷ []

abbrev pub ols_name : List ℕ
ols_name = 111 ∷ 108 ∷ 115 ∷ []

abbrev pub dpb_name : List ℕ
dpb_name = 100 ∷ 112 ∷ 98 ∷ []

abbrev pub timing_name : List ℕ
timing_name = 116 ∷ 105 ∷ 109 ∷ 105 ∷ 110 ∷ 103 ∷ []

abbrev pub extension_name : List ℕ
extension_name = 101 ∷ 120 ∷ 116 ∷ 101 ∷ 110 ∷ 115 ∷ 105 ∷ 111 ∷ 110 ∷ []

abbrev pub trailer_name : List ℕ
trailer_name = 116 ∷ 114 ∷ 97 ∷ 105 ∷ 108 ∷ 101 ∷ 114 ∷ []

unfoldable pub first_lines : List ℕ → List ℕ
first_lines r = line general_name r 0 ++ line layers_name r 1 ++ line rows_name r 2 ++ line ptls_name r 3 ++ line ols_name r 4

unfoldable pub last_lines : List ℕ → List ℕ
last_lines r = line dpb_name r 5 ++ line timing_name r 6 ++ line extension_name r 7 ++ line trailer_name r 8

-- ok, and the length
unfoldable pub ok_text : (length : ℕ) → List ℕ
ok_text n = (111 ∷ 107 ∷ []) ++ (32 ∷ decimal n) ++ newline

unfoldable pub record_text : List ℕ → List ℕ
record_text r = first_lines r ++ last_lines r

-- refused, and the number
unfoldable pub refused_text : (number : ℕ) → List ℕ
refused_text n = (114 ∷ 101 ∷ 102 ∷ 117 ∷ 115 ∷ 101 ∷ 100 ∷ []) ++ (32 ∷ decimal n) ++ newline

-- of an answer, and what the lent record then holds
unfoldable pub shown : Parse → (lent : List ℕ) → List ℕ
shown (accepted n bits) lent = ok_text n ++ record_text (take n lent)
shown (too_short needed) lent = refused_text (parse_number (too_short needed))
shown (refused n) lent = refused_text (parse_number (refused n))

-- without a record, the number of the refusal
pub shown_refused : (e : NotParsed) (lent : List ℕ) → refused_text (number_of (refusal_of e)) ≡ shown (parsed_answer (Err e)) lent
unfolding shown
shown_refused (RecordTooShort needed) lent = refl
shown_refused (Refused e) lent = refl

-- the bytes of a unit and of the work buffer, and the numbers of the record buffer
abbrev pub unit_bytes : ℕ
unit_bytes = 4096

abbrev pub record_numbers : ℕ
record_numbers = 8192

-- of a unit
unfoldable pub shown_unit : List ℕ → List ℕ
shown_unit unit =
    shown (parse_unit unit (replicate unit_bytes 0) (replicate record_numbers 0)).answer
    (parse_unit unit (replicate unit_bytes 0) (replicate record_numbers 0)).vps_record

-- `too long` and a newline
abbrev pub too_long : List ℕ
too_long = 116 ∷ 111 ∷ 111 ∷ 32 ∷ 108 ∷ 111 ∷ 110 ∷ 103 ∷ 10 ∷ []

-- of an input, which is a unit if it has at most 4,096 bytes
unfoldable pub shown_input : List ℕ → List ℕ
shown_input input = cond (leb (length input) unit_bytes) (shown_unit input) too_long

pub shown_short : (input : List ℕ) → length input ≤ unit_bytes → shown_unit input ≡ shown_input input
unfolding shown_input
shown_short input h = rw (le-leb (length input) unit_bytes h) refl

pub shown_long : (input : List ℕ) → unit_bytes < length input → too_long ≡ shown_input input
unfolding shown_input
shown_long input h = rw (lt-leb (length input) unit_bytes h) refl

-- ── Number by number ──────────────────────────────────────────────────
spaced_next : (x : List ℕ) (i : ℕ) → i < length x → spaced (take i x) ++ (32 ∷ decimal32 (get_or x i 0)) ≡ spaced (take (suc i) x)
unfolding spaced
spaced_next [] i h = absurd (not-suc-le-zero h)
spaced_next (n ∷ x) zero h = sym (append-nil (32 ∷ decimal32 n))
spaced_next (n ∷ x) (suc i) h = append_assoc (32 ∷ decimal32 n) (spaced (take i x)) (32 ∷ decimal32 (get_or x i 0)) ∙ ap (λ (l : List ℕ). (32 ∷ decimal32 n) ++ l) (spaced_next x i (le_of_suc-le-suc h))

pub spaced_none : spaced [] ≡ []
unfolding spaced
spaced_none = refl

pub spaced_more : (x : List ℕ) (i : ℕ) → i < length x → spaced (take i x) ++ (32 ∷ decimal32 (get_or x i 0)) ≡ spaced (take (i + 1) x)
spaced_more x i h = spaced_next x i h ∙ ap (λ (k : ℕ). spaced (take k x)) (sym (add-one i))

-- ── Line by line ──────────────────────────────────────────────────────
abbrev pub names : List (List ℕ)
names = general_name ∷ layers_name ∷ rows_name ∷ ptls_name ∷ ols_name ∷ dpb_name ∷ timing_name ∷ extension_name ∷ trailer_name ∷ []

-- the lines of sections by their names, from section k on
unfoldable pub lines : List (List ℕ) → List ℕ → (k : ℕ) → List ℕ
lines [] r k = []
lines (name ∷ others) r k = line name r k ++ lines others r (suc k)

lines_next : (x : List (List ℕ)) (r : List ℕ) (k i : ℕ) → i < length x → lines (take i x) r k ++ line (get_or x i []) r (k + i) ≡ lines (take (suc i) x) r k
unfolding lines
lines_next [] r k i h = absurd (not-suc-le-zero h)
lines_next (name ∷ x) r k zero h = rw (add-zero k) (sym (append-nil (line name r k)))
lines_next (name ∷ x) r k (suc i) h =
    append_assoc (line name r k) (lines (take i x) r (suc k)) (line (get_or x i []) r (k + suc i))
    ∙ ap (λ (l : List ℕ). line name r k ++ l) (ap (λ (j : ℕ). lines (take i x) r (suc k) ++ line (get_or x i []) r j) next ∙ lines_next x r (suc k) i (le_of_suc-le-suc h))
  where
    next : k + suc i ≡ suc k + i
    next = omega arith

pub lines_none : (r : List ℕ) → lines [] r 0 ≡ []
unfolding lines
lines_none r = refl

pub lines_more : (x : List (List ℕ)) (r : List ℕ) (i : ℕ) → i < length x → lines (take i x) r 0 ++ line (get_or x i []) r i ≡ lines (take (i + 1) x) r 0
lines_more x r i h =
    ap (λ (k : ℕ). lines (take i x) r 0 ++ line (get_or x i []) r k) (sym (zero-add i))
    ∙ lines_next x r 0 i h
    ∙ ap (λ (k : ℕ). lines (take k x) r 0) (sym (add-one i))

-- all of them are the record's
pub lines_are : (r : List ℕ) → lines names r 0 ≡ record_text r
unfolding lines first_lines last_lines record_text
lines_are r = in_order (line general_name r 0) (line layers_name r 1) (line rows_name r 2) (line ptls_name r 3) (line ols_name r 4) (line dpb_name r 5) (line timing_name r 6) (line extension_name r 7) (line trailer_name r 8)
  where
    in_order : (a b c d e f g h i : List ℕ) → a ++ (b ++ (c ++ (d ++ (e ++ (f ++ (g ++ (h ++ (i ++ [])))))))) ≡ (a ++ b ++ c ++ d ++ e) ++ (f ++ g ++ h ++ i)
    in_order a b c d e f g h i = simp (append_assoc, append-nil)
