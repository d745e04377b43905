-- What a word is, and what a sentence of three words is.
use Rattle.std.specs.Prelude.{ℕ, zero, suc, ◌≤◌, ◌<◌, ◌≡◌, refl, List, [], ◌∷◌, ◌++◌, Bool, true, false, ◌&&◌, ◌||◌, leb, eqb, length, get_or}
use Rattle.std.proofs.Common.{sym, ap, ◌∙◌, not-suc-le-zero, le_of_suc-le-suc, arith, leb-true, ne_eqb}
use Rattle.std.proofs.lemmas.Bool.{false≢true}
use Rattle.lists.specs.Table.{and_both}
use Rattle.sentences.specs.Sentences.{blank, joined}

-- a to z, A to Z, 0 to 9 or a hyphen
unfoldable pub letter : ℕ → Bool
letter b = (leb 97 b && leb b 122) || ((leb 65 b && leb b 90) || ((leb 48 b && leb b 57) || eqb b 45))

pub record Word (w : List ℕ) : Type 0 where
  pub some : 1 ≤ length w
  pub letters : (i : ℕ) → i < length w → letter (get_or w i 0) ≡ true

-- a blank is no letter, so a word has none
pub no_blank : {w : List ℕ} → Word w → (i : ℕ) → i < length w → get_or w i 0 ≡ blank → ⊥
unfolding letter
no_blank W i h e = false≢true (ap letter (sym e) ∙ W.letters i h)

-- three words, a blank between two
pub record ThreeParts (s : List ℕ) : Type 0 where
  pub place : List ℕ
  pub field : List ℕ
  pub fault : List ℕ
  pub place_word : Word place
  pub field_word : Word field
  pub fault_word : Word fault
  pub parts : s ≡ place ++ (blank ∷ (field ++ (blank ∷ fault)))

-- ── Up to a blank, and behind it ──────────────────────────────────────
unfoldable pub up_to_blank : List ℕ → List ℕ
up_to_blank [] = []
up_to_blank (b ∷ x) = elim (eqb b blank) [ true ↦ [] | false ↦ b ∷ up_to_blank x ]

unfoldable pub behind_blank : List ℕ → List ℕ
behind_blank [] = []
behind_blank (b ∷ x) = elim (eqb b blank) [ true ↦ x | false ↦ behind_blank x ]

abbrev NoBlank : List ℕ → Type 0
NoBlank w = (i : ℕ) → i < length w → get_or w i 0 ≡ blank → ⊥

first_word : (w x : List ℕ) → NoBlank w → up_to_blank (w ++ (blank ∷ x)) ≡ w
unfolding up_to_blank
first_word [] x h = refl
first_word (b ∷ w) x h = rw (ne_eqb b blank (h 0 (omega arith)), up_to_blank) (ap (λ (l : List ℕ). b ∷ l) (first_word w x (λ i l. h (suc i) (omega (arith, l)))))

rest_of_words : (w x : List ℕ) → NoBlank w → behind_blank (w ++ (blank ∷ x)) ≡ x
unfolding behind_blank
rest_of_words [] x h = refl
rest_of_words (b ∷ w) x h = rw (ne_eqb b blank (h 0 (omega arith)), behind_blank) (rest_of_words w x (λ i l. h (suc i) (omega (arith, l))))

-- so the parts of a sentence can be told apart
pub parts_told_apart : {s : List ℕ} (p q : ThreeParts s) → (p.place ≡ q.place) × ((p.field ≡ q.field) × (p.fault ≡ q.fault))
parts_told_apart {s} p q = (sym (placed p) ∙ placed q, (sym (fielded p) ∙ fielded q, sym (faulted p) ∙ faulted q))
  where
    placed : (r : ThreeParts s) → up_to_blank s ≡ r.place
    placed r = ap up_to_blank r.parts ∙ first_word r.place _ (no_blank r.place_word)

    behind : (r : ThreeParts s) → behind_blank s ≡ r.field ++ (blank ∷ r.fault)
    behind r = ap behind_blank r.parts ∙ rest_of_words r.place _ (no_blank r.place_word)

    fielded : (r : ThreeParts s) → up_to_blank (behind_blank s) ≡ r.field
    fielded r = ap up_to_blank (behind r) ∙ first_word r.field r.fault (no_blank r.field_word)

    faulted : (r : ThreeParts s) → behind_blank (behind_blank s) ≡ r.fault
    faulted r = ap behind_blank (behind r) ∙ rest_of_words r.field r.fault (no_blank r.field_word)

-- ── The same, as tests ────────────────────────────────────────────────
unfoldable pub all_letters : List ℕ → Bool
all_letters [] = true
all_letters (b ∷ w) = letter b && all_letters w

unfoldable pub is_word : List ℕ → Bool
is_word w = leb 1 (length w) && all_letters w

unfoldable pub three_words : List (List ℕ) → Bool
three_words [] = false
three_words (p ∷ []) = false
three_words (p ∷ f ∷ []) = false
three_words (p ∷ f ∷ x ∷ []) = is_word p && (is_word f && is_word x)
three_words (p ∷ f ∷ x ∷ y ∷ ws) = false

all_letters_lem : (w : List ℕ) → all_letters w ≡ true → (i : ℕ) → i < length w → letter (get_or w i 0) ≡ true
unfolding all_letters
all_letters_lem [] e i h = absurd (not-suc-le-zero h)
all_letters_lem (b ∷ w) e zero h = (and_both (letter b) (all_letters w) e).0
all_letters_lem (b ∷ w) e (suc i) h = all_letters_lem w (and_both (letter b) (all_letters w) e).1 i (le_of_suc-le-suc h)

is_word_lem : (w : List ℕ) → is_word w ≡ true → Word w
unfolding is_word
is_word_lem w e =
    let both = and_both (leb 1 (length w)) (all_letters w) e in
    record { some = leb-true 1 (length w) both.0; letters = all_letters_lem w both.1 }

-- which three words they are
pub record Three (ws : List (List ℕ)) : Type 0 where
  pub place : List ℕ
  pub field : List ℕ
  pub fault : List ℕ
  pub words : ws ≡ place ∷ field ∷ fault ∷ []
  pub place_word : Word place
  pub field_word : Word field
  pub fault_word : Word fault

pub three_words_lem : (ws : List (List ℕ)) → three_words ws ≡ true → Three ws
unfolding three_words
three_words_lem [] e = absurd (false≢true e)
three_words_lem (p ∷ []) e = absurd (false≢true e)
three_words_lem (p ∷ f ∷ []) e = absurd (false≢true e)
three_words_lem (p ∷ f ∷ x ∷ []) e =
    let first = and_both (is_word p) (is_word f && is_word x) e in
    let rest = and_both (is_word f) (is_word x) first.1 in
    record {
      place = p;
      field = f;
      fault = x;
      words = refl;
      place_word = is_word_lem p first.0;
      field_word = is_word_lem f rest.0;
      fault_word = is_word_lem x rest.1;
    }
three_words_lem (p ∷ f ∷ x ∷ y ∷ ws) e = absurd (false≢true e)

-- joined, they are the sentence
pub three_parts : (ws : List (List ℕ)) → Three ws → ThreeParts (joined ws)
unfolding joined
three_parts ws t = record {
  place = t.place;
  field = t.field;
  fault = t.fault;
  place_word = t.place_word;
  field_word = t.field_word;
  fault_word = t.fault_word;
  parts = ap joined t.words;
}
