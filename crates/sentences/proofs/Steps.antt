-- The code's rows, a sentence in room for every one, and a number found by its sentence.
use Rattle.std.specs.Prelude.{ℕ, suc, ◌-◌, ◌≤◌, ◌<◌, ◌≡◌, List, [], ◌∷◌, map, length, get_or, take}
use Rattle.std.proofs.Common.{refl, sym, ap, ◌∙◌, Bor, arith, le-leb}
use Rattle.std.proofs.lemmas.Bool.{lt-leb}
use Rattle.std.proofs.Math.ListN.{get_or-map}
use Rattle.refusals.specs.Answer.Answer.{success, refusal}
use Rattle.refusals.specs.Number.{output_too_short}
use Rattle.refusals.specs.Lent.{lent, output_after}
use Rattle.lists.specs.Stored.{overlaid}
use Rattle.texts.specs.Text.{Puts, puts_whole}
use Rattle.texts.specs.Adds.{Adds, adds_whole}
use Rattle.texts.specs.declared.Text.{Text}
use Rattle.sentences.specs.Sentences.{table, words_of_row, words_of, word_of, sentence_of}
use Rattle.sentences.specs.Laws.{InTable, sentence_bytes}
use Rattle.sentences.proofs.Laws.{sentence_most}

-- ── Rows of borrowed words ────────────────────────────────────────────
pub words_are : {n : ℕ} → InTable n → get_or (map words_of_row table) (n - 1) [] ≡ words_of n
unfolding words_of
words_are {n} t = ap (λ (k : ℕ). get_or ([] ∷ map words_of_row table) k []) one_more
  where
    one_more : suc (n - 1) ≡ n
    one_more = omega (arith, t.first)

-- one word of a row
pub word_is : (row : List (Bor (List ℕ))) (n k : ℕ) (none : Bor (List ℕ)) → map (λ (w : Bor (List ℕ)). w.now) row ≡ words_of n → none.now ≡ [] → (get_or row k none).now ≡ word_of n k
word_is row n k none e f = sym (get_or-map (λ (w : Bor (List ℕ)). w.now) row k none) ∙ (λ i. get_or (e i) k (f i))

-- ── A sentence in room for every one ──────────────────────────────────
pub said_whole : (n : ℕ) {text text' : Text} → Adds (sentence_of n) text text' → text.place ≡ 0 → sentence_bytes ≤ length text.bytes.now → take text'.place text'.bytes.now ≡ sentence_of n
said_whole n a e room = adds_whole a e (omega (arith, sentence_most n, room))

-- ── Into a lent output ────────────────────────────────────────────────
module _ (said s out : List ℕ) (e : said ≡ s) where
  pub too_short : length out < length said → (refusal output_too_short ≡ lent s out) × (out ≡ output_after s out)
  unfolding lent output_after
  too_short h = let l : length out < length s = omega (arith, h, ap length e) in rw (lt-leb (length s) (length out) l) (refl, refl)

  pub has_room : {next : ℕ} {out' : List ℕ} → length said ≤ length out → Puts said 0 next out out' → (success (length said) ≡ lent s out) × (out' ≡ output_after s out)
  unfolding lent output_after
  has_room h p =
      let l : length s ≤ length out = omega (arith, h, ap length e) in
      rw (le-leb (length s) (length out) l) (ap success (ap length e), (puts_whole p h).1 ∙ λ i. overlaid (e i) out)
