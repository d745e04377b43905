-- What vps-why prints for a unit: `accepted`, or the refusal's number and its sentence.
use Rattle.std.specs.Prelude.{ℕ, ◌≤◌, ◌≡◌, Bool, cond, length}
use Rattle.std.proofs.Math.Path.{refl}
use mathlib.Core.List.{List, [], ◌∷◌, ◌++◌}
use Rattle.std.proofs.Math.Bool.{true, false}
use Rattle.std.proofs.Common.{ap, ◌∙◌, arith, length-append}
use Rattle.std.proofs.Math.Dec.{leb}
use Rattle.lists.specs.Stored.{overlaid}
use Rattle.texts.specs.Bytes.{bytes}
use Rattle.texts.specs.Text.{Puts, puts_whole}
use Rattle.text_numbers.specs.Decimal.{decimal, places_most}
use Rattle.sentences.specs.Sentences.{sentence_of}
use Rattle.sentences.proofs.Laws.{sentence_most}
use Rattle.vps_definition.specs.Reading.{Reading, read_unit, most_rbsp_bytes}
use Rattle.vps_definition.specs.Reading.Reading.{accepts, refuses}
use Rattle.vps_reader.specs.Parse.{Parse, parse_of, parse_unit}
use Rattle.vps_reader.specs.Parse.Parse.{accepted, too_short, refused}
use Rattle.vps_reader.specs.Rooms.{unit_by_reading}

abbrev pub accepted_line : List ℕ
accepted_line = bytes "accepted\n"

unfoldable pub refused_line : (number : ℕ) → List ℕ
refused_line k = decimal k ++ (32 ∷ []) ++ sentence_of k ++ (10 ∷ [])

-- of a reading, which knows no buffers
unfoldable pub line : Reading → List ℕ
line (accepts r n) = accepted_line
line (refuses k) = refused_line k

unfoldable pub why : (unit : List ℕ) → List ℕ
why unit = line (read_unit unit)

-- ── The reader's answer ───────────────────────────────────────────────
unfoldable pub parsed_line : Parse → List ℕ
parsed_line (accepted n bits) = accepted_line
parsed_line (too_short needed) = accepted_line
parsed_line (refused k) = refused_line k

of_parsed : (lent : List ℕ) (x : Reading) → parsed_line (parse_of lent x) ≡ line x
unfolding parsed_line parse_of line
of_parsed lent (accepts r n) = go (leb (length r) (length lent))
  where
    go : (b : Bool) → parsed_line (cond b (accepted (length r) n) (too_short (length r))) ≡ accepted_line
    go true = refl
    go false = refl
of_parsed lent (refuses k) = refl

-- a work buffer that is long enough for every unit hides nothing, and the record buffer's length doesn't matter
pub of_unit : (work lent : List ℕ) → most_rbsp_bytes ≤ length work → (u : List ℕ) → parsed_line (parse_unit u work lent).answer ≡ why u
unfolding why
of_unit work lent room u = ap parsed_line (unit_by_reading work lent room u).answered ∙ of_parsed lent (read_unit u)

-- ── Room ──────────────────────────────────────────────────────────────
-- twenty digits, a blank, a sentence and a newline
abbrev pub line_bytes : ℕ
line_bytes = 69

line_fits : (x : Reading) → length (line x) ≤ line_bytes
unfolding line refused_line bytes
line_fits (accepts r n) = omega arith
line_fits (refuses k) = simp length-append (omega (arith, places_most 20 k, sentence_most k))

pub why_whole : (u : List ℕ) {next : ℕ} {text text' : List ℕ} → Puts (why u) 0 next text text' → line_bytes ≤ length text
    → (next ≡ length (why u)) × (text' ≡ overlaid (why u) text)
unfolding why
why_whole u p room = puts_whole p (omega (arith, line_fits (read_unit u), room))
