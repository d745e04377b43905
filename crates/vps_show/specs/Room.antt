-- The text of every input has room in the buffer: a number takes at most eleven bytes, and the sections of a record follow
-- one another, so that their lines have no more numbers than the record.
use Rattle.std.specs.Prelude.{ℕ, ◌+◌, ◌*◌, ◌≤◌, ◌≡◌, refl, List, [], ◌∷◌, ◌++◌, Bool, true, false, cond, length}
use Rattle.std.proofs.Common.{arith, length-append}
use Rattle.vps_reader.specs.Parse.{Parsed, untouched}
use Rattle.text_numbers.specs.Decimal.{decimal32, places_most}
use Rattle.vps_show.specs.Shown.{spaced, ok_text, refused_text, shown, record_numbers}

-- a space and ten digits
abbrev pub number_bytes : ℕ
number_bytes = 11

-- nine names, each with its newline
abbrev pub name_bytes : ℕ
name_bytes = 58

-- `ok`, a space, twenty digits and a newline
abbrev pub ok_bytes : ℕ
ok_bytes = 24

abbrev pub text_bytes : ℕ
text_bytes = record_numbers * number_bytes + name_bytes + ok_bytes

-- ── The lines of a record ─────────────────────────────────────────────
pub spaced_most : (x : List ℕ) → length (spaced x) ≤ number_bytes * length x
unfolding spaced
spaced_most [] = omega arith
spaced_most (n ∷ x) = omega (arith, length-append (32 ∷ decimal32 n) (spaced x), places_most 10 n, spaced_most x)

-- x takes what the numbers from one place up to another do, and so many bytes more
pub record Takes (x : List ℕ) (from to more : ℕ) : Type 0 where
  pub most : length x + number_bytes * from ≤ more + number_bytes * to

pub takes_then : {x y : List ℕ} {from middle to more further : ℕ} → Takes x from middle more → Takes y middle to further → Takes (x ++ y) from to (more + further)
takes_then {x} {y} p q = record { most = omega (arith, length-append x y, p.most, q.most) }

-- ── The text of an answer ─────────────────────────────────────────────
pub ok_most : (n : ℕ) → length (ok_text n) ≤ ok_bytes
unfolding ok_text
ok_most n = simp length-append (omega (arith, places_most 20 n))

pub refused_fits : (n : ℕ) → length (refused_text n) ≤ text_bytes
unfolding refused_text
refused_fits n = simp length-append (omega (arith, places_most 20 n))

-- what is shown of a call's answer and record
pub record Fits (p : Parsed) : Type 0 where
  pub fits : length (shown p.answer p.vps_record) ≤ text_bytes

pub fits_if : (b : Bool) {p q : Parsed} → (b ≡ true → Fits p) → (b ≡ false → Fits q) → Fits (cond b p q)
fits_if true h g = h refl
fits_if false h g = g refl

pub untouched_fits : (n : ℕ) (work lent : List ℕ) → Fits (untouched n work lent)
unfolding shown
untouched_fits n work lent = record { fits = refused_fits n }
