-- Numbers of several bytes, the highest byte first; past the end each byte is 0.
use Rattle.std.specs.Prelude.{ℕ, zero, suc, ◌+◌, ◌*◌, ◌<◌, ◌≤◌, ◌≡◌, ◌≢◌, Result, Ok, Err, refl, cond, List, ltb, get_or, drop, length}
use Rattle.std.proofs.Common.{lt-ltb, le-ltb, add-one}
use Rattle.refusals.specs.declared.refusal.Refusal.{Refusal}
use Rattle.refusals.specs.declared.refusal.NoRefusal.{NoRefusal}
use Rattle.refusals.specs.Refusals.{number_of}

abbrev pub two : List ℕ → ℕ
two x = get_or x 0 0 * 256 + get_or x 1 0

abbrev pub four : List ℕ → ℕ
four x = two x * 65536 + two (drop 2 x)

abbrev pub eight : List ℕ → ℕ
eight x = four x * 4294967296 + four (drop 4 x)

-- A number among others: a byte below 255, or 255 and four bytes.
abbrev pub number_at : List ℕ → ℕ → ℕ
number_at x at = cond (ltb (get_or x at 0) 255) (get_or x at 0) (four (drop 1 (drop at x)))

-- The place behind it.
abbrev pub place_behind : List ℕ → ℕ → ℕ
place_behind x at = cond (ltb at (length x)) (at + cond (ltb (get_or x at 0) 255) 1 5) at

pub number_of_byte : (x : List ℕ) (at : ℕ) → get_or x at 0 < 255 → number_at x at ≡ get_or x at 0
number_of_byte x at h = rw (lt-ltb (get_or x at 0) 255 h) refl

pub number_of_four : (x : List ℕ) (at : ℕ) → 255 ≤ get_or x at 0 → number_at x at ≡ four (drop 1 (drop at x))
number_of_four x at h = rw (le-ltb (get_or x at 0) 255 h) refl

pub place_past_end : (x : List ℕ) (at : ℕ) → length x ≤ at → place_behind x at ≡ at
place_past_end x at h = rw (le-ltb at (length x) h) refl

pub place_behind_byte : (x : List ℕ) (at : ℕ) → at < length x → get_or x at 0 < 255 → place_behind x at ≡ at + 1
place_behind_byte x at h b = rw (lt-ltb at (length x) h, lt-ltb (get_or x at 0) 255 b) refl

pub place_behind_four : (x : List ℕ) (at : ℕ) → at < length x → 255 ≤ get_or x at 0 → place_behind x at ≡ at + 5
place_behind_four x at h b = rw (lt-ltb at (length x) h, le-ltb (get_or x at 0) 255 b) refl

-- What stands behind so many numbers.
unfoldable pub behind_numbers : List ℕ → ℕ → List ℕ
behind_numbers x zero = x
behind_numbers x (suc n) = drop (place_behind (behind_numbers x n) 0) (behind_numbers x n)

pub behind_none : (x : List ℕ) → x ≡ behind_numbers x 0
unfolding behind_numbers
behind_none x = refl

pub behind_more : (x rest : List ℕ) (n : ℕ) → rest ≡ behind_numbers x n → drop (place_behind rest 0) rest ≡ behind_numbers x (n + 1)
unfolding behind_numbers
behind_more x rest n e = rw (add-one n, e) refl

-- The outcome of a call by the number recorded: 0 is a success, any other the refusal of that number, or none has it.
abbrev pub Recorded : {T : Type 0} → ℕ → T → Result (Result T Refusal) NoRefusal → Type 0
Recorded number said (Ok (Ok said')) = (number ≡ 0) × (said' ≡ said)
Recorded number said (Ok (Err refusal)) = number_of refusal ≡ number
Recorded number said (Err e) = (1 ≤ number) × ((refusal : Refusal) → number_of refusal ≢ number)
