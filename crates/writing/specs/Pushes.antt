-- What the parts of a step owe: whether bits may be pushed, which number is next, and that bits are pushed.
use Rattle.std.specs.Prelude.{ℕ, ◌+◌, ◌≤◌, ◌<◌, ◌≡◌, List, ◌++◌, Bool, true, false, length, get_or, Result, Ok, Err}
use Rattle.std.proofs.Common.{MutBor}
use Rattle.refusals.specs.declared.refusal.Refusal.{Refusal}
use Rattle.refusals.specs.declared.refusal.Refusal.TheVariants.{NotWellFormed}
use Rattle.bit_sink.specs.declared.Sink.{Sink}
use Rattle.bit_sink.specs.Puts.{SameOutput, Puts}
use Rattle.writing.specs.declared.Writing.{Writing}
use Rattle.writing.specs.Emits.{most_bits, Ready, Stays}

-- whether n bits of a value that fits its word, or not, may follow `at` others
abbrev pub Takes : Bool → ℕ → ℕ → Bool → Type 0
Takes fits at n true = (fits ≡ true) × (at + n ≤ most_bits)
Takes fits at n false = fits ≡ true → most_bits < at + n

-- the record's next number is v, and `plus` or more; or there is none
pub record IsNext (plus : ℕ) (s : Writing) (v : ℕ) : Type 0 where
  pub left : s.c < length s.rec.now
  pub is : get_or s.rec.now s.c 0 ≡ v
  pub enough : plus ≤ v

pub record NoNext (plus : ℕ) (s : Writing) (e : Refusal) : Type 0 where
  pub says : e ≡ NotWellFormed
  pub low : s.c < length s.rec.now → get_or s.rec.now s.c 0 < plus

abbrev pub HasNext : ℕ → Writing → Result ℕ Refusal → Type 0
HasNext plus s (Ok v) = IsNext plus s v
HasNext plus s (Err e) = NoNext plus s e

-- the bits b are pushed, of a value that fits its word
pub record Pushed (fits : Bool) (b : List ℕ) (s s' : Writing) : Type 0 where
  pub fitting : fits ≡ true
  pub ready : (start : ℕ) (d lent : List ℕ) → Ready start d s lent → Ready start (d ++ b) s' lent

-- a step of a sink, which puts those bits into the same output
abbrev pub StepPuts : (MutBor Sink → MutBor Sink → Type 0) → Bool → List ℕ → Type 0
StepPuts step fits b = (x y : MutBor Sink) → step x y → SameOutput x.now y.now × (fits ≡ true → Puts b x.now y.now)

-- unless the value doesn't fit, or there get to be too many; then what was pushed before stays pushed
abbrev pub SaysPushed : Bool → List ℕ → Writing → Result (Unit {0}) Refusal → Writing → Type 0
SaysPushed fits b s (Ok u) s' = Pushed fits b s s'
SaysPushed fits b s (Err e) s' = (e ≡ NotWellFormed) × (fits ≡ true → most_bits < s.so_far.bits + length b) × (s'.so_far ≡ s.so_far)

pub record Pushes (fits : Bool) (b : List ℕ) (s : Writing) (r : Result (Unit {0}) Refusal) (s' : Writing) : Type 0 where
  pub stays : Stays s s'
  pub next : s'.c ≡ s.c
  pub says : SaysPushed fits b s r s'
