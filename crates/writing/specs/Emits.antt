-- What a writing of a record into a lent output owes to a table.
use Rattle.std.specs.Prelude.{ℕ, ◌+◌, ◌*◌, ◌≤◌, ◌<◌, ◌≡◌, List, ◌++◌, length, drop, Result, Ok, Err}
use Rattle.refusals.specs.declared.refusal.Refusal.{Refusal}
use Rattle.refusals.specs.declared.refusal.Refusal.TheVariants.{NotWellFormed}
use Rattle.bit_sink.specs.Holds.{Holds}
use Rattle.vps_definition.specs.Syntax.{Syntax, Token, numbers, Written, emit}
use Rattle.vps_definition.specs.Syntax.Written.{wrote, bad}
use Rattle.vps_definition.specs.Reading.{most_rbsp_bytes}
use Rattle.writing.specs.declared.Writing.{Writing}

-- the bits of the longest RBSP
abbrev pub most_bits : ℕ
most_bits = 8 * most_rbsp_bytes

-- a writing that goes on: the bits d are pushed, from byte `start` of the output on, which was lent
pub record Ready (start : ℕ) (d : List ℕ) (s : Writing) (lent : List ℕ) : Type 0 where
  pub short : length d ≤ most_bits
  pub holds : Holds start d s.so_far lent s.out.now

-- a table that is written behind the bits d: its result, its tokens and bits, and the state behind them
pub record Wrote {A : Type 0} (m : Syntax A) (rec : List ℕ) (start : ℕ) (d lent : List ℕ) (s : Writing) (a : A) (s' : Writing) : Type 0 where
  pub tokens : List Token
  pub bits : List ℕ
  pub is : emit m rec (drop s.c rec) (length d) ≡ wrote a tokens (drop s'.c rec) bits
  pub moved : s'.c ≡ s.c + length (numbers tokens)
  pub ready : Ready start (d ++ bits) s' lent

-- a writing that is not well formed, or that gets too long
abbrev pub Fails : {A : Type 0} → ℕ → Written A → Type 0
Fails at (wrote a t x b) = most_bits < at + length b
Fails at bad = Unit {0}

-- what stays in any case: the record, whose output it is, and how long that is
pub record Stays (s s' : Writing) : Type 0 where
  pub rec : s'.rec ≡ s.rec
  pub same : s'.out.ghost_name ≡ s.out.ghost_name
  pub long : length s'.out.now ≡ length s.out.now

-- the table's writing succeeds and is made, or it fails and is refused
abbrev pub Says : {A : Type 0} → Syntax A → List ℕ → Writing → Result A Refusal → Writing → Type 0
Says m rec s (Ok a) s' = (start : ℕ) (d lent : List ℕ) → Ready start d s lent → Wrote m rec start d lent s a s'
Says m rec s (Err e) s' = (e ≡ NotWellFormed) × ((start : ℕ) (d lent : List ℕ) → Ready start d s lent → Fails (length d) (emit m rec (drop s.c rec) (length d)))

-- from a state, a table is written to an answer and a state
pub record Emits {A : Type 0} (m : Syntax A) (s : Writing) (r : Result A Refusal) (s' : Writing) : Type 0 where
  pub stays : Stays s s'
  pub says : Says m s.rec.now s r s'
