-- What a reading owes to a table: its answer, its place, and the numbers that it stores are those of the table's reading.
use Rattle.std.specs.Prelude.{ℕ, ◌+◌, ◌≡◌, List, Result, Ok, Err, length}
use Rattle.std.proofs.lemmas.List.Edits.{sets}
use Rattle.refusals.specs.declared.refusal.Refusal.{Refusal}
use Rattle.refusals.specs.Refusals.{number_of}
use Rattle.vps_definition.specs.Syntax.{Syntax, Token, numbers, starts, Outcome, run}
use Rattle.vps_definition.specs.Syntax.Outcome.{accepted, refused}
use Rattle.reading.specs.declared.Reading.{Reading}
use Rattle.reading.specs.Fits.{Fits}

-- the same bytes, and the same lent record, as long as before
pub record Kept (s s' : Reading) : Type 0 where
  pub bytes : s'.bytes ≡ s.bytes
  pub name : s'.rec.ghost_name ≡ s.rec.ghost_name
  pub long : length s'.rec.now ≡ length s.rec.now

-- a reading that was accepted: its result, the place behind it, and its numbers stored from the record's next on
pub record Went {A : Type 0} (b : A) (t : List Token) (next : ℕ) (s : Reading) (r : Result A Refusal) (s' : Reading) : Type 0 where
  pub result : r ≡ Ok b
  pub place : s'.at ≡ next
  pub cursor : s'.n ≡ s.n + length (numbers t)
  pub stored : s'.rec.now ≡ sets s.rec.now s.n (numbers t)

-- a reading that was refused: by its number, with the numbers before the refusal stored likewise
pub record Stopped {A : Type 0} (k : ℕ) (t : List Token) (s : Reading) (r : Result A Refusal) (s' : Reading) : Type 0 where
  pub refusal : Refusal
  pub result : r ≡ Err refusal
  pub named : number_of refusal ≡ k
  pub cursor : s'.n ≡ s.n + length (numbers t)
  pub stored : s'.rec.now ≡ sets s.rec.now s.n (numbers t)

abbrev pub After : {A : Type 0} → Outcome A → Reading → Result A Refusal → Reading → Type 0
After (accepted b t next) s r s' = Went b t next s r s'
After (refused k t) s r s' = Stopped k t s r s'

-- the code goes as the table's reading does
pub record Meets (A : Type 0) (m : Syntax A) (s : Reading) (r : Result A Refusal) (s' : Reading) : Type 0 where
  pub kept : Kept s s'
  pub goes : Fits m s.bytes.now s.at s.n → After (run m s.bytes.now s.at) s r s'

-- and where the table is accepted its sections start at these numbers
pub record Marked (A : Type 0) (m : Syntax A) (s : Reading) (r : Result A Refusal) (s' : Reading) (l : List ℕ) : Type 0 where
  pub meets : Meets A m s r s'
  pub marks : {b : A} {t : List Token} {next : ℕ} → Fits m s.bytes.now s.at s.n → run m s.bytes.now s.at ≡ accepted b t next → starts s.n t ≡ l
