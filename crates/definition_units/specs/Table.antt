-- The form of the tables: questions to the definitions, each with the Rust's answer.
use Rattle.std.specs.Prelude.{ℕ, zero, suc, ◌/◌, ◌%◌, List, [], ◌∷◌}
use Rattle.refusals.specs.Answer.{Answer}
use Rattle.refusals.specs.Answer.Answer.{success, refusal}
use Rattle.refusals.specs.Number.{not_well_formed}
use Rattle.vps_definition.specs.Reading.{Reading, read_unit}
use Rattle.vps_definition.specs.Reading.Reading.{accepts}
use Rattle.vps_definition.specs.Writing.{write_record}

pub data Question : Type 0 where
  -- a unit's record, and a record's unit
  read write : List ℕ → Question
  -- both, of a unit and its record
  there_and_back : (unit vps_record : List ℕ) → Question

pub data Reply : Type 0 where
  says : Reading → Reply
  gives : Answer (List ℕ) → Reply
  says_and_gives : Reading → Answer (List ℕ) → Reply

pub record Case : Type 0 where
  pub question : Question
  pub answer : Reply

-- the n bytes of a number, the highest first, before s: in hexadecimal the number shows the bytes
unfoldable pub bytes_before : (n v : ℕ) → List ℕ → List ℕ
bytes_before zero v s = s
bytes_before (suc n) v s = bytes_before n (v / 256) (v % 256 ∷ s)

abbrev pub bytes : (n v : ℕ) → List ℕ
bytes n v = bytes_before n v []

-- a unit with its reading
abbrev pub unit : (n v : ℕ) → Reading → Case
unit n v a = record { question = read (bytes n v); answer = says a }

-- a unit that is read as a record, which is written as the unit
abbrev pub trip : (n v : ℕ) (vps_record : List ℕ) (bits-used : ℕ) → Case
trip n v r b = record { question = there_and_back (bytes n v) r; answer = says_and_gives (accepts r b) (success (bytes n v)) }

-- a record with what is written, and one that is not well formed
abbrev pub written : List ℕ → (n v : ℕ) → Case
written r n v = record { question = write r; answer = gives (success (bytes n v)) }

abbrev pub broken : List ℕ → Case
broken r = record { question = write r; answer = gives (refusal not_well_formed) }

unfoldable pub reply : Question → Reply
reply (read s) = says (read_unit s)
reply (write r) = gives (write_record r)
reply (there_and_back s r) = says_and_gives (read_unit s) (write_record r)

unfoldable pub replies : List Case → List Reply
replies [] = []
replies (c ∷ t) = reply c.question ∷ replies t

unfoldable pub answers : List Case → List Reply
answers [] = []
answers (c ∷ t) = c.answer ∷ answers t
