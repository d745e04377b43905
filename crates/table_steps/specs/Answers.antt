-- The code's answer may have another type than the table's: it stands for the table's by a relation of the two.
use Rattle.std.specs.Prelude.{ℕ, ◌≡◌, List, Result, Ok, Err}
use Rattle.refusals.specs.declared.refusal.Refusal.{Refusal}
use Rattle.vps_definition.specs.Syntax.{Syntax}
use Rattle.vps_definition.specs.Words.{sum}

-- gone along to an answer that stands for the code's
abbrev pub Gives : {S A B : Type 0} (goes : (A : Type 0) → Syntax A → S → Result A Refusal → S → Type 0) → (A → B → Type 0) → Syntax B → S → Result A Refusal → S → Type 0
Gives {B = B} goes R m s (Ok a) s' = (b : B) × R a b × goes B m s (Ok b) s'
Gives {B = B} goes R m s (Err e) s' = goes B m s (Err e) s'

-- the answer is the sum of the table's numbers
abbrev pub IsSum : ℕ → List ℕ → Type 0
IsSum n l = n ≡ sum l

-- wherever a step leads, it goes along the table
abbrev pub GoesAlong : {S : Type 0} → (Syntax (Unit {0}) → S → Result (Unit {0}) Refusal → S → Type 0) → Syntax (Unit {0}) → (S → Result (Unit {0}) Refusal → S → Type 0) → Type 0
GoesAlong {S} goes m leads = (x y : S) (r : Result (Unit {0}) Refusal) → leads x r y → goes m x r y
