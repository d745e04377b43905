-- The words of tables that a step has a name for and the definition has not.
use Rattle.std.specs.Prelude.{ℕ, ◌-◌, get_or, Option, None, Some}
use Rattle.refusals.specs.declared.refusal.Refusal.{Refusal}
use Rattle.refusals.specs.Refusals.{number_of}
use Rattle.vps_definition.specs.Syntax.{Syntax}
use Rattle.vps_definition.specs.Syntax.Syntax.{field, late, done}
use Rattle.vps_definition.specs.Words.{nothing}
use Rattle.vps_definition.specs.Vps.{slot_at}

-- how an alignment names the refusal of a one: 0 where ones are passed over
abbrev pub alignment_number : Option Refusal → ℕ
alignment_number None = 0
alignment_number (Some refusal) = number_of refusal

-- vps_max_layers_minus1; the record's first number is one more
abbrev pub layers_minus1 : Syntax ℕ
layers_minus1 = late 6 (λ r x. get_or r 0 0 - 1) done

-- a field that the record keeps and no later word asks for
abbrev pub kept_field : ℕ → Syntax (Unit {0})
kept_field w = field w 0 (λ v. nothing)

-- number j of slot i, u(w), coded before the slots
abbrev pub slot_number : (i j w : ℕ) → Syntax ℕ
slot_number i j w = late w (λ r x. get_or (slot_at i r x) j 0) done
