-- The ones behind the place's bit stand in its byte or in those behind it.
use Rattle.std.proofs.Common.{sym, ◌∙◌}
use Rattle.bit_reader.proofs.Steps.{more_here, more_behind}
use Rattle.bit_reader.proofs.Place.more_data.Goals as goal

pub returns-then-field_at-ne0 : goal.returns-then-field_at-ne0
returns-then-field_at-ne0 c = more_here _ _ (λ e. c.if-field_at-ne0.true (c.field_at.ensures ∙ e))

pub returns : goal.returns
returns c = c.is_any_set.ensures ∙ rw c.behind.ensures (more_behind _ _ (sym c.field_at.ensures ∙ c.if-field_at-ne0.false))
