-- Each time is a field.
use Rattle.table_steps.proofs.fields.Goals as goal

pub returns : goal.returns
returns g c = c.repeat.ensures _ (λ x y r p. p)
