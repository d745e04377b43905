-- A value fits where nothing of it is left above the width.
use borrow.Author.Tests.{lt-ltb}
use Rattle.writing.specs.Steps.{none_above}
use Rattle.writing.proofs.is_field.Goals as goal

pub returns-then-width-lt32 : goal.returns-then-width-lt32
returns-then-width-lt32 c = rw (lt-ltb c.args.width 32 c.if-width-lt32.true) (none_above c.args.value c.args.width)
