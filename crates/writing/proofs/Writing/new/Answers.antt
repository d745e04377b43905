-- No bits are pushed yet.
use native.Mathlib.Omega.{arith}
use Rattle.writing.proofs.Writing.new.Goals as goal

pub returns-clause-ready : goal.returns-clause-ready
returns-clause-ready c l = record { short = omega arith; holds = c.new.ensures.holds l _ }
