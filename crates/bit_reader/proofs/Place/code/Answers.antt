-- A code that stands whole in the window is read from it.
use mathlib.Core.Path.{sym}
use Rattle.bit_reader.proofs.Steps.{code_in_window}
use Rattle.bit_reader.proofs.Place.code.Goals as goal

pub overflow_cast-code_num-then-zeros-skipped : goal.overflow_cast-code_num-then-zeros-skipped
overflow_cast-code_num-then-zeros-skipped c = record { fits = (code_in_window _ _ c.in-Some.ensures c.if-skipped-le63.true c.if-zeros-skipped.true).fits }

pub overflow_sub-result : goal.overflow_sub-result
overflow_sub-result c = (code_in_window _ _ c.in-Some.ensures c.if-skipped-le63.true c.if-zeros-skipped.true).some

pub returns-then-zeros-skipped : goal.returns-then-zeros-skipped
returns-then-zeros-skipped c = sym (code_in_window _ _ c.in-Some.ensures c.if-skipped-le63.true c.if-zeros-skipped.true).code
