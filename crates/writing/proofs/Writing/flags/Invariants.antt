use Rattle.std.specs.Prelude.{◌≡◌}
use Rattle.std.specs.Slice.Iter.{chunks_rest, chunks_size}
use Rattle.writing.specs.Groups.{Grouped}
use Rattle.writing.proofs.Writing.flags.Given as goal

abbrev pub invariant-loop-group : goal.invariant-loop-group
invariant-loop-group l = Grouped l.count l.initial.self (chunks_rest l.group-iterator) l.self × (chunks_size l.group-iterator ≡ 32)
