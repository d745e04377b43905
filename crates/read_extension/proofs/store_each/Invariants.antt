use Rattle.std.proofs.Common.{◌≡◌}
use Rattle.std.proofs.lemmas.List.Edits.{sets}
use Rattle.vps_definition.specs.Reading.{bits_at}
use Rattle.read_extension.proofs.store_each.Given as goal

abbrev pub invariant-loop-j : goal.invariant-loop-j
invariant-loop-j l = l.numbers ≡ sets l.initial.numbers 0 (bits_at l.bytes l.bit_pos l.j)
