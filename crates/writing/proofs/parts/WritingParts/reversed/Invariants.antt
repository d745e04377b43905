use Rattle.std.proofs.Common.{◌≡◌, ◌-◌, ◌≤◌, length, take, drop}
use Rattle.std.specs.Slice.Iter.{iter_rest}
use Rattle.std.specs.Iterator.Adapters.{rev_source}
use Rattle.bits.specs.Bits.{field_width}
use Rattle.writing.specs.Reversed.{Falling}
use Rattle.writing.proofs.parts.WritingParts.reversed.Given as goal

abbrev pub invariant-loop-v : goal.invariant-loop-v
invariant-loop-v l =
    Falling l.count (field_width l.width) l.initial.self (length l.yielded) l.self l.sum × (length l.yielded ≤ l.count)
    × (iter_rest (rev_source l.v-iterator) ≡ take (l.count - length l.yielded) (drop l.initial.self.c l.initial.self.rec.now))
