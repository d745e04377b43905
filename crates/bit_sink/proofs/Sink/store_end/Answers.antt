-- The end of stuffing, by its two cases.
use mathlib.Core.Path.{refl, sym}
use native.Mathlib.Nat.{add-zero}
use native.Mathlib.Omega.{arith}
use borrow.Author.Tests.{le-leb, lt-leb}
use Rattle.std.proofs.Common.{rules}
use Rattle.stuffing.specs.Stuffing.{stuff_behind}
use Rattle.bit_sink.proofs.Sink.store_end.Goals as goal

pub returns-then-self-ge2 : goal.returns-then-self-ge2
unfolding stuff_behind
returns-then-self-ge2 c =
    let g = le-leb 2 c.args.self.now.so_far.zeros (omega (arith, c.if-self-ge2.true)) in
    record { output = record { same = refl; long = search rules }; used = λ l. rw g refl; stored = λ l. rw g c.store.ensures }

pub returns-else-self-ge2 : goal.returns-else-self-ge2
unfolding stuff_behind
returns-else-self-ge2 c =
    let g = lt-leb 2 c.args.self.now.so_far.zeros (omega (arith, c.if-self-ge2.false)) in
    record { output = record { same = refl; long = refl }; used = λ l. rw g (sym (add-zero _)); stored = λ l. rw g refl }
