use Rattle.std.proofs.Common.{ℕ, ◌-◌, ◌%◌, ◌<◌, HoldsAt}
use Rattle.replay_numbers.proofs.fill_pattern.Given as goal

abbrev pub invariant-loop-i : goal.invariant-loop-i
invariant-loop-i g l = (k : ℕ) → k < l.i → HoldsAt (λ y. g.T.From.from_gives (255 - k % 256) y) l.buffer k
