use Rattle.std.proofs.Common.{ℕ, ◌≡◌, ◌<◌, get_or, length}
use Rattle.replay_numbers.specs.Numbers.{number_at, behind_numbers}
use Rattle.replay_numbers.proofs.Content.put_numbers.Given as goal

abbrev pub invariant-loop-number : goal.invariant-loop-number
invariant-loop-number l =
    (length l.numbers ≡ length l.initial.numbers)
    × (l.self.rest.now ≡ behind_numbers l.initial.self.rest.now l.number-index)
    × ((k : ℕ) → k < l.number-index → get_or l.numbers k 0 ≡ number_at (behind_numbers l.initial.self.rest.now k) 0)
