-- The places among bits that are not refused.
use Rattle.std.specs.Prelude.{ℕ, ◌≡◌, ◌<◌, ◌≤◌, ◌^◌, Result, MatchResult}
use Rattle.refusals.specs.declared.refusal.Refusal.{Refusal}
use Rattle.refusals.specs.declared.refusal.Refusal.TheVariants.{NotWellFormed}

-- the place itself, or a refusal from 2^63 on
abbrev pub IsPlace : ℕ → Result ℕ Refusal → Type 0
IsPlace at r = MatchResult r (λ p. (p ≡ at) × (at < 2 ^ 63)) (λ e. (e ≡ NotWellFormed) × (2 ^ 63 ≤ at))
