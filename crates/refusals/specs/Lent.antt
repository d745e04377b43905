-- Bytes into a lent output: what a call says of them, and what the output holds then.
use Rattle.std.specs.Prelude.{ℕ, List, ◌++◌, cond, leb, length, drop}
use Rattle.refusals.specs.Answer.{Answer}
use Rattle.refusals.specs.Answer.Answer.{success, refusal}
use Rattle.refusals.specs.Number.{output_too_short}

-- the bytes s: their number, or a refusal where the output is too short
unfoldable pub lent : List ℕ → List ℕ → Answer ℕ
lent s out = cond (leb (length s) (length out)) (success (length s)) (refusal output_too_short)

-- and the output then: the bytes, with what was behind them; unchanged on a refusal
unfoldable pub output_after : List ℕ → List ℕ → List ℕ
output_after s out = cond (leb (length s) (length out)) (s ++ drop (length s) out) out
