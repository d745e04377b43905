-- What a call says: success with its values, or a refusal by its number.
use Rattle.std.specs.Prelude.{ℕ}

pub data Answer (A : Type 0) : Type 0 where
  success : A → Answer A
  refusal : ℕ → Answer A
