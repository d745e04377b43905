-- What a sink and its lent output hold after some bits.
use Rattle.std.specs.Prelude.{ℕ, ◌*◌, ◌/◌, ◌%◌, ◌^◌, ◌<◌, ◌≡◌, List, length, drop}
use Rattle.bits.specs.Bits.{bits_of, pack}
use Rattle.bits.specs.ByteLaws.{AllBits}
use Rattle.bit_sink.specs.declared.SoFar.{SoFar}
use Rattle.bit_sink.specs.SoFar.{Stuffed}

-- first places and numbers of bits below this are served
abbrev pub limit : ℕ
limit = 2 ^ 41

-- the bits b were pushed, from place `start` of the output on: it was `lent` and is now `out`
pub record Holds (start : ℕ) (b : List ℕ) (s : SoFar) (lent out : List ℕ) : Type 0 where
  pub inside : start < limit
  pub binary : AllBits b
  pub counted : s.bits ≡ length b
  -- the bits behind the last whole byte are those of a number with no other bits
  pub few : s.pending < 2 ^ (length b % 8)
  pub behind : drop (8 * (length b / 8)) b ≡ bits_of (length b % 8) s.pending
  -- the whole bytes are stored
  pub stuffed : Stuffed 0 start lent (pack b) s.zeros s.len out
