-- What each step of a sink says.
use Rattle.std.specs.Prelude.{ℕ, ◌+◌, ◌*◌, ◌^◌, ◌<◌, ◌≡◌, List, [], ◌++◌, length}
use Rattle.std.proofs.lemmas.List.Edits.{sets}
use Rattle.stuffing.specs.Stuffing.{stuff_behind, stuff}
use Rattle.bits.specs.Bits.{pack}
use Rattle.bits.specs.Writing.{trailing_bits}
use Rattle.bit_sink.specs.declared.Sink.{Sink}
use Rattle.bit_sink.specs.SoFar.{Stuffed}
use Rattle.bit_sink.specs.Holds.{limit, Holds}

-- the output is the one that was lent, and as long
pub record SameOutput (s s' : Sink) : Type 0 where
  pub same : s'.out.ghost_name ≡ s.out.ghost_name
  pub long : length s'.out.now ≡ length s.out.now

-- the bytes x are stored where they fit, and no bits are counted
pub record Stores (x : List ℕ) (s s' : Sink) : Type 0 where
  pub output : SameOutput s s'
  pub bits : s'.so_far.bits ≡ s.so_far.bits
  pub pending : s'.so_far.pending ≡ s.so_far.pending
  pub stuffed : s.so_far.len + 2 * length x < 2 ^ 62 → Stuffed s.so_far.zeros s.so_far.len s.out.now x s'.so_far.zeros s'.so_far.len s'.out.now

-- the bytes end, and the output is used up to place n
pub record StoresEnd (s : Sink) (n : ℕ) (s' : Sink) : Type 0 where
  pub output : SameOutput s s'
  pub used : s.so_far.len < 2 ^ 62 → n ≡ s.so_far.len + length (stuff_behind s.so_far.zeros [])
  pub stored : s.so_far.len < 2 ^ 62 → s'.out.now ≡ sets s.out.now s.so_far.len (stuff_behind s.so_far.zeros [])

-- the bits x are pushed behind others
pub record Puts (x : List ℕ) (s s' : Sink) : Type 0 where
  pub holds : (start : ℕ) (b lent : List ℕ) → Holds start b s.so_far lent s.out.now → length b + length x < limit → Holds start (b ++ x) s'.so_far lent s'.out.now

-- the RBSP of some bits is what the output has behind its first place, stuffed, up to place n
pub record Ended (start : ℕ) (b lent : List ℕ) (n : ℕ) (s' : Sink) : Type 0 where
  pub used : n ≡ start + length (stuff (pack (b ++ trailing_bits (length b))))
  pub stored : s'.out.now ≡ sets lent start (stuff (pack (b ++ trailing_bits (length b))))

-- the bits are ended: the trailing bits take 8 at the most
abbrev pub Finishes : Sink → ℕ → Sink → Type 0
Finishes s n s' = (start : ℕ) (b lent : List ℕ) → Holds start b s.so_far lent s.out.now → length b + 8 < limit → Ended start b lent n s'
