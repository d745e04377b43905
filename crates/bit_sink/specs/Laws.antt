-- What is known where some bits were pushed.
use Rattle.std.specs.Prelude.{ℕ, ◌+◌, ◌*◌, ◌/◌, ◌%◌, ◌≤◌, ◌≡◌, List, ◌++◌, length, take}
use Rattle.std.proofs.Common.{sym, ap, ◌∙◌, append-nil, arith, length-append, take-append-drop, length-take-le}
use Rattle.bits.specs.Bits.{bits_of, pack}
use Rattle.bits.specs.ByteLaws.{pack_length}
use Rattle.bit_sink.specs.declared.SoFar.{SoFar}
use Rattle.bit_sink.specs.SoFar.{so_far_length}
use Rattle.bit_sink.specs.Packing.{pack_append, pack_few}
use Rattle.bit_sink.specs.Holds.{Holds}

-- the bits are those of whole bytes, and then the pending ones
pub record Parts (b : List ℕ) (p : ℕ) : Type 0 where
  pub whole : List ℕ
  pub aligned : length whole % 8 ≡ 0
  pub split : b ≡ whole ++ bits_of (length b % 8) p
  pub packed : pack b ≡ pack whole

module _ {start : ℕ} {b : List ℕ} {s : SoFar} {lent out : List ℕ} (h : Holds start b s lent out) where
  pub parts : Parts b s.pending
  parts =
      let n : ℕ = 8 * (length b / 8) in
      let l : length (take n b) ≡ n = length-take-le n b (omega arith) in
      let a : length (take n b) % 8 ≡ 0 = omega arith in
      let e : b ≡ take n b ++ bits_of (length b % 8) s.pending = sym (take-append-drop n b) ∙ ap (λ (x : List ℕ). take n b ++ x) h.behind in
      let p : pack b ≡ pack (take n b) = ap pack e ∙ pack_append (take n b) (bits_of (length b % 8) s.pending) a ∙ ap (λ (x : List ℕ). pack (take n b) ++ x) (pack_few (length b % 8) s.pending (omega arith)) ∙ append-nil (pack (take n b)) in
      record { whole = take n b; aligned = a; split = e; packed = p }

  -- stuffing adds at most half a byte to each, so the bytes are fewer than the bits
  pub len_bounded : s.len ≤ start + length b
  len_bounded =
      let P = parts in
      let i : length b ≡ length (P.whole ++ bits_of (length b % 8) s.pending) = ap length P.split in
      omega (arith, h.stuffed.long, so_far_length (pack b), ap length P.packed, pack_length P.whole P.aligned, length-append P.whole (bits_of (length b % 8) s.pending), i)
