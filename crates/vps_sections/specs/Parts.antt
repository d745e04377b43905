-- The part that a section is, by the cases of the lookup.
use Rattle.std.specs.Prelude.{ℕ, ◌+◌, ◌-◌, ◌*◌, ◌≤◌, ◌<◌, ◌≡◌, List, Bool, true, false, not, length, drop}
use Rattle.std.proofs.Common.{sym, ◌∙◌, arith}
use Rattle.std.proofs.lemmas.Bool.{not-true, not-false}
use Rattle.std.proofs.Math.ListN.{take}
use Rattle.vps_definition.specs.Rules.{today}
use Rattle.vps_definition.specs.Record.{start_of, end_of}
use Rattle.vps_definition.specs.Writing.{well_formed}
use Rattle.vps_definition.specs.Lookup.{section_start, section_end, section_of}
use Rattle.vps_laws.specs.Lookup.{Found}
use Rattle.vps_laws.proofs.Lookup.{section_inside, found_over, found_ill_formed, found_listed, found_inside}

-- a section as a start and a count: from where it starts to where it ends, inside the record, the section's numbers
pub record IsPart (r : List ℕ) (k start count : ℕ) : Type 0 where
  pub starts : start ≡ section_start r k
  pub ends : start + count ≡ section_end r k
  pub within : start + count ≤ length r
  pub is : take (start + count - start) (drop start r) ≡ section_of r k

-- a section as a part of the record that was lent: its numbers, in the record's own memory, from the section's start on. A
-- place is an allocation and a byte of it; a number takes four bytes.
pub record PartOf (r : List ℕ) (k : ℕ) (whole part : ℕ × ℕ) (numbers : List ℕ) : Type 0 where
  pub is : numbers ≡ section_of r k
  pub same : part.0 ≡ whole.0
  pub begins : part.1 ≡ whole.1 + section_start r k * 4

module _ (r : List ℕ) (k : ℕ) where
  part : {start count : ℕ} → start ≡ section_start r k → start + count ≡ section_end r k → IsPart r k start count
  unfolding section_of
  part {start} {count} e f =
      record { starts = e; ends = f; within = omega (arith, f, (found_inside r k).ends); is = λ i. take (f i - e i) (drop (e i) r) }

  empty : Found r k (length r) (length r) → IsPart r k (length r) 0
  empty F = part F.0 (omega (arith, F.1))

  pub part_over : 8 < k → IsPart r k (length r) 0
  part_over h = empty (found_over r k h)

  module _ {b : Bool} (w : b ≡ well_formed r) where
    pub part_ill_formed : not b ≡ true → IsPart r k (length r) 0
    part_ill_formed h = empty (found_ill_formed r k (sym w ∙ not-true b h))

    module _ (l : k ≤ 8) (h : not b ≡ false) {start end : ℕ} (e : start ≡ start_of r k) (f : end ≡ end_of r k) where
      pub part_rises : start ≤ end
      part_rises = omega (arith, e, f, (section_inside today r (sym w ∙ not-false b h) k l).rises)

      pub part_listed : IsPart r k start (end - start)
      part_listed =
          let F = found_listed r k l (sym w ∙ not-false b h) in
          part (e ∙ F.0) (omega (arith, part_rises, f, F.1))
