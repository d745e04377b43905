-- Section lookup: each section of a well-formed record lies inside it, and what lookup gives by its cases.
use Rattle.std.specs.Prelude.{ℕ, ◌-◌, ◌≤◌, ◌<◌, ◌≡◌, List, Bool, ◌&&◌, length}
use Rattle.std.proofs.Math.Path.{refl}
use Rattle.std.proofs.Math.Bool.{true, false}
use native.Mathlib.Omega.{arith}
use borrow.Author.Tests.{leb-true, le-leb, lt-leb}
use Rattle.std.proofs.Math.Dec.{leb}
use Rattle.lists.specs.Table.{and_both}
use Rattle.vps_definition.specs.Rules.{Rules, today}
use Rattle.vps_definition.specs.Record.{start_of, end_of}
use Rattle.vps_definition.specs.Writing.{well_formed_under, well_formed}
use Rattle.vps_definition.specs.Lookup.{section_start, section_end}
use Rattle.vps_laws.specs.Units.{rbsp_parts}
use Rattle.vps_laws.proofs.Units.{written_read}
use Rattle.vps_laws.proofs.Accepted.{general_read}
use Rattle.vps_laws.proofs.Laid.{record_seven}
use Rattle.vps_laws.specs.Claims.{rbsp_in, accepted_reads, well_formed_written}
use Rattle.vps_laws.specs.Lookup.{Inside, parts_inside, r, Found}

pub section_inside : (rules : Rules) (r : List ℕ) → well_formed_under rules r ≡ true → (k : ℕ) → k ≤ 8 → Inside r (start_of r k) (end_of r k)
section_inside rules r w k h =
    let W = well_formed_written rules r w in
    let u : List ℕ = W.0 in
    let P = rbsp_parts rules (rbsp_in u) r _ (accepted_reads rules u r _ (written_read rules r u W.1)) in
    let n = (general_read rules (rbsp_in u) P.general P.tokens P.behind P.reads).nine in
    let m = record_seven rules (rbsp_in u) P.general P.tokens P.behind P.reads in
    rw P.is (parts_inside P.general P.tokens _ n m k h)

module _ (r : List ℕ) (k : ℕ) where
  none : leb k 8 && well_formed r ≡ false → Found r k (length r) (length r)
  unfolding section_start section_end
  none e = (rw e refl, rw e refl)

  pub found_over : 8 < k → Found r k (length r) (length r)
  found_over h = none (rw (lt-leb k 8 h) refl)

  pub found_ill_formed : well_formed r ≡ false → Found r k (length r) (length r)
  found_ill_formed e = none (go (leb k 8))
    where
      go : (b : Bool) → b && well_formed r ≡ false
      go true = e
      go false = refl

  pub found_listed : k ≤ 8 → well_formed r ≡ true → Found r k (start_of r k) (end_of r k)
  unfolding section_start section_end
  found_listed h e = (rw (le-leb k 8 h, e) refl, rw (le-leb k 8 h, e) refl)

  -- every part that lookup gives lies inside the record
  pub found_inside : Inside r (section_start r k) (section_end r k)
  unfolding section_start section_end
  found_inside = go (leb k 8 && well_formed r) refl
    where
      go : (b : Bool) → leb k 8 && well_formed r ≡ b → Inside r (section_start r k) (section_end r k)
      go true e = let B = and_both (leb k 8) (well_formed r) e in rw e (section_inside today r B.1 k (leb-true k 8 B.0))
      go false e = rw e (record { rises = omega arith; ends = omega arith })
