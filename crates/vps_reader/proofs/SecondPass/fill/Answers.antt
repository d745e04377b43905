-- Each part of the record is stored behind the one before.
use Rattle.std.proofs.Common.{ℕ, List, ◌+◌, ◌-◌, ◌≡◌, ◌≤◌, ◌++◌, ◌∙◌, ap, arith, refl, length, set, take, drop, length-take-le, length-drop}
use Rattle.std.proofs.lemmas.List.Edits.{sets}
use Rattle.vps_definition.specs.Syntax.{numbers}
use Rattle.vps_definition.specs.Reading.{bits_at}
use Rattle.std.proofs.Math.Seq.{length-sets}
use Rattle.std.proofs.Math.ListN.{length-set}
use Rattle.vps_laws.specs.Extension.{bits_at_length}
use Rattle.vps_reader.specs.Measures.{nine, found_inside, found_most, found_starts}
use Rattle.lists.specs.Stored.{written_part}
use Rattle.vps_reader.specs.Filled.{trailer_stored, extension_stored, filled}
use Rattle.vps_reader.proofs.SecondPass.fill.Goals as goal

-- how long a part of a list is
part_length : (l : List ℕ) (i k : ℕ) → i + k ≤ length l → length (take k (drop i l)) ≡ k
part_length l i k h = length-take-le k (drop i l) (omega (arith, length-drop i l))

pub returns : goal.returns
returns c lent K =
    let F = K.found in
    let m = c.args.self.now.m in
    let n = m.table.n in
    let e : List ℕ = bits_at c.args.self.now.bytes.now m.table.at m.count in
    let i = n + 1 + m.count in
    let long : n + 1 + m.count + 8 ≤ length c.args.rec.now = omega (arith, c.requires) in
    let e₁ = written_part c.args.rec.now c.copy_from_slice.new.self 0 {k = 9} (ap length c.copy_from_slice.ensures.after ∙ nine F.table) (omega arith) ∙ ap (sets c.args.rec.now 0) c.copy_from_slice.ensures.after in
    let e₂ = c.store_table.ensures F.table lent K.stored in
    let h₂ : length c.store_table.new.rec ≡ length c.args.rec.now = ap length e₂ ∙ length-sets _ 9 (numbers F.table.kept) ∙ ap length e₁ ∙ length-sets c.args.rec.now 0 m.table.whole.general in
    let p₃ = part_length c.store_table.new.rec n (i - n) (omega (arith, h₂)) in
    let x₃ = c.store_extension.ensures m.count (p₃ ∙ omega arith) (omega (arith, found_inside F)) in
    let e₃ = written_part c.store_table.new.rec c.store_extension.new.extension n {k = i - n} (ap length x₃ ∙ omega (arith, bits_at_length c.args.self.now.bytes.now m.table.at m.count)) (omega (arith, h₂)) ∙ ap (sets c.store_table.new.rec n) x₃ ∙ extension_stored c.store_table.new.rec e n m.count in
    let l₃ : List ℕ = take n c.store_table.new.rec ++ (c.store_extension.new.extension ++ drop (i - n) (drop n c.store_table.new.rec)) in
    let h₃ : length l₃ ≡ length c.args.rec.now = ap length e₃ ∙ length-sets (set c.store_table.new.rec n m.count) (n + 1) e ∙ length-set c.store_table.new.rec n m.count ∙ h₂ in
    let p₄ = part_length l₃ i (i + 8 - i) (omega (arith, h₃)) in
    let x₄ = c.store_trailer.ensures (omega (arith, found_most F)) (found_starts F) in
    filled F c.args.rec.now e₁ e₂ refl e₃
    (written_part l₃ c.store_trailer.new.trailer i (c.store_trailer.auto.trailer ∙ p₄) (omega (arith, h₃)) ∙ ap (sets l₃ i) x₄ ∙ trailer_stored F l₃ i (i + 8))
