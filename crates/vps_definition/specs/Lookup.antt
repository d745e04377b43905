-- Section lookup: the part of a record that a section is.
use Rattle.std.specs.Prelude.{ℕ, ◌-◌, List, cond, ◌&&◌, leb, length, take, drop}
use Rattle.vps_definition.specs.Record.{start_of, end_of}
use Rattle.vps_definition.specs.Writing.{well_formed}

-- where the part starts: at the end, of a list that is not well formed or a number over 8
unfoldable pub section_start : List ℕ → ℕ → ℕ
section_start r k = cond (leb k 8 && well_formed r) (start_of r k) (length r)

-- and where it ends
unfoldable pub section_end : List ℕ → ℕ → ℕ
section_end r k = cond (leb k 8 && well_formed r) (end_of r k) (length r)

unfoldable pub section_of : List ℕ → ℕ → List ℕ
section_of r k = take (section_end r k - section_start r k) (drop (section_start r k) r)
