-- The VPS's PTL section by what it asks of the header: its heads, and the whole.
use Rattle.std.specs.Prelude.{ℕ, ◌≡◌, List, [], leb, eqb}
use Rattle.refusals.specs.Number.{ptls_over_sets, ptl_alignment}
use Rattle.vps_definition.specs.Syntax.{Syntax, ◌>>=◌}
use Rattle.vps_definition.specs.Syntax.Syntax.{test, done}
use Rattle.vps_definition.specs.Words.{u_minus1, inferred, check, aligned, loop}
use Rattle.vps_definition.specs.Vps.{Header, Head, ptl_head, ptl_slot, ptl_section}

-- what the heads ask of the header
abbrev pub sublayers_of : (default_max_tid_flag max_sublayers_minus1 : ℕ) → Header
sublayers_of flag top = record { id = 0; layers = 1; max_sublayers_minus1 = top; default_max_tid_flag = flag; all_independent_flag = 1 }

abbrev pub head_of : (flag top i : ℕ) → List Head → Syntax (List Head)
head_of flag top = ptl_head (sublayers_of flag top)

-- what the section asks of the header
pub record Asked (h : Header) (layers flag top : ℕ) : Type 0 where
  pub layers' : layers ≡ h.layers
  pub flag' : flag ≡ h.default_max_tid_flag
  pub top' : top ≡ h.max_sublayers_minus1

abbrev pub slot_count : (layers : ℕ) → Syntax ℕ
slot_count layers = test (eqb layers 1) (inferred 1) (u_minus1 8)

abbrev pub section_of : (layers flag top total : ℕ) → Syntax ℕ
section_of layers flag top total = do
  count ← slot_count layers
  c10 ← check (leb count total) ptls_over_sets
  heads ← loop (head_of flag top) count 0 []
  vps_ptl_alignment_zero_bits ← aligned ptl_alignment
  s ← loop (ptl_slot heads) count 0 tt
  done count

pub section_asked : (h : Header) (layers flag top total : ℕ) → Asked h layers flag top → section_of layers flag top total ≡ ptl_section h total
unfolding ptl_section ptl_head
section_asked h layers flag top total A = λ j. section_of (A.layers' j) (A.flag' j) (A.top' j) total
