-- dpb_parameters() of H.266 clause 7.3.4, and the buffers of the VPS.
use Rattle.std.specs.Prelude.{ℕ, ◌+◌, Bool, not, cond, ◌&&◌, ltb, leb, eqb}
use Rattle.refusals.specs.Number.{dpb_slots, dpb_max_tid, dpb_buffering, dpb_reorder, dpb_depth, dpb_index}
use Rattle.vps_definition.specs.Syntax.{Syntax, ◌>>=◌}
use Rattle.vps_definition.specs.Syntax.Syntax.{done}
use Rattle.vps_definition.specs.Words.{u, ue, ue_minus1, inferred, u_if, ue_if, general_if, check, nothing, loop, repeat}

-- one sublayer's triple
unfoldable pub dpb_sublayer : Syntax (Unit {0})
dpb_sublayer = do
  dpb_max_dec_pic_buffering_minus1 ← ue
  c17 ← check (leb dpb_max_dec_pic_buffering_minus1 15) dpb_buffering
  dpb_max_num_reorder_pics ← ue
  c18 ← check (leb dpb_max_num_reorder_pics dpb_max_dec_pic_buffering_minus1) dpb_reorder
  dpb_max_latency_increase_plus1 ← ue
  nothing

-- one for each sublayer up to the max tid where the flag is 1, else one
abbrev pub sublayers : (flag max_tid : ℕ) → ℕ
sublayers flag max_tid = cond (eqb flag 0) 1 (max_tid + 1)

-- a max tid, coded unless all have the default, and then so many sublayers
unfoldable pub per_sublayer : (default_max_tid_flag max_sublayers_minus1 refusal flag : ℕ) → Syntax (Unit {0}) → Syntax (Unit {0})
per_sublayer default_max_tid_flag max_sublayers_minus1 refusal flag body = do
  max_tid ← u_if (eqb default_max_tid_flag 0) 3 max_sublayers_minus1
  c ← check (leb max_tid max_sublayers_minus1) refusal
  repeat (sublayers flag max_tid) body

-- an index into `size` entries, the i-th of `count`: coded where there are several entries, but not as many; else 0 or i
abbrev pub index_coded : (size count : ℕ) → Bool
index_coded size count = ltb 1 size && not (eqb size count)

abbrev pub index_inferred : (size i : ℕ) → ℕ
index_inferred size i = cond (eqb size 1) 0 i

unfoldable pub index : (size count refusal i : ℕ) → Syntax (Unit {0})
index size count refusal i = do
  v ← ue_if (index_coded size count) (index_inferred size i)
  check (ltb v size) refusal

-- the picture size of a multi-layer set, and its DPB slot
unfoldable pub ols_dpb : (slots multi i : ℕ) → Syntax (Unit {0})
ols_dpb slots multi i = do
  vps_ols_dpb_pic_width ← ue
  vps_ols_dpb_pic_height ← ue
  vps_ols_dpb_chroma_format ← u 2
  vps_ols_dpb_bitdepth_minus8 ← ue
  c19 ← check (leb vps_ols_dpb_bitdepth_minus8 8) dpb_depth
  index slots multi dpb_index i

-- the DPB section of sets that have several layers; its result is vps_sublayer_dpb_params_present_flag
unfoldable pub dpb_section : (default_max_tid_flag max_sublayers_minus1 multi : ℕ) → Syntax ℕ
dpb_section default_max_tid_flag max_sublayers_minus1 multi = do
  slots ← ue_minus1
  c15 ← check (leb slots multi) dpb_slots
  vps_sublayer_dpb_params_present_flag ← general_if (ltb 0 max_sublayers_minus1) 7 1 0
  d ← repeat slots (per_sublayer default_max_tid_flag max_sublayers_minus1 dpb_max_tid vps_sublayer_dpb_params_present_flag dpb_sublayer)
  m ← inferred multi
  e ← loop (λ i x. ols_dpb slots multi i) multi 0 tt
  done vps_sublayer_dpb_params_present_flag
