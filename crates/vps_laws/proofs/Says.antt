-- Which numbers a reading can be refused with, whatever the bytes are: those that stand in the table, those of the codes, and those of
-- the end.
use Prim.Native.Nat.{ℕ, zero, suc, ◌+◌}
use Rattle.std.specs.Prelude.{◌≡◌, refl, Bool, eqb, get_or}
use Rattle.std.proofs.Math.Path.{subst⁻¹}
use mathlib.Core.List.{List, []}
use Rattle.std.proofs.Math.Bool.{true, false}
use Rattle.refusals.specs.Answer.{Answer}
use Rattle.refusals.specs.Answer.Answer.{success, refusal}
use Rattle.refusals.specs.Number.{sublayers_reserved, layer_ids_not_rising, no_direct_reference, mode_reserved, no_output_layer, ptls_over_sets, ptl_max_tid, ptl_alignment, ptl_index, dpb_slots, dpb_index, timing_zero, timing_index, stop_bit_missing, alignment_bit_one, id_zero, code_past_end}
use Rattle.bits.specs.Bits.{field_at, to_boundary}
use Rattle.bits.specs.Code.{Taken, code_at}
use Rattle.bits.specs.Code as Code
use Rattle.bits.specs.Reading.{trailing_at}
use Rattle.vps_definition.specs.Rules.{Rules}
use Rattle.vps_definition.specs.Syntax.{Syntax, Outcome, keeping}
use Rattle.vps_definition.specs.Syntax.Syntax.{field, code, late, keep, mark, align, test, refuse, done}
use Rattle.vps_definition.specs.Syntax.Token.{number, section}
use Rattle.vps_definition.specs.Syntax.Outcome.{accepted, refused}
use Rattle.vps_definition.specs.Words.{general}
use Rattle.vps_definition.specs.ProfileTierLevel.{reversed, constraint_bit, constraints, constraints_if, general_constraints_info, profile_and_tier, sub_profile, sub_profiles, profile_tier_level}
use Rattle.vps_definition.specs.DpbParameters.{dpb_sublayer, per_sublayer, index, ols_dpb, dpb_section}
use Rattle.vps_definition.specs.TimingHrd.{Hrd, general_timing_hrd, du_values, schedule, sublayer_hrd, timing_sublayer, timing_section}
use Rattle.vps_definition.specs.Vps.{Header, Layers, Head, header_under, direct_reference, dependent_layer, independent_layer, layer, layers_section, output_flag, row, rows_section, no_rows, sets_section, slot_number_if, ptl_head, ptl_slot, ptl_section, ols_section, multi_layer_sections, single_layer_sections, buffer_sections, vps_under}
use Rattle.vps_definition.specs.Record.{record_of}
use Rattle.vps_definition.specs.Reading.{Reading, bits_at, extension_bits, ended, closed, read_rbsp_under}
use Rattle.vps_laws.specs.Codes.{run_with, read_rbsp_with}
use Rattle.vps_laws.proofs.Codes.{rbsp_with_lem}
use Rattle.vps_laws.specs.Says.{Said, Among, among_part, Refusals, Says, says_done, says_late, says_mark, says_test, says_bind, says_loop, says_u_minus1, says_ue_minus1, says_inferred, says_u_if, says_general, says_general_if, says_check, says_ruled, says_repeat, words, says_falling, says_ahead, says_ptl_alignment, TableSaid, OutcomeSays, TakenSays, AnswerSays, ReadingSays, keeping_says, trailing_says, code_says}

-- ── The first fields, layers and sets ─────────────────────────────────
says_header : {ok : ℕ → Type 0} (rules : Rules) → (rules.id_zero_refused ≡ true → Said ok id_zero) → Said ok sublayers_reserved → Says ok (header_under rules)
unfolding header_under
says_header rules e f =
    says_bind (says_general 1 4) λ id.
    says_bind (says_late (λ v. says_done)) λ n.
    says_bind (says_general 2 3) λ top.
    says_bind (says_ruled _ _ _ e (says_check _ _ f)) λ c. search words depth 20

says_dependent_layer : {ok : ℕ → Type 0} → Said ok no_direct_reference → (top i : ℕ) → Says ok (dependent_layer top i)
unfolding dependent_layer direct_reference
says_dependent_layer e top i = search (words, e) depth 20

says_layer : {ok : ℕ → Type 0} → Said ok layer_ids_not_rising → Said ok no_direct_reference → (h : Header) (i : ℕ) (x : Layers) → Says ok (layer h i x)
unfolding layer independent_layer
says_layer d e h i x = search (words, says_dependent_layer e, d) depth 20

says_layers_section : {ok : ℕ → Type 0} → Said ok layer_ids_not_rising → Said ok no_direct_reference → (h : Header) → Says ok (layers_section h)
unfolding layers_section
says_layers_section d e h = says_loop _ 0 _ (says_layer d e h)

says_rows_section : {ok : ℕ → Type 0} → Said ok no_output_layer → (n : ℕ) → Says ok (rows_section n)
unfolding rows_section row output_flag
says_rows_section e n = search (words, e) depth 30

says_sets_section : {ok : ℕ → Type 0} → Said ok mode_reserved → Said ok no_output_layer → (h : Header) → Says ok (sets_section h)
unfolding sets_section no_rows
says_sets_section d e h = search (words, says_rows_section e, d) depth 30

says_reversed : {ok : ℕ → Type 0} (n w : ℕ) → Says ok (reversed n w)
unfolding reversed
says_reversed n w = search (words, says_falling) depth 20

says_constraints : {ok : ℕ → Type 0} → Says ok constraints
unfolding constraints constraint_bit
says_constraints = search (words, says_ahead) depth 20

says_general_constraints_info : {ok : ℕ → Type 0} → Says ok general_constraints_info
unfolding general_constraints_info constraints_if
says_general_constraints_info = search (words, says_constraints) depth 20

says_profile_tier_level : {ok : ℕ → Type 0} (present top : ℕ) → Says ok (profile_tier_level present top)
unfolding profile_tier_level profile_and_tier sub_profiles sub_profile
says_profile_tier_level present top = search (words, says_general_constraints_info, says_reversed) depth 40

says_ptl_head : {ok : ℕ → Type 0} → Said ok ptl_max_tid → (h : Header) (i : ℕ) (heads : List Head) → Says ok (ptl_head h i heads)
unfolding ptl_head slot_number_if
says_ptl_head e h i heads = search (words, e) depth 20

says_ptl_slot : {ok : ℕ → Type 0} (heads : List Head) (i : ℕ) (x : Unit {0}) → Says ok (ptl_slot heads i x)
unfolding ptl_slot
says_ptl_slot heads i x = says_profile_tier_level _ _

says_ptl_section : {ok : ℕ → Type 0} → Among ok ptls_over_sets ptl_alignment → (h : Header) (total : ℕ) → Says ok (ptl_section h total)
unfolding ptl_section
says_ptl_section S h total =
    says_bind (says_test _ (says_inferred 1) (says_u_minus1 8)) λ count.
    says_bind (says_check _ _ (S.each _ refl refl)) λ c.
    says_bind (says_loop count 0 [] (says_ptl_head (S.each _ refl refl) h)) λ heads.
    says_bind (says_ptl_alignment (S.each _ refl refl)) λ z.
    says_bind (says_loop count 0 tt (says_ptl_slot heads)) λ s.
    says_done

says_index : {ok : ℕ → Type 0} (size count k i : ℕ) → Said ok k → Says ok (index size count k i)
unfolding index
says_index size count k i e = search (words, e) depth 10

says_ols_section : {ok : ℕ → Type 0} → Said ok ptl_index → (ptls total : ℕ) → Says ok (ols_section ptls total)
unfolding ols_section
says_ols_section e ptls total = search (words, says_index, e) depth 20

-- ── Buffers and timing ────────────────────────────────────────────────
says_per_sublayer : {ok : ℕ → Type 0} (d top k flag : ℕ) {m : Syntax (Unit {0})} → Said ok k → Says ok m → Says ok (per_sublayer d top k flag m)
unfolding per_sublayer
says_per_sublayer d top k flag e M = search words depth 20

says_dpb_sublayer : {ok : ℕ → Type 0} → Among ok dpb_slots dpb_index → Says ok dpb_sublayer
unfolding dpb_sublayer
says_dpb_sublayer S = search (words, S.each) depth 20

says_ols_dpb : {ok : ℕ → Type 0} → Among ok dpb_slots dpb_index → (slots multi i : ℕ) → Says ok (ols_dpb slots multi i)
unfolding ols_dpb
says_ols_dpb S slots multi i = search (words, says_index, S.each) depth 20

says_dpb_section : {ok : ℕ → Type 0} → Among ok dpb_slots dpb_index → (d top multi : ℕ) → Says ok (dpb_section d top multi)
unfolding dpb_section
says_dpb_section S d top multi =
    says_bind says_ue_minus1 λ slots.
    says_bind (says_check _ _ (S.each _ refl refl)) λ c.
    says_bind (says_general_if _ 7 1 0) λ flag.
    says_bind (says_repeat slots (says_per_sublayer _ _ _ flag (S.each _ refl refl) (says_dpb_sublayer S))) λ p.
    says_bind (says_inferred multi) λ m.
    says_bind (says_loop multi 0 tt (λ i x. says_ols_dpb S slots multi i)) λ e. says_done

says_general_timing_hrd : {ok : ℕ → Type 0} → Among ok timing_zero timing_index → Says ok general_timing_hrd
unfolding general_timing_hrd
says_general_timing_hrd S = search (words, S.each) depth 40

says_sublayer_hrd : {ok : ℕ → Type 0} (h : Hrd) → Says ok (sublayer_hrd h)
unfolding sublayer_hrd schedule du_values
says_sublayer_hrd h = search words depth 30

says_timing_sublayer : {ok : ℕ → Type 0} → Among ok timing_zero timing_index → (h : Hrd) → Says ok (timing_sublayer h)
unfolding timing_sublayer
says_timing_sublayer S h = search (words, says_sublayer_hrd, S.each) depth 20

says_timing_section : {ok : ℕ → Type 0} → Among ok timing_zero timing_index → (d top multi : ℕ) → Says ok (timing_section d top multi)
unfolding timing_section
says_timing_section S d top multi =
    says_bind (says_general_timing_hrd S) λ hrd.
    says_bind (says_u_if _ 1 0) λ flag.
    says_bind says_ue_minus1 λ entries.
    says_bind (says_check _ _ (S.each _ refl refl)) λ c.
    says_bind (says_repeat entries (says_per_sublayer _ _ _ flag (S.each _ refl refl) (says_timing_sublayer S hrd))) λ e.
    says_loop multi 0 tt (λ i x. says_index entries multi _ i (S.each _ refl refl))

says_buffer_sections : {ok : ℕ → Type 0} → Among ok dpb_slots timing_index → (h : Header) (each multi : ℕ) → Says ok (buffer_sections h each multi)
unfolding buffer_sections multi_layer_sections single_layer_sections
says_buffer_sections S h each multi = search (words, says_dpb_section (among_part S dpb_slots dpb_index refl refl), says_timing_section (among_part S timing_zero timing_index refl refl)) depth 30

says_vps : {ok : ℕ → Type 0} (rules : Rules) → TableSaid ok rules → Says ok (vps_under rules)
unfolding vps_under
says_vps rules T =
    let S = T.table in
    says_bind (says_header rules T.id (S.each _ refl refl)) λ h.
    says_bind (says_mark (says_layers_section (S.each _ refl refl) (S.each _ refl refl) h)) λ l.
    says_bind (says_sets_section (S.each _ refl refl) (S.each _ refl refl) h) λ s.
    says_bind (says_ruled _ _ _ (λ e. S.each _ refl refl) (says_mark (says_ptl_section (among_part S ptls_over_sets ptl_alignment refl refl) h _))) λ p.
    says_bind (says_mark (says_ols_section (S.each _ refl refl) p _)) λ o.
    says_bind (says_buffer_sections (among_part S dpb_slots timing_index refl refl) h _ _) λ f.
    says_bind (says_general 8 1) λ x. says_mark says_done

-- by any rule of codes whose numbers are among those that are meant
module _ (ok : ℕ → Type 0) (codes : List ℕ → ℕ → Taken) (C : (s : List ℕ) (at : ℕ) → TakenSays ok (codes s at)) where
  table_says : {A : Type 0} (m : Syntax A) → Refusals ok m → (s : List ℕ) (at : ℕ) → OutcomeSays ok (run_with codes m s at)
  unfolding run_with Refusals
  table_says (field w plus k) h s at = let v : ℕ = field_at s at w + plus in keeping_says ok (number v) (run_with codes (k v) s (at + w)) (table_says (k v) (h v) s (at + w))
  table_says {A} (code plus k) h s at = go (λ v next. table_says (k v) (h v) s next) (codes s at) (C s at)
    where
      go : ((v next : ℕ) → OutcomeSays ok (run_with codes (k v) s next)) → (c : Taken) → TakenSays ok c
          → OutcomeSays {A = A} ok (elim c as (λ d. Outcome A) [ Code.Taken.taken v next ↦ keeping (number (v + plus)) (run_with codes (k (v + plus)) s next) | Code.Taken.refused n ↦ refused n [] ])
      go f (Code.Taken.taken v next) g = keeping_says ok (number (v + plus)) (run_with codes (k (v + plus)) s next) (f (v + plus) next)
      go f (Code.Taken.refused n) g = g
  table_says (late w find k) h s at = table_says (k (field_at s at w)) (h (field_at s at w)) s (at + w)
  table_says (keep v m) h s at = keeping_says ok (number v) (run_with codes m s at) (table_says m h s at)
  table_says (mark m) h s at = keeping_says ok section (run_with codes m s at) (table_says m h s at)
  table_says (align zero m) h s at = table_says m h s (at + to_boundary at)
  table_says {A} (align (suc n) m) h s at = go (eqb (field_at s at (to_boundary at)) 0) (run_with codes m s (at + to_boundary at)) (table_says m h.1 s (at + to_boundary at))
    where
      go : (b : Bool) (R : Outcome A) → OutcomeSays ok R → OutcomeSays {A = A} ok (elim b as (λ d. Outcome A) [ true ↦ R | false ↦ refused (suc n) [] ])
      go true R g = g
      go false R g = h.0
  table_says (test true m n) h s at = table_says m h.0 s at
  table_says (test false m n) h s at = table_says n h.1 s at
  table_says (refuse n) h s at = h
  table_says (done a) h s at = tt

  pub with_says : (rules : Rules) → TableSaid ok rules → Among ok stop_bit_missing alignment_bit_one → (s : List ℕ) → ReadingSays ok (read_rbsp_with codes rules s)
  unfolding read_rbsp_with closed ended
  with_says rules T S s = go (run_with codes (vps_under rules) s 0) (table_says (vps_under rules) (says_vps rules T).all s 0)
    where
      last : (r : List ℕ) (x : Answer ℕ) → AnswerSays ok x → ReadingSays ok (ended r x)
      last r (success n) h = tt
      last r (refusal k) h = h

      go : (x : Outcome (List ℕ)) → OutcomeSays ok x → ReadingSays ok (closed s x)
      go (accepted general t at) h =
          let n : ℕ = extension_bits (get_or general 8 0) s at in
          last (record_of general t (bits_at s at n)) (trailing_at s (at + n)) (trailing_says ok S s (at + n))
      go (refused k t) h = h

pub rbsp_says : {ok : ℕ → Type 0} (rules : Rules) → TableSaid ok rules → Said ok code_past_end → Among ok stop_bit_missing alignment_bit_one → (s : List ℕ) → ReadingSays ok (read_rbsp_under rules s)
rbsp_says {ok} rules T P S s = subst⁻¹ (λ (R : Reading). ReadingSays ok R) (rbsp_with_lem rules s) (with_says ok code_at (code_says ok (T.table.each _ refl refl) P) rules T S s)
