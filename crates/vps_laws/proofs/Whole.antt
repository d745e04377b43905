-- The whole table is coherent with a record that begins with its General section.
use Rattle.std.specs.Prelude.{ℕ, ◌-◌, ◌<◌, ◌≡◌, eqb, get_or}
use Rattle.std.proofs.Common.{arith, lit<}
use Rattle.vps_definition.specs.Rules.{Rules}
use Rattle.vps_definition.specs.DpbParameters.{dpb_section}
use Rattle.vps_definition.specs.Vps.{Header, header_under, sets_section, multi_layer_sections, single_layer_sections, buffer_sections, vps_under}
use Rattle.vps_laws.specs.Keeps.{keeps_done, keeps_mark}
use Rattle.vps_laws.proofs.Keeps.{returns_bind}
use Rattle.vps_laws.specs.Coherence.{Coh, local_done, local_mark, local_test, local_check, local_u, local_ue_minus1, local_when, coh_late, Stands}
use Rattle.vps_laws.proofs.Coherence.{words, coh_bind, local_bind, local_ruled, local_inferred, local_repeat, local_loop, coh_general}
use Rattle.vps_laws.proofs.CoherenceThen.{coh_general_if}
use Rattle.vps_laws.proofs.Tables.{local_dpb_sublayer, local_per_sublayer, local_ols_dpb, local_ols_section, local_timing_section, local_layers_section, local_rows_section, local_no_rows}
use Rattle.vps_laws.proofs.Heads.{local_ptl_section}
use Rattle.vps_laws.specs.Whole.{Begun, HeaderAt, SetsAt}

coh_header : (rules : Rules) → Coh HeaderAt (header_under rules)
unfolding header_under
coh_header rules =
    coh_bind (Stands 1) (coh_general 1 4) (λ id. returns_bind _ λ n. returns_bind _ λ top. returns_bind _ λ c. returns_bind _ λ d. returns_bind _ λ a. keeps_done (λ r h. h.id)) λ id.
    coh_bind (λ r n. get_or r 0 0 - 1 ≡ n) (coh_late (λ r. get_or r 0 0 - 1)) (λ n. returns_bind _ λ top. returns_bind _ λ c. returns_bind _ λ d. returns_bind _ λ a. keeps_done (λ r h. let e = h.layers in omega arith)) λ n.
    coh_bind (Stands 2) (coh_general 2 3) (λ top. returns_bind _ λ c. returns_bind _ λ d. returns_bind _ λ a. keeps_done (λ r h. h.top)) λ top.
    local_bind (local_ruled _ _ _ (local_check _ _)) λ c.
    coh_bind (Stands 3) (coh_general_if _ 3 1 1) (λ d. returns_bind _ λ a. keeps_done (λ r h. h.default)) λ d.
    coh_bind (Stands 4) (coh_general_if _ 4 1 1) (λ a. keeps_done (λ r h. h.all)) λ a.
    local_done

pub coh_sets_section : (h : Header) → Coh SetsAt (sets_section h)
unfolding sets_section
coh_sets_section h =
    coh_bind (Stands 5) (coh_general_if _ 5 1 _) (λ e. returns_bind _ λ m. returns_bind _ λ c. returns_bind _ λ s. keeps_done (λ r h. h.each)) λ e.
    coh_bind (Stands 6) (coh_general_if _ 6 2 2) (λ m. returns_bind _ λ c. returns_bind _ λ s. keeps_done (λ r h. h.mode)) λ m.
    local_bind (local_check _ _) λ c.
    local_bind (local_mark (local_test _ (local_test _ (local_rows_section h.layers) (local_no_rows _)) (local_no_rows _))) λ s.
    local_done

coh_dpb_section : (d top multi : ℕ) → Coh (Stands 7) (dpb_section d top multi)
unfolding dpb_section
coh_dpb_section d top multi =
    local_bind local_ue_minus1 λ slots.
    local_bind (local_check _ _) λ c.
    coh_bind (Stands 7) (coh_general_if _ 7 1 0) (λ flag. returns_bind _ λ d. returns_bind _ λ m. returns_bind _ λ e. keeps_done (λ r h. h)) λ flag.
    local_bind (local_repeat slots (local_per_sublayer d top _ flag local_dpb_sublayer)) λ d.
    local_bind (local_inferred multi) λ m.
    local_bind (local_loop multi 0 tt (λ i x. local_ols_dpb slots multi i)) λ e.
    local_done

coh_multi_layer : (h : Header) (multi : ℕ) → Coh (Stands 7) (multi_layer_sections h multi)
unfolding multi_layer_sections
coh_multi_layer h multi =
    coh_bind (Stands 7) (local_mark (coh_dpb_section _ _ multi)) (λ flag. returns_bind _ λ on. returns_bind _ λ t. keeps_done (λ r h. h)) λ flag.
    local_bind (local_mark (local_u 1)) λ on.
    local_bind (local_when on (local_timing_section _ _ multi)) λ t.
    local_done

coh_single_layer : Coh (Stands 7) single_layer_sections
unfolding single_layer_sections
coh_single_layer = search words depth 10

coh_buffer_sections : (h : Header) (each multi : ℕ) → Coh (Stands 7) (buffer_sections h each multi)
unfolding buffer_sections
coh_buffer_sections h each multi = local_test (eqb each 0) (coh_multi_layer h multi) coh_single_layer

pub coh_vps : (rules : Rules) → Coh Begun (vps_under rules)
unfolding vps_under
coh_vps rules =
    coh_bind HeaderAt (coh_header rules)
    (λ h. returns_bind _ λ l. returns_bind _ λ s. returns_bind _ λ p. returns_bind _ λ o. returns_bind _ λ f. returns_bind _ λ x. keeps_mark (keeps_done (λ r g. record
    { layers = g.at 0 (lit< tt); id = g.at 1 (lit< tt); top = g.at 2 (lit< tt); default = g.at 3 (lit< tt); all = g.at 4 (lit< tt) }))) λ h.
    local_bind (local_mark (local_layers_section h)) λ l.
    coh_bind SetsAt (coh_sets_section h)
    (λ s. returns_bind _ λ p. returns_bind _ λ o. returns_bind _ λ f. returns_bind _ λ x. keeps_mark (keeps_done (λ r g. record { each = g.at 5 (lit< tt); mode = g.at 6 (lit< tt) }))) λ s.
    local_bind (local_ruled _ _ _ (local_mark (local_ptl_section h _))) λ p.
    local_bind (local_mark (local_ols_section p _)) λ o.
    coh_bind (Stands 7) (coh_buffer_sections h _ _) (λ f. returns_bind _ λ x. keeps_mark (keeps_done (λ r g. g.at 7 (lit< tt)))) λ f.
    coh_bind (Stands 8) (coh_general 8 1) (λ x. keeps_mark (keeps_done (λ r g. g.at 8 (lit< tt)))) λ x.
    local_mark local_done
