-- The views of an accepted record are what the tables read: header, layers, sets; and the counts that follow from them.
use Rattle.std.specs.Prelude.{ℕ, suc, ◌+◌, ◌-◌, ◌≤◌, ◌<◌, ◌≡◌, true, false, eqb, length, take}
use Rattle.std.proofs.Math.Path.{refl, sym, ap, subst⁻¹}
use Rattle.std.proofs.Common.{◌∙◌, arith, lit<, length-append, drop_at}
use mathlib.Core.List.{List, [], ◌∷◌, ◌++◌, append_assoc, append-nil}
use Rattle.std.proofs.Math.ListN.{get_or, drop}
use Rattle.refusals.specs.Number.{timing_index}
use Rattle.vps_definition.specs.Rules.{Rules}
use Rattle.vps_definition.specs.Syntax.{Token, numbers, look}
use Rattle.vps_definition.specs.Syntax.Syntax.{late, mark, test, done}
use Rattle.vps_definition.specs.Syntax.Token.{section}
use Rattle.vps_definition.specs.OutputLayerSets.{total_num_olss, num_multi_layer_olss}
use Rattle.vps_definition.specs.OutputLayerSets.Sets.{each_layer, up_to}
use Rattle.vps_definition.specs.Vps.{Header, Layers, SetsRead, header_under, layers_section, rows_section, no_rows, sets_section, ptl_section, general_of}
use Rattle.vps_definition.specs.Record.{record_of, start_of}
use Rattle.vps_definition.specs.Reading.{read_unit_under}
use Rattle.vps_definition.specs.Reading.Reading.{accepts}
use Rattle.vps_definition.specs.Writing.{well_formed_under}
use Rattle.vps_definition.specs.Layout.{from_section, flags_from, sets_in, ptl_count, set_count, multi_count, timing_flag, timing_count, timing_indices}
use Rattle.vps_definition.specs.Views.{no_layers, no_sets, header_of, layers_of, sets_read_of, refs_of, sets_of, timing_entry}
use Rattle.vps_laws.specs.Keeps.{Keeps, Returns, clash, numbers_append, keeps_any, keeps_so, keeps_test, keeps_late, keeps_mark, keeps_keep, keeps_done}
use Rattle.vps_laws.proofs.Keeps.{keeps_bind, returns_bind}
use Rattle.vps_laws.proofs.Coherence.{coh_look}
use Rattle.vps_laws.proofs.Tables.{local_layers_section}
use Rattle.vps_laws.specs.Units.{rbsp_parts}
use Rattle.vps_laws.proofs.Units.{written_read}
use Rattle.vps_laws.specs.Sections.{Sections}
use Rattle.vps_laws.proofs.Sections.{sections}
use Rattle.vps_laws.specs.Whole.{HeaderAt, SetsAt}
use Rattle.vps_laws.proofs.Whole.{coh_sets_section}
use Rattle.vps_laws.specs.Accepted.{closing}
use Rattle.vps_laws.specs.Marks.{marks, start_of_lem}
use Rattle.vps_laws.specs.Places.{ReadAt, read_keeps}
use Rattle.vps_laws.specs.SlotViews.{SlotsRead}
use Rattle.vps_laws.proofs.SlotViews.{slots_read}
use Rattle.vps_laws.specs.TimingViews.{TimingViewed, numbers_here}
use Rattle.vps_laws.proofs.TimingViews.{timing_viewed}
use Rattle.vps_laws.proofs.ByNumber.{layers_flags, sets_numbers}
use Rattle.vps_laws.proofs.Indices.{keeps_indices, keeps_ols}
use Rattle.vps_laws.specs.Laid.{Marks₇, seven_marks, from_mark, from_part, record_number}
use Rattle.vps_laws.proofs.Laid.{dpb_sound, entries, sets_marked, buffers_marked, seven_parts, timing_parts, timing_start}
use Rattle.vps_laws.specs.Claims.{rbsp_in, accepted_reads, well_formed_written}
use Rattle.vps_laws.specs.Views.{entries_multi, Viewed, Read}

-- ── Each layer a set ──────────────────────────────────────────────────
-- where the each-layer flag isn't 0 each layer is a set
sets_each : (h : Header) → Returns (λ s. eqb s.each_layer_flag 0 ≡ false → s.sets ≡ each_layer) (sets_section h)
unfolding sets_section
sets_each h = returns_bind _ λ e. returns_bind _ λ m. returns_bind _ λ c. keeps_bind (rows e m) λ s t q. keeps_done q
  where
    none : Keeps (λ s t. s ≡ each_layer) (no_rows each_layer)
    none = unfold no_rows in keeps_keep (keeps_done refl)

    rows : (e m : ℕ) → Keeps (λ s t. eqb e 0 ≡ false → s ≡ each_layer) (mark (test (eqb e 0) (test (eqb m 2) (rows_section h.layers) (no_rows up_to)) (no_rows each_layer)))
    rows e m = keeps_mark (keeps_test (eqb e 0) (λ q. keeps_any (λ s t f. clash q f)) (λ q. keeps_so none (λ s t i f. i)))

-- from one layer to 64
header_layers : (rules : Rules) → Returns (λ h. (1 ≤ h.layers) × (h.layers ≤ 64)) (header_under rules)
unfolding header_under
header_layers rules =
    returns_bind _ λ id. keeps_bind six λ n t l. returns_bind _ λ top. returns_bind _ λ c. returns_bind _ λ d. returns_bind _ λ a.
    keeps_done (omega arith, omega arith)
  where
    six : {find : List ℕ → List ℕ → ℕ} → Keeps (λ n t. n < 64) (late 6 find done)
    six = keeps_late (λ v l. keeps_done l)

-- a list's end behind a front, counted from a place further on
last_of : (r pre rest z front end many : List ℕ) (on start multi : ℕ) → r ≡ pre ++ ((on ∷ rest) ++ z) → start ≡ length pre + suc (length rest) → rest ++ z ≡ front ++ end → end ≡ many ++ z
    → length many ≡ multi → drop (start - multi) r ≡ end
last_of r pre rest z front end many on start multi e s f g l =
    let q : r ≡ (pre ++ (on ∷ front)) ++ end = e ∙ ap (λ (x : List ℕ). pre ++ (on ∷ x)) f ∙ sym (append_assoc pre (on ∷ front) end) in
    let n : length (pre ++ (on ∷ front)) ≡ start - multi = omega (arith, s, l, length-append pre (on ∷ front), ap length f, length-append rest z, length-append front end, ap length g, length-append many z) in
    ap (drop (start - multi)) q ∙ drop_at (pre ++ (on ∷ front)) end (start - multi) n

module _ {rules : Rules} {s g : List ℕ} {t : List Token} {next : ℕ} (S : Sections rules s g t next) (e : List ℕ) where
  abbrev rec : List ℕ
  rec = record_of g t e

  nine : length g ≡ 9
  nine = ap length S.general_is

  abbrev K : Marks₇ t S.layers_kept (sets_marked S).inner S.ptls_kept S.ols_kept (buffers_marked S).dpb (buffers_marked S).timing
  K = seven_marks (seven_parts S)

  -- number i of the General section
  number_is : (i : ℕ) → i < 9 → get_or rec i 0 ≡ get_or (general_of S.h S.sets S.flag S.extension_flag) i 0
  number_is i l = record_number g t e i nine l ∙ ap (λ (x : List ℕ). get_or x i 0) S.general_is

  header_at : HeaderAt rec S.h
  header_at = record {
    layers = number_is 0 (lit< tt);
    id = number_is 1 (lit< tt);
    top = number_is 2 (lit< tt);
    default = number_is 3 (lit< tt);
    all = number_is 4 (lit< tt);
  }

  sets_at : SetsAt rec S.sets
  sets_at = record { each = number_is 5 (lit< tt); mode = number_is 6 (lit< tt) }

  header_seen : header_of rec ≡ S.h
  unfolding header_of
  header_seen = rw (header_at.layers, header_at.id, header_at.top, header_at.default, header_at.all) refl

  layers_seen : layers_of rec ≡ S.l
  unfolding layers_of
  layers_seen =
      let F = from_part g t e nine K.seven 0 [] S.layers_kept _ K.first in
      ap (λ (h : Header). look no_layers (layers_section h) rec (from_section rec 1)) header_seen
      ∙ ap (look no_layers (layers_section S.h) rec) F.1 ∙ coh_look (local_layers_section S.h) s S.at₁ S.layers_read _ rec F.0 tt

  sets_seen : sets_read_of rec ≡ S.sets
  unfolding sets_read_of numbers
  sets_seen =
      let M = sets_marked S in
      let F = from_part g t e nine K.seven 1 K.before_r M.inner _ K.second in
      let n : numbers S.sets_kept ≡ numbers M.inner = ap numbers M.is in
      ap (λ (h : Header). look no_sets (sets_section h) rec (from_section rec 2)) header_seen
      ∙ ap (look no_sets (sets_section S.h) rec) (F.1 ∙ ap (λ (x : List ℕ). x ++ F.0) (sym n))
      ∙ coh_look (coh_sets_section S.h) s S.at₂ S.sets_read _ rec F.0 sets_at

  start_first : from_section rec 1 ≡ drop 9 rec
  unfolding from_section numbers marks
  start_first = ap (λ (k : ℕ). drop k rec) (start_of_lem g t e nine K.seven [] _ K.first.here)

  refs_by_number : S.l.refs ≡ flags_from (get_or rec 0 0) 0 (from_section rec 1)
  refs_by_number =
      let F = from_part g t e nine K.seven 0 [] S.layers_kept _ K.first in
      (layers_flags S.h).holds s S.at₁ S.layers_read F.0
      ∙ ap (λ (n : ℕ). flags_from n 0 (numbers S.layers_kept ++ F.0)) (sym (number_is 0 (lit< tt))) ∙ ap (flags_from (get_or rec 0 0) 0) (sym F.1)

  sets_by_number : S.sets.sets ≡ sets_in (get_or rec 0 0) (get_or rec 5 0) (get_or rec 6 0) (from_section rec 2)
  unfolding numbers
  sets_by_number =
      let M = sets_marked S in
      let F = from_part g t e nine K.seven 1 K.before_r M.inner _ K.second in
      let n : numbers S.sets_kept ≡ numbers M.inner = ap numbers M.is in
      let q : sets_in (get_or rec 0 0) (get_or rec 5 0) (get_or rec 6 0) (from_section rec 2) ≡ sets_in S.h.layers S.sets.each_layer_flag S.sets.mode_idc (numbers S.sets_kept ++ F.0) =
      alike (number_is 0 (lit< tt)) (number_is 5 (lit< tt)) (number_is 6 (lit< tt)) (F.1 ∙ ap (λ (x : List ℕ). x ++ F.0) (sym n)) in
      (sets_numbers S.h).holds s S.at₂ S.sets_read F.0 ∙ sym q
    where
      alike : {a a' b b' c c' : ℕ} {x x' : List ℕ} → a ≡ a' → b ≡ b' → c ≡ c' → x ≡ x' → sets_in a b c x ≡ sets_in a' b' c' x'
      alike {a' = a'} {b = b} {b' = b'} {c = c} {c' = c'} {x = x} e f g h = ap (λ (n : ℕ). sets_in n b c x) e ∙ ap (λ (n : ℕ). sets_in a' n c x) f ∙ ap (λ (n : ℕ). sets_in a' b' n x) g ∙ ap (sets_in a' b' c') h

  -- the PTL section goes up to the OLS section
  ptls_there : ReadAt (ptl_section S.h (total_num_olss S.h.layers S.sets.sets)) S.ptls (from_section rec 3) (from_section rec 4)
  unfolding numbers
  ptls_there = record {
    source = s;
    at = S.at₃;
    tokens = S.ptls_kept;
    next = S.at₄;
    read = S.ptls_read;
    is =
        from_mark g t e nine K.seven 2 K.before_p _ K.third
        ∙ ap (λ (x : List ℕ). x ++ closing g t e) (numbers_append S.ptls_kept _) ∙ append_assoc (numbers S.ptls_kept) _ (closing g t e)
        ∙ ap (λ (x : List ℕ). numbers S.ptls_kept ++ x) (sym (from_mark g t e nine K.seven 3 K.before_o _ K.fourth));
  }

  pub slots_seen : SlotsRead rec (ptl_count rec) (from_section rec 3) (from_section rec 4)
  unfolding ptl_count
  slots_seen =
      let R = slots_read S.h _ S.ptls rec (from_section rec 3) (from_section rec 4) ptls_there in
      subst⁻¹ (λ (n : ℕ). SlotsRead rec n (from_section rec 3) (from_section rec 4)) R.count_is R

  total_seen : set_count rec ≡ total_num_olss S.h.layers S.sets.sets
  unfolding set_count
  total_seen =
      let O = (keeps_ols S.ptls _).holds s S.at₄ S.ols_read in
      let F = from_part g t e nine K.seven 3 K.before_o S.ols_kept _ K.fourth in
      ap (λ (x : List ℕ). get_or x 0 0) (F.1 ∙ ap (λ (x : List ℕ). x ++ F.0) O.1)

  -- the entries of the DPB section are counted in it
  many : multi_count rec ≡ entries S
  many =
      let B = buffers_marked S in
      let F = from_part g t e nine K.seven 4 K.before_d B.dpb _ K.fifth in
      (dpb_sound rec (numbers B.dpb) F.0 S.flag (entries S) F.1 (number_is 7 (lit< tt)) B.buffers).many

  multi_seen : multi_count rec ≡ num_multi_layer_olss S.h.layers S.l.refs S.sets.sets
  multi_seen =
      many ∙ entries_multi S.sets.each_layer_flag S.h.layers S.l.refs S.sets.sets ((sets_each S.h).holds s S.at₂ S.sets_read)

  -- from the timing section on, and from the extension on
  from_timing : from_section rec 6 ≡ (buffers_marked S).on ∷ ((buffers_marked S).rest ++ closing g t e)
  unfolding numbers
  from_timing =
      let B = buffers_marked S in
      from_mark g t e nine K.seven 5 K.before_m (B.timing ++ (section ∷ [])) K.sixth
      ∙ ap (λ (x : List ℕ). x ++ closing g t e) (numbers_append B.timing (section ∷ []) ∙ append-nil (numbers B.timing) ∙ B.timed)

  from_extension : from_section rec 7 ≡ closing g t e
  unfolding numbers
  from_extension = from_mark g t e nine K.seven 6 (K.before_m ++ (section ∷ (buffers_marked S).timing)) [] K.seventh

  flag_on : timing_flag rec ≡ 1 → (buffers_marked S).on ≡ 1
  unfolding timing_flag
  flag_on f = sym (ap (λ (x : List ℕ). get_or x 0 0) from_timing) ∙ f

  pub timing_seen : timing_flag rec ≡ 1 → TimingViewed rec
  timing_seen f =
      let B = buffers_marked S in
      timing_viewed rec B.on S.h.default_max_tid_flag S.h.max_sublayers_minus1 (entries S) B.rest (closing g t e) from_timing from_extension
      (number_is 3 (lit< tt)) (number_is 2 (lit< tt)) many (B.read (flag_on f) (closing g t e))

  -- the timing indices are what stands behind the last entry
  pub indices_seen : timing_flag rec ≡ 1 → drop (start_of rec 7 - multi_count rec) rec ≡ timing_entry rec (timing_count rec)
  indices_seen f =
      let B = buffers_marked S in
      let T = timing_seen f in
      let I = read_keeps (keeps_indices (timing_count rec) (multi_count rec) timing_index (multi_count rec) 0 tt) T.indices in
      last_of rec (g ++ numbers K.before_m) B.rest (closing g t e) T.ends.front (timing_entry rec (timing_count rec)) (numbers T.indices.tokens) B.on (start_of rec 7) (multi_count rec)
      (timing_parts g t e nine (seven_parts S) B.on B.rest B.timed) (timing_start g t e nine (seven_parts S) B.on B.rest B.timed)
      (sym (numbers_here rec B.on (B.rest ++ closing g t e) from_timing) ∙ T.ends.is)
      (T.indices.is ∙ ap (λ (x : List ℕ). numbers T.indices.tokens ++ x) from_extension) I.many

  pub viewed : Viewed rec S
  unfolding refs_of sets_of
  viewed = record {
    header_is = header_seen;
    layers_is = layers_seen;
    sets_read_is = sets_seen;
    refs_is = ap (λ (l : Layers). l.refs) layers_seen;
    sets_is = ap (λ (x : SetsRead). x.sets) sets_seen;
    count = header_at.layers;
    some = omega (arith, header_at.layers, ((header_layers rules).holds s 0 S.header_read).0);
    few = omega (arith, header_at.layers, ((header_layers rules).holds s 0 S.header_read).1);
    total = total_seen;
    multi = multi_seen;
    layers_start = start_first;
    refs_numbered = ap (λ (l : Layers). l.refs) layers_seen ∙ refs_by_number ∙ ap (flags_from (get_or rec 0 0) 0) start_first;
    sets_numbered = ap (λ (x : SetsRead). x.sets) sets_seen ∙ sets_by_number;
  }

pub accepted_viewed : (rules : Rules) (u r : List ℕ) (n : ℕ) → read_unit_under rules u ≡ accepts r n → Read rules u r
accepted_viewed rules u r n e =
    let P = rbsp_parts rules (rbsp_in u) r n (accepted_reads rules u r n e) in
    let S = sections rules (rbsp_in u) P.general P.tokens P.behind P.reads in
    record {
      general = P.general;
      tokens = P.tokens;
      behind = P.behind;
      read = S;
      seen = subst⁻¹ (λ (x : List ℕ). Viewed x S) P.is (viewed S _);
      slots = subst⁻¹ (λ (x : List ℕ). SlotsRead x (ptl_count x) (from_section x 3) (from_section x 4)) P.is (slots_seen S _);
      timing = subst⁻¹ (λ (x : List ℕ). timing_flag x ≡ 1 → TimingViewed x) P.is (timing_seen S _);
      indices =
          subst⁻¹ (λ (x : List ℕ). timing_flag x ≡ 1 → timing_indices x ≡ take (multi_count x) (timing_entry x (timing_count x))) P.is
          (λ f. unfold timing_indices in ap (take (multi_count (record_of P.general P.tokens _))) (indices_seen S _ f));
    }

-- T and M of a record, by its views
pub page_count : (rules : Rules) (u r : List ℕ) (n : ℕ) → read_unit_under rules u ≡ accepts r n
    → (total_num_olss (get_or r 0 0) (sets_of r) ≡ set_count r) × (num_multi_layer_olss (get_or r 0 0) (refs_of r) (sets_of r) ≡ multi_count r)
page_count rules u r n e =
    let W = (accepted_viewed rules u r n e).seen in
    (rw (W.count, W.sets_is, W.total) refl, rw (W.count, W.sets_is, W.refs_is, W.multi) refl)

-- so of every well-formed record
pub well_formed_viewed : (rules : Rules) (r : List ℕ) → well_formed_under rules r ≡ true → (u : List ℕ) × Read rules u r
well_formed_viewed rules r w = let W = well_formed_written rules r w in (W.0, accepted_viewed rules W.0 r _ (written_read rules r W.0 W.1))
