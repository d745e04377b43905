-- The sections of an accepted record, each found where the trailer says, and what they hold.
use Prim.Native.Nat.{ℕ, suc, ◌+◌, ◌-◌, ◌<◌}
use Rattle.std.specs.Prelude.{◌≡◌, refl, Bool, cond, eqb, take, drop}
use Rattle.std.proofs.Math.Path.{sym, ap, subst⁻¹}
use Rattle.std.proofs.Common.{◌∙◌, arith, eqb-true, lit<, take_at, drop_at}
use mathlib.Core.List.{List, [], ◌∷◌, ◌++◌, append_assoc, append-nil}
use Rattle.std.proofs.Math.ListN.{length, get_or, length-append}
use Rattle.vps_definition.specs.Rules.{Rules}
use Rattle.vps_definition.specs.Syntax.{Token, numbers, run}
use Rattle.vps_definition.specs.Syntax.Syntax.{mark, test}
use Rattle.vps_definition.specs.Syntax.Token.{number, section}
use Rattle.vps_definition.specs.Syntax.Outcome.{accepted}
use Rattle.vps_definition.specs.Words.{u, when}
use Rattle.vps_definition.specs.DpbParameters.{dpb_section}
use Rattle.vps_definition.specs.TimingHrd.{timing_section}
use Rattle.vps_definition.specs.OutputLayerSets.{num_multi_layer_olss}
use Rattle.vps_definition.specs.OutputLayerSets.Sets.{each_layer, up_to}
use Rattle.vps_definition.specs.Vps.{Header, rows_section, no_rows, sets_section, multi_layer_sections, single_layer_sections, buffer_sections, vps_under}
use Rattle.vps_definition.specs.Record.{record_of, start_of}
use Rattle.vps_definition.specs.Writing.{extension_of}
use Rattle.vps_definition.specs.Layout.{from_section, ids_from, dpb_count, behind_slots, dpb_entries, multi_count, fifths, dpb_indices, timing_flag, timing_count, timing_indices, extension_in}
use Rattle.vps_laws.specs.Keeps.{Keeps, numbers_append, keeps_so, keeps_both, keeps_test, keeps_mark, keeps_keep, keeps_done, keeps_u, keeps_check, keeps_general_if, keeps_nothing}
use Rattle.vps_laws.proofs.Keeps.{keeps_bind}
use Rattle.vps_laws.specs.Sections.{Sections}
use Rattle.vps_laws.proofs.Sections.{sections}
use Rattle.vps_laws.specs.Accepted.{closing, record_parts, extension_of_lem}
use Rattle.vps_laws.specs.Marks.{marks, start_of_lem}
use Rattle.vps_laws.specs.Places.{keeps_read}
use Rattle.vps_laws.proofs.Plain.{plain_layers_section, plain_rows_section, plain_no_rows, plain_ptl_section, plain_ols_section, plain_dpb_section, plain_timing_section}
use Rattle.vps_laws.specs.Indices.{RisingFrom, Inside, Buffers, Timing}
use Rattle.vps_laws.proofs.Indices.{layers_rise, keeps_ols, keeps_ptls, keeps_dpb, keeps_timing}
use Rattle.vps_laws.specs.Laid.{Marked, Buffered, Dpb, Timed, dpb_entries_of, Seven, Marks₇, seven_marks, from_mark, from_part, Sound, ids_sound, ptls_sound, DpbSound, fifths_many, record_number, seven_of}

keeps_rows : (h : Header) (e m : ℕ) → Keeps (λ a t. Marked t) (mark (test (eqb e 0) (test (eqb m 2) (rows_section h.layers) (no_rows up_to)) (no_rows each_layer)))
keeps_rows h e m = keeps_mark (keeps_so rows (λ a t q. record { inner = t; is = refl; plain = q }))
  where
    rows : Keeps (λ a t. marks t ≡ 0) (test (eqb e 0) (test (eqb m 2) (rows_section h.layers) (no_rows up_to)) (no_rows each_layer))
    rows = keeps_test (eqb e 0) (λ q. keeps_test (eqb m 2) (λ q. (plain_rows_section h.layers).plain) (λ q. (plain_no_rows up_to).plain)) (λ q. (plain_no_rows each_layer).plain)

keeps_sets : (h : Header) → Keeps (λ a t. Marked t) (sets_section h)
unfolding sets_section
keeps_sets h =
    keeps_bind (keeps_general_if _ 5 1 _) λ e t₁ e₁.
    keeps_bind (keeps_general_if _ 6 2 2) λ m t₂ e₂.
    keeps_bind (keeps_check _ _) λ c t₃ e₃.
    keeps_bind (keeps_rows h e m) λ s t₄ M.
    keeps_done (record { inner = M.inner; is = joined t₁ t₂ t₃ t₄ M.inner e₁.0 e₂.0 e₃.0 M.is; plain = M.plain })
  where
    joined : (t₁ t₂ t₃ t₄ u : List Token) → t₁ ≡ [] → t₂ ≡ [] → t₃ ≡ [] → t₄ ≡ section ∷ u → t₁ ++ (t₂ ++ (t₃ ++ (t₄ ++ []))) ≡ section ∷ u
    joined t₁ t₂ t₃ t₄ u a b c d = simp (a, b, c, d, append-nil)

dpb_marked : (d top multi : ℕ) → Keeps (Dpb multi) (mark (dpb_section d top multi))
dpb_marked d top multi = keeps_mark (keeps_so (keeps_both (keeps_dpb d top multi) (plain_dpb_section d top multi).plain) (λ a t q. record { inner = t; is = refl; buffers = q.0; plain = q.1 }))

flag_marked : Keeps (λ a t. t ≡ section ∷ number a ∷ []) (mark (u 1))
flag_marked = keeps_mark (keeps_so (keeps_u 1) (λ a t q. ap (λ (l : List Token). section ∷ l) q.0))

keeps_timed : (d top multi on : ℕ) → Keeps (λ a t. Timed d top multi on t) (when on (timing_section d top multi))
unfolding when marks
keeps_timed d top multi on = keeps_test (eqb on 0)
    (λ e. keeps_nothing (record { plain = refl; inside = λ f. absurd (omega (arith, eqb-true on 0 e)); read = λ f z. absurd (omega (arith, eqb-true on 0 e)) }))
    (λ e. keeps_so (keeps_both (keeps_timing d top multi) (keeps_both (plain_timing_section d top multi).plain keeps_read)) (λ a t q. record { plain = q.1.0; inside = λ f. q.0; read = λ f. q.1.1 }))

keeps_multi_layer : (h : Header) (multi : ℕ) → Keeps (Buffered h multi) (multi_layer_sections h multi)
unfolding multi_layer_sections
keeps_multi_layer h multi =
    keeps_bind (dpb_marked _ _ multi) λ flag t₁ D.
    keeps_bind flag_marked λ on t₂ e₂.
    keeps_bind (keeps_timed _ _ multi on) λ o t₃ T.
    keeps_done (buffered flag on t₁ t₂ t₃ D e₂ T)
  where
    buffered : (flag on : ℕ) (t₁ t₂ t₃ : List Token) → Dpb multi flag t₁ → t₂ ≡ section ∷ number on ∷ [] → Timed h.default_max_tid_flag h.max_sublayers_minus1 multi on t₃ → Buffered h multi flag (t₁ ++ (t₂ ++ (t₃ ++ [])))
    buffered flag on t₁ t₂ t₃ D e T = record {
      dpb = D.inner;
      timing = number on ∷ t₃;
      is = joined t₁ t₂ t₃ D.inner D.is e;
      plain_dpb = D.plain;
      plain_timing = unfold marks in T.plain;
      buffers = D.buffers;
      on = on;
      rest = numbers t₃;
      timed = unfold numbers in refl;
      inside = T.inside;
      read = T.read;
    }
      where
        joined : (t₁ t₂ t₃ d : List Token) → t₁ ≡ section ∷ d → t₂ ≡ section ∷ number on ∷ [] → t₁ ++ (t₂ ++ (t₃ ++ [])) ≡ section ∷ (d ++ (section ∷ number on ∷ t₃))
        joined t₁ t₂ t₃ d a b = simp (a, b, append-nil)

keeps_single_layer : (h : Header) → Keeps (Buffered h 0) single_layer_sections
unfolding single_layer_sections marks numbers behind_slots fifths
keeps_single_layer h = keeps_mark (keeps_keep (keeps_keep (keeps_mark (keeps_keep (keeps_done (record {
  dpb = number 0 ∷ number 0 ∷ [];
  timing = number 0 ∷ [];
  is = refl;
  plain_dpb = refl;
  plain_timing = refl;
  buffers = record { slots = 0; rest = 0 ∷ []; is = refl; entries = []; behind = λ z. refl; inside = λ z. tt };
  on = 0;
  rest = [];
  timed = refl;
  inside = λ e. absurd (omega arith);
  read = λ e z. absurd (omega arith);
}))))))

keeps_buffered : (h : Header) (each multi : ℕ) → Keeps (Buffered h (dpb_entries_of each multi)) (buffer_sections h each multi)
unfolding buffer_sections
keeps_buffered h each multi = keeps_test (eqb each 0) (λ e. subst⁻¹ (λ (n : ℕ). Keeps (Buffered h n) (multi_layer_sections h multi)) (counted e) (keeps_multi_layer h multi)) (λ e. subst⁻¹ (λ (n : ℕ). Keeps (Buffered h n) single_layer_sections) (counted e) (keeps_single_layer h))
  where
    counted : {b : Bool} → eqb each 0 ≡ b → dpb_entries_of each multi ≡ cond b multi 0
    counted e = ap (λ (b : Bool). cond b multi 0) e

pub dpb_sound : (r x z : List ℕ) (flag multi : ℕ) → from_section r 5 ≡ x ++ z → get_or r 7 0 ≡ flag → (B : Buffers flag multi x) → DpbSound r multi B.slots
unfolding dpb_count dpb_entries multi_count dpb_indices
dpb_sound r x z flag multi e f B =
    let g : from_section r 5 ≡ B.slots ∷ (B.rest ++ z) = e ∙ ap (λ (l : List ℕ). l ++ z) B.is in
    let c : get_or (from_section r 5) 0 0 ≡ B.slots = ap (λ (l : List ℕ). get_or l 0 0) g in
    let n : behind_slots (get_or r 7 0) (get_or (from_section r 5) 0 0) (drop 1 (from_section r 5)) ≡ multi ∷ (B.entries ++ z) = rw (f, g) (B.behind z) in
    let m : get_or (behind_slots (get_or r 7 0) (get_or (from_section r 5) 0 0) (drop 1 (from_section r 5))) 0 0 ≡ multi = ap (λ (l : List ℕ). get_or l 0 0) n in
    record {
      count = c;
      many = m;
      dpbs = rw (n, c) (record { below = B.inside z; many = fifths_many multi (B.entries ++ z) });
    }

-- of a timing section: the indices are its last numbers
timing_sound : (r pre x y z : List ℕ) (on multi : ℕ) → from_section r 6 ≡ (on ∷ x) ++ y → multi_count r ≡ multi → (T : Timing multi x)
    → r ≡ pre ++ ((on ∷ x) ++ z) → start_of r 7 ≡ length pre + suc (length x) → Inside (timing_count r) (multi_count r) (timing_indices r)
unfolding timing_count timing_indices
timing_sound r pre x y z on multi e f T g s =
    let I = T.inside in
    let c : get_or (from_section r 6) 13 0 ≡ T.entries = ap (λ (l : List ℕ). get_or l 13 0) (e ∙ ap (λ (l : List ℕ). on ∷ (l ++ y)) T.is ∙ ap (λ (l : List ℕ). on ∷ l) (append_assoc T.front T.indices y)) ∙ T.count (T.indices ++ y) in
    let p : List ℕ = pre ++ (on ∷ T.front) in
    let q : r ≡ p ++ (T.indices ++ z) = g ∙ ap (λ (l : List ℕ). pre ++ (on ∷ (l ++ z))) T.is ∙ ap (λ (l : List ℕ). pre ++ (on ∷ l)) (append_assoc T.front T.indices z) ∙ sym (append_assoc pre (on ∷ T.front) (T.indices ++ z)) in
    let n : length p ≡ start_of r 7 - multi = omega (arith, s, length-append pre (on ∷ T.front), ap length T.is, length-append T.front T.indices, I.many) in
    let d : drop (start_of r 7 - multi) r ≡ T.indices ++ z = ap (drop (start_of r 7 - multi)) q ∙ drop_at p (T.indices ++ z) (start_of r 7 - multi) n in
    let k : take multi (T.indices ++ z) ≡ T.indices = take_at T.indices z multi I.many in
    rw (f, c) (rw (d, k) I)

module _ (g : List ℕ) (t : List Token) (e : List ℕ) (nine : length g ≡ 9) {l r p o d m : List Token} (S : Seven t l r p o d m) where
  abbrev pub K : Marks₇ t l r p o d m
  K = seven_marks S

  -- the record behind its numbers before the timing section
  pub timing_parts : (on : ℕ) (x : List ℕ) → numbers m ≡ on ∷ x → record_of g t e ≡ (g ++ numbers K.before_m) ++ ((on ∷ x) ++ closing g t e)
  unfolding numbers
  timing_parts on x f =
      let a : List Token = K.before_m in
      let q : numbers t ≡ numbers a ++ (on ∷ x) = ap numbers K.seventh.here ∙ numbers_append (a ++ (section ∷ m)) (section ∷ []) ∙ append-nil _ ∙ numbers_append a (section ∷ m) ∙ ap (λ (y : List ℕ). numbers a ++ y) f in
      record_parts g t e ∙ ap (λ (y : List ℕ). g ++ (y ++ closing g t e)) q ∙ ap (λ (y : List ℕ). g ++ y) (append_assoc (numbers a) (on ∷ x) (closing g t e)) ∙ sym (append_assoc g (numbers a) ((on ∷ x) ++ closing g t e))

  pub timing_start : (on : ℕ) (x : List ℕ) → numbers m ≡ on ∷ x → start_of (record_of g t e) 7 ≡ length (g ++ numbers K.before_m) + suc (length x)
  unfolding numbers
  timing_start on x f =
      let a : List Token = K.before_m in
      let c : suc (marks (a ++ (section ∷ m))) ≡ 7 = ap suc K.seventh.count in
      let n : numbers (a ++ (section ∷ m)) ≡ numbers a ++ (on ∷ x) = numbers_append a (section ∷ m) ∙ ap (λ (y : List ℕ). numbers a ++ y) f in
      ap (start_of (record_of g t e)) (sym c) ∙ start_of_lem g t e nine K.seven (a ++ (section ∷ m)) [] K.seventh.here
      ∙ omega (arith, nine, ap length n, length-append (numbers a) (on ∷ x), length-append g (numbers a))

  pub sound_of : (n flag ptls total multi on : ℕ) (x y z : List ℕ) → get_or g 0 0 ≡ n → get_or g 7 0 ≡ flag → ((w : List ℕ) → RisingFrom 0 (ids_from n 0 (numbers l ++ w)))
      → numbers p ≡ ptls ∷ x → numbers o ≡ total ∷ y → Inside ptls total y → Buffers flag multi (numbers d) → numbers m ≡ on ∷ z → (on ≡ 1 → Timing multi z) → Sound (record_of g t e)
  unfolding timing_flag
  sound_of n flag ptls total multi on x y z f₀ f₇ R P O I B T F =
      let q : List ℕ = record_of g t e in
      let F₁ = from_part g t e nine K.seven 0 [] l _ K.first in
      let F₃ = from_part g t e nine K.seven 2 K.before_p p _ K.third in
      let F₄ = from_part g t e nine K.seven 3 K.before_o o _ K.fourth in
      let F₅ = from_part g t e nine K.seven 4 K.before_d d _ K.fifth in
      let F₆ = from_part g t e nine K.seven 5 K.before_m m _ K.sixth in
      let E₆ : from_section q 6 ≡ (on ∷ z) ++ F₆.0 = F₆.1 ∙ ap (λ (w : List ℕ). w ++ F₆.0) T in
      let D = dpb_sound q (numbers d) F₅.0 flag multi F₅.1 (record_number g t e 7 nine (lit< tt) ∙ f₇) B in
      record {
        ids = ids_sound q (numbers l) F₁.0 n F₁.1 (record_number g t e 0 nine (lit< tt) ∙ f₀) R;
        ptls = ptls_sound q y F₄.0 x F₃.0 ptls total (F₃.1 ∙ ap (λ (w : List ℕ). w ++ F₃.0) P) (F₄.1 ∙ ap (λ (w : List ℕ). w ++ F₄.0) O) I;
        dpbs = D.dpbs;
        timings = λ h. timing_sound q (g ++ numbers K.before_m) z F₆.0 (closing g t e) on multi E₆ D.many (F (sym (ap (λ (w : List ℕ). get_or w 0 0) E₆) ∙ h)) (timing_parts on z T) (timing_start on z T);
      }

module _ {rules : Rules} {s g : List ℕ} {t : List Token} {next : ℕ} (S : Sections rules s g t next) where
  pub sets_marked : Marked S.sets_kept
  sets_marked = (keeps_sets S.h).holds s S.at₂ S.sets_read

  -- the number of entries of the DPB section
  abbrev pub entries : ℕ
  entries = dpb_entries_of S.sets.each_layer_flag (num_multi_layer_olss S.h.layers S.l.refs S.sets.sets)

  pub buffers_marked : Buffered S.h entries S.flag S.buffers_kept
  buffers_marked = (keeps_buffered S.h _ _).holds s S.at₅ S.buffers_read

  pub seven_parts : Seven t S.layers_kept sets_marked.inner S.ptls_kept S.ols_kept buffers_marked.dpb buffers_marked.timing
  seven_parts = record {
    tokens =
        seven_of t S.layers_kept S.sets_kept S.ptls_kept S.ols_kept S.buffers_kept sets_marked.inner buffers_marked.dpb buffers_marked.timing S.tokens_are sets_marked.is buffers_marked.is;
    plain_l = (plain_layers_section S.h).plain.holds s S.at₁ S.layers_read;
    plain_r = sets_marked.plain;
    plain_p = (plain_ptl_section S.h _).plain.holds s S.at₃ S.ptls_read;
    plain_o = (plain_ols_section S.ptls _).plain.holds s S.at₄ S.ols_read;
    plain_d = buffers_marked.plain_dpb;
    plain_m = buffers_marked.plain_timing;
  }

pub record_sound : (rules : Rules) (s g : List ℕ) (t : List Token) (next : ℕ) (e : List ℕ) → run (vps_under rules) s 0 ≡ accepted g t next → Sound (record_of g t e)
record_sound rules s g t next e R =
    let S = sections rules s g t next R in
    let B = buffers_marked S in
    let P = (keeps_ptls S.h _).holds s S.at₃ S.ptls_read in
    let O = (keeps_ols S.ptls _).holds s S.at₄ S.ols_read in
    sound_of g t e (ap length S.general_is) (seven_parts S) S.h.layers S.flag S.ptls _ (entries S) B.on P.0 O.0 B.rest
    (ap (λ (l : List ℕ). get_or l 0 0) S.general_is) (ap (λ (l : List ℕ). get_or l 7 0) S.general_is) ((layers_rise S.h).holds s S.at₁ S.layers_read) P.1 O.1 O.2 B.buffers B.timed B.inside

-- a table that is read has seven marks
pub record_seven : (rules : Rules) (s g : List ℕ) (t : List Token) (next : ℕ) → run (vps_under rules) s 0 ≡ accepted g t next → marks t ≡ 7
record_seven rules s g t next R = (seven_marks (seven_parts (sections rules s g t next R))).seven

-- and its record ends with the extension section and the trailer
pub record_from_extension : (rules : Rules) (s g : List ℕ) (t : List Token) (next : ℕ) (e : List ℕ) → run (vps_under rules) s 0 ≡ accepted g t next → from_section (record_of g t e) 7 ≡ closing g t e
unfolding numbers
record_from_extension rules s g t next e R =
    let S = sections rules s g t next R in
    let K = seven_marks (seven_parts S) in
    from_mark g t e (ap length S.general_is) K.seven 6 _ [] K.seventh

-- with the bits that were read
pub record_extension : (rules : Rules) (s g : List ℕ) (t : List Token) (next : ℕ) (e : List ℕ) → run (vps_under rules) s 0 ≡ accepted g t next → extension_in (record_of g t e) ≡ e
unfolding extension_in
record_extension rules s g t next e R = ap extension_of (record_from_extension rules s g t next e R) ∙ extension_of_lem g t e
