-- The timing section by its views: each entry, sublayer and schedule that was read stands where the view looks, and behind the last entry the indices.
use Prim.Native.Nat.{ℕ, suc, ◌+◌, ◌*◌, ◌^◌, ◌≤◌, ◌<◌}
use Rattle.std.specs.Prelude.{◌≡◌, refl, Bool, true, false, cond, ◌&&◌, ltb, leb, eqb, length, get_or, drop}
use Rattle.std.proofs.Common.{sym, ◌∙◌, subst, subst₂, arith, leb-true, ltb-true, drop-drop}
use Rattle.std.proofs.Math.Path.{ap, subst⁻¹}
use mathlib.Core.List.{List, [], ◌∷◌, ◌++◌}
use Rattle.std.proofs.Math.Seq.{drop_at}
use Rattle.refusals.specs.Number.{timing_max_tid, timing_index}
use Rattle.lists.specs.Table.{and_both}
use Rattle.vps_definition.specs.Syntax.{Token, numbers}
use Rattle.vps_definition.specs.Syntax.Token.{number}
use Rattle.vps_definition.specs.Words.{when, loop, repeat}
use Rattle.vps_definition.specs.DpbParameters.{sublayers, per_sublayer, index}
use Rattle.vps_definition.specs.TimingHrd.{Hrd, general_timing_hrd, du_values, schedule, sublayer_hrd, timing_sublayer, timing_section}
use Rattle.vps_definition.specs.Layout.{from_section, multi_count, timing_count}
use Rattle.vps_definition.specs.Views.{timing_numbers, no_hrd, hrd_of, timing_sublayer_flag, schedule_length, schedules_length, sublayer_length, behind_entry, again, timing_entry, sublayer_count, sublayer_at, nal_schedule_at, vcl_schedule_at}
use Rattle.vps_laws.specs.Keeps.{Keeps, keeps_so, keeps_done, keeps_u, keeps_ue_if, keeps_ue_minus1, keeps_check}
use Rattle.vps_laws.proofs.Keeps.{keeps_bind, keeps_u_if}
use Rattle.vps_laws.proofs.Tables.{local_general_timing_hrd}
use Rattle.vps_laws.specs.Indices.{Long, long_one, long_ue, long_ue_if, long_check, long_nothing}
use Rattle.vps_laws.proofs.Indices.{long_bind, long_u, long_u_if, long_loop, long_general_timing_hrd}
use Rattle.vps_laws.specs.Places.{ReadAt, read_keeps, read_first, read_else, Passes, long_passes, again_drop, get_drop, Ends, read_ends, ends_on}
use Rattle.vps_laws.proofs.Places.{read_look, read_both, passes_loop, read_again}
use Rattle.vps_laws.specs.TimingViews.{long_as, long_when, TimingRead, HrdRead, small, SublayerRead, TimingViewed, numbers_here, count_here}

long_du_values : Long 2 du_values
unfolding du_values
long_du_values = long_bind long_ue λ a. long_bind long_ue λ b. long_nothing

pub long_schedule : (h : Hrd) → Long (schedule_length h) (schedule h.du)
unfolding schedule schedule_length
long_schedule h = long_as (3 + cond (eqb h.du 0) 0 2) (long_bind long_ue λ a. long_bind long_ue λ b. long_bind (long_when h.du 2 long_du_values) λ d. long_bind (long_u 1) λ c. long_nothing) (omega arith)

long_sublayer_hrd : (h : Hrd) → Long ((h.cpb_cnt_minus1 + 1) * schedule_length h) (sublayer_hrd h)
unfolding sublayer_hrd repeat
long_sublayer_hrd h = long_loop (schedule_length h) (h.cpb_cnt_minus1 + 1) 0 tt (λ i x. long_schedule h)

long_schedules : (h : Hrd) (flag : ℕ) → Long (schedules_length h flag) (when flag (sublayer_hrd h))
unfolding schedules_length
long_schedules h flag = long_when flag _ (long_sublayer_hrd h)

pub long_timing_sublayer : (h : Hrd) → Long (sublayer_length h) (timing_sublayer h)
unfolding timing_sublayer sublayer_length
long_timing_sublayer h =
    long_as (4 + (schedules_length h h.nal + schedules_length h h.vcl))
    (long_bind (long_u 1) λ g. long_bind (long_u_if _ 1 1) λ w. long_bind (long_ue_if _ 0) λ e. long_bind (long_check _ _) λ c. long_bind (long_u_if _ 1 0) λ l.
    long_bind (long_schedules h h.nal) λ n. long_schedules h h.vcl) (omega arith)

-- past an entry
pub passes_entry : (d top n flag : ℕ) (h : Hrd) → Passes (behind_entry h flag) (per_sublayer d top n flag (timing_sublayer h))
unfolding per_sublayer repeat behind_entry
passes_entry d top n flag h = record {
  pass =
      keeps_bind (keeps_u_if (eqb d 0) 3 top) λ v t₁ e₁.
      keeps_bind (keeps_check (leb v top) n) λ c t₂ e₂.
      keeps_so (long_loop (sublayer_length h) (sublayers flag v) 0 tt (λ i x. long_timing_sublayer h)).long λ a t₃ e₃ z.
      past v t₁ t₂ t₃ e₁.0 e₂.0 e₃ z;
}
  where
    past : (v : ℕ) (t₁ t₂ t₃ : List Token) → t₁ ≡ number v ∷ [] → t₂ ≡ [] → length (numbers t₃) ≡ sublayers flag v * sublayer_length h → (z : List ℕ) → behind_entry h flag (numbers (t₁ ++ (t₂ ++ t₃)) ++ z) ≡ z
    past v t₁ t₂ t₃ a b l z =
        let q : numbers (t₁ ++ (t₂ ++ t₃)) ≡ v ∷ numbers t₃ = unfold numbers in simp (a, b) in
        ap (λ (x : List ℕ). behind_entry h flag (x ++ z)) q
        ∙ drop_at (v ∷ numbers t₃) z (1 + sublayers flag v * sublayer_length h) (ap suc l ∙ omega arith)

pub timing_read : (d top multi : ℕ) (y z : List ℕ) → ReadAt (timing_section d top multi) tt y z → (hrd : Hrd) × (flag count : ℕ) × TimingRead d top multi hrd flag count y z
unfolding timing_section repeat
timing_read d top multi y z R =
    let B₁ = read_both (long_passes long_general_timing_hrd) R in
    let B₂ = read_both (long_passes (long_u_if (ltb 0 top) 1 0)) B₁.2 in
    let B₃ = read_both (long_passes (long_one (keeps_so keeps_ue_minus1 (λ a t h. h.0)))) B₂.2 in
    let B₄ = read_both (long_passes (long_check _ _)) B₃.2 in
    let B₅ = read_both (passes_loop (behind_entry B₁.0 B₂.0) B₃.0 0 tt (λ i x. passes_entry d top timing_max_tid B₂.0 B₁.0)) B₄.2 in
    let step : List ℕ → List ℕ = behind_entry B₁.0 B₂.0 in
    let q : drop 1 (drop 1 (drop 11 y)) ≡ drop 13 y = ap (drop 1) (drop-drop 1 11 y) ∙ drop-drop 1 12 y in (
      B₁.0,
      B₂.0,
      B₃.0,
      record {
        hrd_read = B₁.1;
        flag_is = sym (get_drop 11 y) ∙ read_first (keeps_so (keeps_u_if (ltb 0 top) 1 0) (λ a t h. h.0)) B₂.1;
        count_is = sym (get_drop 12 y) ∙ ap (λ (x : List ℕ). get_or x 0 0) (sym (drop-drop 1 11 y)) ∙ read_first (keeps_so keeps_ue_minus1 (λ a t h. h.0)) B₃.1;
        few = leb-true B₃.0 multi (read_keeps (keeps_check _ _) B₄.1).1;
        entry = λ e l. subst (λ (x : List ℕ). ReadAt (per_sublayer d top timing_max_tid B₂.0 (timing_sublayer B₁.0)) tt (again step e x) (again step (suc e) x)) q
            (read_again step B₃.0 _ (passes_entry d top timing_max_tid B₂.0 B₁.0) B₅.1 e l);
        indices = subst (λ (x : List ℕ). ReadAt (loop (λ i x. index B₃.0 multi timing_index i) multi 0 tt) tt (again step B₃.0 x) z) q B₅.2;
        ends = subst (λ (x : List ℕ). Ends y (again step B₃.0 x)) q (ends_on (read_ends B₁.1) (ends_on (read_ends B₂.1) (ends_on (read_ends B₃.1) (ends_on (read_ends B₄.1) (read_ends B₅.1)))));
      },
    )

keeps_hrd : Keeps (λ h t. (z : List ℕ) → HrdRead h (numbers t ++ z)) general_timing_hrd
unfolding general_timing_hrd
keeps_hrd =
    keeps_bind (keeps_u 32) λ n₀ t₀ e₀.
    keeps_bind (keeps_u 32) λ n₁ t₁ e₁.
    keeps_bind (keeps_u 1) λ n₂ t₂ e₂.
    keeps_bind (keeps_u 1) λ n₃ t₃ e₃.
    keeps_bind (keeps_check (ltb 0 n₀ && ltb 0 n₁) _) λ c d₀ f₀.
    keeps_bind (keeps_u_if _ 1 0) λ n₄ t₄ e₄.
    keeps_bind (keeps_u_if _ 1 0) λ n₅ t₅ e₅.
    keeps_bind (keeps_u_if _ 8 0) λ n₆ t₆ e₆.
    keeps_bind (keeps_u_if _ 4 0) λ n₇ t₇ e₇.
    keeps_bind (keeps_u_if _ 4 0) λ n₈ t₈ e₈.
    keeps_bind (keeps_u_if _ 4 0) λ n₉ t₉ e₉.
    keeps_bind (keeps_ue_if _ 0) λ n t e.
    keeps_bind (keeps_check (leb n 31) _) λ k d₁ f₁.
    keeps_done (λ z.
    let B = and_both (ltb 0 n₀) (ltb 0 n₁) f₀.1 in
    let q = laid n₀ n₁ n₂ n₃ n₄ n₅ n₆ n₇ n₈ n₉ n t₀ t₁ t₂ t₃ d₀ t₄ t₅ t₆ t₇ t₈ t₉ t d₁ z e₀.0 e₁.0 e₂.0 e₃.0 f₀.0 e₄.0 e₅.0 e₆.0 e₇.0 e₈.0 e₉.0 e.0 f₁.0 in
    subst⁻¹ (HrdRead _) q (record {
      units = ltb-true 0 n₀ B.0;
      scale = ltb-true 0 n₁ B.1;
      nal = refl;
      vcl = refl;
      du = refl;
      bit_rate_scale = small _ 16 n₇ e₇.1 e₇.2 (omega arith);
      cpb_size_scale = small _ 16 n₈ e₈.1 e₈.2 (omega arith);
      schedules = refl;
      few = leb-true n 31 f₁.1;
    }))
  where
    laid : (n₀ n₁ n₂ n₃ n₄ n₅ n₆ n₇ n₈ n₉ n : ℕ) (t₀ t₁ t₂ t₃ d₀ t₄ t₅ t₆ t₇ t₈ t₉ t d₁ : List Token) (z : List ℕ) → t₀ ≡ number n₀ ∷ [] → t₁ ≡ number n₁ ∷ [] → t₂ ≡ number n₂ ∷ [] → t₃ ≡ number n₃ ∷ []
        → d₀ ≡ [] → t₄ ≡ number n₄ ∷ [] → t₅ ≡ number n₅ ∷ [] → t₆ ≡ number n₆ ∷ [] → t₇ ≡ number n₇ ∷ [] → t₈ ≡ number n₈ ∷ [] → t₉ ≡ number n₉ ∷ [] → t ≡ number n ∷ [] → d₁ ≡ []
        → numbers (t₀ ++ (t₁ ++ (t₂ ++ (t₃ ++ (d₀ ++ (t₄ ++ (t₅ ++ (t₆ ++ (t₇ ++ (t₈ ++ (t₉ ++ (t ++ (d₁ ++ []))))))))))))) ++ z ≡ n₀ ∷ n₁ ∷ n₂ ∷ n₃ ∷ n₄ ∷ n₅ ∷ n₆ ∷ n₇ ∷ n₈ ∷ n₉ ∷ n ∷ z
    laid n₀ n₁ n₂ n₃ n₄ n₅ n₆ n₇ n₈ n₉ n t₀ t₁ t₂ t₃ d₀ t₄ t₅ t₆ t₇ t₈ t₉ t d₁ z a b c d f g h i j k l m o = unfold numbers in simp (a, b, c, d, f, g, h, i, j, k, l, m, o)

pub hrd_numbers : (h : Hrd) (y z : List ℕ) → ReadAt general_timing_hrd h y z → HrdRead h y
hrd_numbers h y z R = subst⁻¹ (HrdRead h) R.is (read_keeps keeps_hrd R z)

-- ── Inside an entry ───────────────────────────────────────────────────
-- sublayer j of an entry
pub read_sublayer : (d top n flag : ℕ) (h : Hrd) (y z : List ℕ) → ReadAt (per_sublayer d top n flag (timing_sublayer h)) tt y z
    → (j : ℕ) → j < sublayers flag (get_or y 0 0) → ReadAt (timing_sublayer h) tt (drop (1 + j * sublayer_length h) y) (drop (1 + suc j * sublayer_length h) y)
unfolding per_sublayer
read_sublayer d top n flag h y z R j l =
    let B₁ = read_both (long_passes (long_u_if (eqb d 0) 3 top)) R in
    let B₂ = read_both (long_passes (long_check _ _)) B₁.2 in
    let v : get_or y 0 0 ≡ B₁.0 = read_first (keeps_so (keeps_u_if (eqb d 0) 3 top) (λ a t h. h.0)) B₁.1 in
    let k : j < sublayers flag B₁.0 = subst (λ (m : ℕ). j < sublayers flag m) v l in
    let at : (i : ℕ) → again (drop (sublayer_length h)) i (drop 1 y) ≡ drop (1 + i * sublayer_length h) y = λ i. again_drop (sublayer_length h) i (drop 1 y) ∙ drop-drop (i * sublayer_length h) 1 y in
    subst₂ (λ (x w : List ℕ). ReadAt (timing_sublayer h) tt x w) (at j) (at (suc j))
    (read_again (drop (sublayer_length h)) (sublayers flag B₁.0) (drop 1 y) (long_passes (long_timing_sublayer h)) B₂.2 j k)

-- an entry's max tid
pub read_max_tid : (d top n flag : ℕ) (h : Hrd) (y z : List ℕ) → ReadAt (per_sublayer d top n flag (timing_sublayer h)) tt y z → get_or y 0 0 ≤ top
unfolding per_sublayer
read_max_tid d top n flag h y z R =
    let B₁ = read_both (long_passes (long_u_if (eqb d 0) 3 top)) R in
    let B₂ = read_both (long_passes (long_check _ _)) B₁.2 in
    let v : get_or y 0 0 ≡ B₁.0 = read_first (keeps_so (keeps_u_if (eqb d 0) 3 top) (λ a t h. h.0)) B₁.1 in
    subst⁻¹ (λ (m : ℕ). m ≤ top) v (leb-true B₁.0 top (read_keeps (keeps_check _ _) B₂.1).1)

-- schedule c of those under a flag
read_schedule : (h : Hrd) (flag : ℕ) (y z : List ℕ) → ReadAt (when flag (sublayer_hrd h)) tt y z → flag ≡ 1 → (c : ℕ) → c ≤ h.cpb_cnt_minus1
    → ReadAt (schedule h.du) tt (drop (c * schedule_length h) y) (drop (suc c * schedule_length h) y)
unfolding when sublayer_hrd
read_schedule h flag y z R f c l =
    subst₂ (λ (x w : List ℕ). ReadAt (schedule h.du) tt x w) (again_drop (schedule_length h) c y) (again_drop (schedule_length h) (suc c) y)
    (read_again (drop (schedule_length h)) (h.cpb_cnt_minus1 + 1) y (long_passes (long_schedule h)) (read_else (eqb flag 0) (ap (λ (n : ℕ). eqb n 0) f) R) c (omega arith))

pub sublayer_read : (h : Hrd) (y z : List ℕ) → ReadAt (timing_sublayer h) tt y z → SublayerRead h y
unfolding timing_sublayer
sublayer_read h y z R =
    let B₁ = read_both (long_passes (long_u 1)) R in
    let B₂ = read_both (long_passes (long_u_if (eqb B₁.0 0) 1 1)) B₁.2 in
    let B₃ = read_both (long_passes (long_ue_if (eqb B₂.0 1) 0)) B₂.2 in
    let B₄ = read_both (long_passes (long_check _ _)) B₃.2 in
    let B₅ = read_both (long_passes (long_u_if _ 1 0)) B₄.2 in
    let B₆ = read_both (long_passes (long_schedules h h.nal)) B₅.2 in
    let v₁ : get_or y 0 0 ≡ B₁.0 = read_first (keeps_so (keeps_u 1) (λ a t h. h.0)) B₁.1 in
    let v₂ : get_or y 1 0 ≡ B₂.0 = sym (get_drop 1 y) ∙ read_first (keeps_so (keeps_u_if (eqb B₁.0 0) 1 1) (λ a t h. h.0)) B₂.1 in
    let v₃ : get_or y 2 0 ≡ B₃.0 = sym (get_drop 2 y) ∙ ap (λ (x : List ℕ). get_or x 0 0) (sym (drop-drop 1 1 y)) ∙ read_first (keeps_so (keeps_ue_if (eqb B₂.0 1) 0) (λ a t h. h.0)) B₃.1 in
    let k₁ = read_keeps (keeps_u 1) B₁.1 in
    let k₂ = read_keeps (keeps_u_if (eqb B₁.0 0) 1 1) B₂.1 in
    let k₃ = read_keeps (keeps_ue_if (eqb B₂.0 1) 0) B₃.1 in
    let l₁ : B₁.0 < 2 = k₁.1 in
    let q : drop 1 (drop 1 (drop 1 (drop 1 y))) ≡ drop 4 y = ap (λ (x : List ℕ). drop 1 (drop 1 x)) (drop-drop 1 1 y) ∙ ap (drop 1) (drop-drop 1 2 y) ∙ drop-drop 1 3 y in
    let S : ℕ = schedules_length h h.nal in
    let at-nal : (i : ℕ) → drop i (drop 1 (drop 1 (drop 1 (drop 1 y)))) ≡ drop (4 + i) y = λ i. ap (drop i) q ∙ drop-drop i 4 y in
    let at-vcl : (i : ℕ) → drop i (drop S (drop 1 (drop 1 (drop 1 (drop 1 y))))) ≡ drop (4 + S + i) y = λ i. ap (drop i) (at-nal S) ∙ drop-drop i (4 + S) y in
    record {
      general = subst⁻¹ (λ (n : ℕ). n < 2) v₁ l₁;
      within = subst⁻¹ (λ (n : ℕ). n < 2) v₂ (bit B₁.0 B₂.0 k₂.1 k₂.2);
      inferred = λ f. v₂ ∙ k₂.2 (ap (λ (n : ℕ). eqb n 0) (sym v₁ ∙ f));
      elemental = subst⁻¹ (λ (n : ℕ). n ≤ 2047) v₃ (leb-true B₃.0 2047 (read_keeps (keeps_check _ _) B₄.1).1);
      missing = λ f. v₃ ∙ k₃.1 (ap (λ (n : ℕ). eqb n 1) (sym v₂ ∙ f));
      nal = λ f c l. subst₂ (λ (x w : List ℕ). ReadAt (schedule h.du) tt x w) (at-nal (c * schedule_length h)) (at-nal (suc c * schedule_length h)) (read_schedule h h.nal _ _ B₆.1 f c l);
      vcl = λ f c l. subst₂ (λ (x w : List ℕ). ReadAt (schedule h.du) tt x w) (at-vcl (c * schedule_length h)) (at-vcl (suc c * schedule_length h)) (read_schedule h h.vcl _ _ B₆.2 f c l);
    }
  where
    bit : (a b : ℕ) → (eqb a 0 ≡ true → b < 2 ^ 1) → (eqb a 0 ≡ false → b ≡ 1) → b < 2
    bit a b f g = go (eqb a 0) f g
      where
        go : (c : Bool) → (c ≡ true → b < 2 ^ 1) → (c ≡ false → b ≡ 1) → b < 2
        go true f g = f refl
        go false f g = let e = g refl in omega (arith, e)

viewed_of : (r : List ℕ) → TimingRead (get_or r 3 0) (get_or r 2 0) (multi_count r) (hrd_of r) (timing_sublayer_flag r) (timing_count r) (timing_numbers r) (from_section r 7) → TimingViewed r
unfolding timing_entry sublayer_count sublayer_at nal_schedule_at vcl_schedule_at
viewed_of r T =
    let S : (e : ℕ) → e < timing_count r → (j : ℕ) → j < sublayer_count r e → ReadAt (timing_sublayer (hrd_of r)) tt (sublayer_at r e j) (sublayer_at r e (suc j)) = λ e l j m. read_sublayer _ _ _ _ (hrd_of r) _ _ (T.entry e l) j m in
    record {
      hrd = hrd_numbers (hrd_of r) _ _ T.hrd_read;
      few = T.few;
      max_tid = λ e l. read_max_tid _ _ _ _ (hrd_of r) _ _ (T.entry e l);
      entry = T.entry;
      sublayer = S;
      numbered = λ e l j m. sublayer_read (hrd_of r) _ _ (S e l j m);
      nal = λ e l j m. (sublayer_read (hrd_of r) _ _ (S e l j m)).nal;
      vcl = λ e l j m. (sublayer_read (hrd_of r) _ _ (S e l j m)).vcl;
      indices = T.indices;
      ends = T.ends;
    }

hrd_here : (r : List ℕ) (h : Hrd) (z : List ℕ) → ReadAt general_timing_hrd h (timing_numbers r) z → hrd_of r ≡ h
unfolding hrd_of
hrd_here r h z R = read_look local_general_timing_hrd R no_hrd r

pub timing_viewed : (r : List ℕ) (on d top multi : ℕ) (x z : List ℕ) → from_section r 6 ≡ on ∷ (x ++ z) → from_section r 7 ≡ z → get_or r 3 0 ≡ d → get_or r 2 0 ≡ top → multi_count r ≡ multi
    → ReadAt (timing_section d top multi) tt (x ++ z) z → TimingViewed r
timing_viewed r on d top multi x z e₆ e₇ e₃ e₂ m R =
    let n : timing_numbers r ≡ x ++ z = numbers_here r on (x ++ z) e₆ in
    let R₁ : ReadAt (timing_section d top multi) tt (timing_numbers r) (from_section r 7) = placed n e₇ R in
    let R₂ : ReadAt (timing_section (get_or r 3 0) (get_or r 2 0) (multi_count r)) tt (timing_numbers r) (from_section r 7) = rw (e₃, e₂, m) R₁ in
    let T = timing_read (get_or r 3 0) (get_or r 2 0) (multi_count r) (timing_numbers r) (from_section r 7) R₂ in
    let h : hrd_of r ≡ T.0 = hrd_here r T.0 _ T.3.hrd_read in
    let c : timing_count r ≡ T.2 = count_here r on (x ++ z) e₆ ∙ T.3.count_is in
    viewed_of r (alike T.3 h T.3.flag_is c)
  where
    placed : {y w : List ℕ} → timing_numbers r ≡ y → from_section r 7 ≡ w → ReadAt (timing_section d top multi) tt y w → ReadAt (timing_section d top multi) tt (timing_numbers r) (from_section r 7)
    placed p q R = subst₂ (λ (y w : List ℕ). ReadAt (timing_section d top multi) tt y w) (sym p) (sym q) R

    alike : {a b c : ℕ} {h h' : Hrd} {f f' k k' : ℕ} {y w : List ℕ} → TimingRead a b c h f k y w → h' ≡ h → f' ≡ f → k' ≡ k → TimingRead a b c h' f' k' y w
    alike {a} {b} {c} {h} {h'} {f} {f'} {k} {y} {w} T p q o =
        subst⁻¹ (λ (i : ℕ). TimingRead a b c h' f' i y w) o (subst⁻¹ (λ (i : ℕ). TimingRead a b c h' i k y w) q (subst⁻¹ (λ (i : Hrd). TimingRead a b c i f k y w) p T))
