-- The sections of an accepted record, each found where the trailer says, and what they hold.
use Prim.Native.Nat.{ℕ, zero, suc, ◌+◌, ◌-◌, ◌<◌}
use Rattle.std.specs.Prelude.{◌≡◌, refl, cond, eqb, take, drop}
use Rattle.std.proofs.Math.Path.{sym, ap}
use Rattle.std.proofs.Common.{◌∙◌, add-one, arith, take_at}
use mathlib.Core.List.{List, [], ◌∷◌, ◌++◌, append_assoc}
use Rattle.std.proofs.Math.ListN.{length, get_or, get_or-append}
use Rattle.vps_definition.specs.Syntax.{Token, numbers}
use Rattle.vps_definition.specs.Syntax.Token.{section}
use Rattle.vps_definition.specs.TimingHrd.{timing_section}
use Rattle.vps_definition.specs.Vps.{Header}
use Rattle.vps_definition.specs.Record.{record_of}
use Rattle.vps_definition.specs.Layout.{from_section, ids_from, layer_ids, ptl_count, set_count, ptl_indices, dpb_count, multi_count, fifths, dpb_indices, timing_flag, timing_count, timing_indices}
use Rattle.vps_laws.specs.Keeps.{numbers_append}
use Rattle.vps_laws.specs.Accepted.{closing, record_parts}
use Rattle.vps_laws.specs.Marks.{marks, marks_append, from_section_lem}
use Rattle.vps_laws.specs.Places.{ReadAt}
use Rattle.vps_laws.specs.Indices.{RisingFrom, Inside, Buffers, Timing}

-- ── The sections with a mark of their own ─────────────────────────────
-- one mark, at the front
pub record Marked (t : List Token) : Type 0 where
  pub inner : List Token
  pub is : t ≡ section ∷ inner
  pub plain : marks inner ≡ 0

-- the DPB and timing sections, a mark at the front of each
pub record Buffered (h : Header) (multi flag : ℕ) (t : List Token) : Type 0 where
  pub dpb : List Token
  pub timing : List Token
  pub is : t ≡ section ∷ (dpb ++ (section ∷ timing))
  pub plain_dpb : marks dpb ≡ 0
  pub plain_timing : marks timing ≡ 0
  pub buffers : Buffers flag multi (numbers dpb)
  pub on : ℕ
  pub rest : List ℕ
  pub timed : numbers timing ≡ on ∷ rest
  pub inside : on ≡ 1 → Timing multi rest
  pub read : on ≡ 1 → (z : List ℕ) → ReadAt (timing_section h.default_max_tid_flag h.max_sublayers_minus1 multi) tt (rest ++ z) z

pub record Dpb (multi flag : ℕ) (t : List Token) : Type 0 where
  pub inner : List Token
  pub is : t ≡ section ∷ inner
  pub buffers : Buffers flag multi (numbers inner)
  pub plain : marks inner ≡ 0

-- what the timing section keeps where its flag is 1
pub record Timed (d top multi on : ℕ) (t : List Token) : Type 0 where
  pub plain : marks t ≡ 0
  pub inside : on ≡ 1 → Timing multi (numbers t)
  pub read : on ≡ 1 → (z : List ℕ) → ReadAt (timing_section d top multi) tt (numbers t ++ z) z

-- the entries of the DPB section: one for each multi-layer set, or none where each layer is a set
abbrev pub dpb_entries_of : (each multi : ℕ) → ℕ
dpb_entries_of each multi = cond (eqb each 0) multi 0

-- ── All seven marks ───────────────────────────────────────────────────
-- tokens in seven parts, a mark at the front of each and none within
pub record Seven (t l r p o d m : List Token) : Type 0 where
  pub tokens : t ≡ section ∷ (l ++ (section ∷ (r ++ (section ∷ (p ++ (section ∷ (o ++ (section ∷ (d ++ (section ∷ (m ++ (section ∷ []))))))))))))
  pub plain_l : marks l ≡ 0
  pub plain_r : marks r ≡ 0
  pub plain_p : marks p ≡ 0
  pub plain_o : marks o ≡ 0
  pub plain_d : marks d ≡ 0
  pub plain_m : marks m ≡ 0

-- behind k marks, a mark and then b
pub record Mark (t : List Token) (k : ℕ) (a b : List Token) : Type 0 where
  pub here : t ≡ a ++ (section ∷ b)
  pub count : marks a ≡ k

-- the next mark, behind a part without one
next_mark : (t a x b : List Token) (k : ℕ) → Mark t k a (x ++ (section ∷ b)) → marks x ≡ 0 → Mark t (k + 1) (a ++ (section ∷ x)) b
unfolding marks
next_mark t a x b k M e = record { here = M.here ∙ sym (append_assoc a (section ∷ x) (section ∷ b)); count = marks_append a (section ∷ x) ∙ omega (arith, M.count) }

-- one mark more than stand before the last
last_mark : (t a : List Token) (k : ℕ) → Mark t k a [] → marks t ≡ k + 1
unfolding marks
last_mark t a k M = ap marks M.here ∙ marks_append a (section ∷ []) ∙ omega (arith, M.count)

-- the seven marks of a table's tokens
pub record Marks₇ (t l r p o d m : List Token) : Type 0 where
  pub first : Mark t 0 [] (l ++ (section ∷ (r ++ (section ∷ (p ++ (section ∷ (o ++ (section ∷ (d ++ (section ∷ (m ++ (section ∷ []))))))))))))
  pub before_r : List Token
  pub second : Mark t 1 before_r (r ++ (section ∷ (p ++ (section ∷ (o ++ (section ∷ (d ++ (section ∷ (m ++ (section ∷ []))))))))))
  pub before_p : List Token
  pub third : Mark t 2 before_p (p ++ (section ∷ (o ++ (section ∷ (d ++ (section ∷ (m ++ (section ∷ []))))))))
  pub before_o : List Token
  pub fourth : Mark t 3 before_o (o ++ (section ∷ (d ++ (section ∷ (m ++ (section ∷ []))))))
  pub before_d : List Token
  pub fifth : Mark t 4 before_d (d ++ (section ∷ (m ++ (section ∷ []))))
  pub before_m : List Token
  pub sixth : Mark t 5 before_m (m ++ (section ∷ []))
  pub seventh : Mark t 6 (before_m ++ (section ∷ m)) []
  pub seven : marks t ≡ 7

pub seven_marks : {t l r p o d m : List Token} → Seven t l r p o d m → Marks₇ t l r p o d m
unfolding marks
seven_marks {t} {l} {r} {p} {o} {d} {m} S =
    let M₁ : Mark t 0 [] (l ++ (section ∷ (r ++ (section ∷ (p ++ (section ∷ (o ++ (section ∷ (d ++ (section ∷ (m ++ (section ∷ [])))))))))))) = record { here = S.tokens; count = refl } in
    let M₂ = next_mark t _ l _ 0 M₁ S.plain_l in
    let M₃ = next_mark t _ r _ 1 M₂ S.plain_r in
    let M₄ = next_mark t _ p _ 2 M₃ S.plain_p in
    let M₅ = next_mark t _ o _ 3 M₄ S.plain_o in
    let M₆ = next_mark t _ d _ 4 M₅ S.plain_d in
    let M₇ = next_mark t _ m [] 5 M₆ S.plain_m in
    record {
      first = M₁;
      before_r = _;
      second = M₂;
      before_p = _;
      third = M₃;
      before_o = _;
      fourth = M₄;
      before_d = _;
      fifth = M₅;
      before_m = _;
      sixth = M₆;
      seventh = M₇;
      seven = last_mark t _ 6 M₇;
    }

-- ── The record ────────────────────────────────────────────────────────
module _ (g : List ℕ) (t : List Token) (e : List ℕ) (nine : length g ≡ 9) (seven : marks t ≡ 7) where
  pub from_mark : (k : ℕ) (a b : List Token) → Mark t k a b → from_section (record_of g t e) (k + 1) ≡ numbers b ++ closing g t e
  from_mark k a b M = ap (from_section (record_of g t e)) (ap (λ (n : ℕ). n + 1) (sym M.count) ∙ add-one (marks a)) ∙ from_section_lem g t e nine seven a b M.here

  -- a section's numbers, and what stands behind them
  pub from_part : (k : ℕ) (a x b : List Token) → Mark t k a (x ++ b) → (z : List ℕ) × (from_section (record_of g t e) (k + 1) ≡ numbers x ++ z)
  from_part k a x b M = (numbers b ++ closing g t e, from_mark k a (x ++ b) M ∙ ap (λ (l : List ℕ). l ++ closing g t e) (numbers_append x b) ∙ append_assoc (numbers x) (numbers b) (closing g t e))

-- what is promised of an accepted record's own numbers
pub record Sound (r : List ℕ) : Type 0 where
  pub ids : RisingFrom 0 (layer_ids r)
  pub ptls : Inside (ptl_count r) (set_count r) (ptl_indices r)
  pub dpbs : Inside (dpb_count r) (multi_count r) (dpb_indices r)
  pub timings : timing_flag r ≡ 1 → Inside (timing_count r) (multi_count r) (timing_indices r)

-- of a layers section of n layers
pub ids_sound : (r x z : List ℕ) (n : ℕ) → from_section r 1 ≡ x ++ z → get_or r 0 0 ≡ n → ((z : List ℕ) → RisingFrom 0 (ids_from n 0 (x ++ z))) → RisingFrom 0 (layer_ids r)
unfolding layer_ids
ids_sound r x z n e f R = rw (f, e) (R z)

-- of an OLS section
pub ptls_sound : (r x z y w : List ℕ) (ptls total : ℕ) → from_section r 3 ≡ (ptls ∷ y) ++ w → from_section r 4 ≡ (total ∷ x) ++ z → Inside ptls total x → Inside (ptl_count r) (set_count r) (ptl_indices r)
unfolding ptl_count set_count ptl_indices
ptls_sound r x z y w ptls total e f I =
    let q : take total (x ++ z) ≡ x = take_at x z total I.many in
    rw (e, f, q) I

-- of a DPB section, under the record's sublayer-DPB flag
pub record DpbSound (r : List ℕ) (multi slots : ℕ) : Type 0 where
  pub count : dpb_count r ≡ slots
  pub many : multi_count r ≡ multi
  pub dpbs : Inside (dpb_count r) (multi_count r) (dpb_indices r)

pub fifths_many : (n : ℕ) (x : List ℕ) → length (fifths n x) ≡ n
unfolding fifths
fifths_many zero x = refl
fifths_many (suc n) x = ap suc (fifths_many n (drop 5 x))

-- ── An accepted record ────────────────────────────────────────────────
pub record_number : (g : List ℕ) (t : List Token) (e : List ℕ) (i : ℕ) → length g ≡ 9 → i < 9 → get_or (record_of g t e) i 0 ≡ get_or g i 0
record_number g t e i n h = ap (λ (l : List ℕ). get_or l i 0) (record_parts g t e) ∙ get_or-append g _ 0 i (omega arith)

pub seven_of : (t l a p o b r d m : List Token) → t ≡ section ∷ (l ++ (a ++ (section ∷ (p ++ (section ∷ (o ++ (b ++ (section ∷ [])))))))) → a ≡ section ∷ r → b ≡ section ∷ (d ++ (section ∷ m))
    → t ≡ section ∷ (l ++ (section ∷ (r ++ (section ∷ (p ++ (section ∷ (o ++ (section ∷ (d ++ (section ∷ (m ++ (section ∷ []))))))))))))
seven_of t l a p o b r d m e f g = simp (e, f, g, append_assoc)
