-- What write_vps_nal says, and what the lent output holds afterwards, for every record and every output.
use Rattle.std.specs.Prelude.{ℕ, suc, ◌+◌, ◌≤◌, ◌<◌, ◌≡◌, true, false, List, [], ◌∷◌, ◌++◌, length, get_or, set, take, drop, Result, Ok, Err}
use Rattle.std.specs.Result.{is_ok}
use Rattle.std.proofs.Common.{refl, ap, sym, ◌∙◌, subst, zero-add, arith, le-leb}
use Rattle.std.proofs.lemmas.Bool.{lt-leb}
use Rattle.std.proofs.Math.Dec.{leb}
use Rattle.std.proofs.Math.Seq.{sets, sets-eq, length-sets, take_at}
use Rattle.refusals.specs.Answer.{Answer}
use Rattle.refusals.specs.Answer.Answer.{success, refusal}
use Rattle.refusals.specs.Number.{not_well_formed}
use Rattle.refusals.specs.Lent.{lent, output_after}
use Rattle.refusals.specs.Refusals.{answer_of}
use Rattle.refusals.specs.declared.refusal.Refusal.{Refusal}
use Rattle.refusals.specs.declared.refusal.Refusal.TheVariants.{NotWellFormed, OutputTooShort}
use Rattle.stuffing.specs.Stuffing.{stuff}
use Rattle.vps_definition.specs.Rules.{today}
use Rattle.vps_definition.specs.Syntax.{Token, numbers, starts, Written, emit}
use Rattle.vps_definition.specs.Syntax.Written.{wrote, bad}
use Rattle.vps_definition.specs.Vps.{vps}
use Rattle.vps_definition.specs.Writing.{extension_of, unit_of, finished, write_record_under, write_record, well_formed}
use Rattle.vps_laws.specs.Writing.{emit_numbers}
use Rattle.vps_laws.specs.Claims.{written_well_formed, refused_ill_formed}
use Rattle.writing.specs.declared.Writing.{Writing}
use Rattle.writing.specs.Emits.{Ready, Fails}
use Rattle.writing.specs.Marked.{Marked}
use Rattle.write_end.specs.Parts.{Taken, trailer_of}
use Rattle.write_end.specs.Ends.{Stored, Finishes, finished_long, rbsp_long}

abbrev pub written_answer : Result ℕ Refusal → Answer ℕ
written_answer x = answer_of x

-- what a record's bytes make of a lent output: they stand at its beginning where there is room, or nothing is changed
unfoldable pub write_of : (output : List ℕ) → Answer (List ℕ) → Answer ℕ
write_of out (success b) = lent b out
write_of out (refusal n) = refusal n

unfoldable pub output_of : (output : List ℕ) → Answer (List ℕ) → List ℕ
output_of out (success b) = output_after b out
output_of out (refusal n) = out

pub record Writes (r out : List ℕ) (x : Result ℕ Refusal) (out' : List ℕ) : Type 0 where
  pub answered : written_answer x ≡ write_of out (write_record r)
  pub left : out' ≡ output_of out (write_record r)

-- ── The table's writing, and what is made of it ───────────────────────
pub table_fails : (r : List ℕ) → Fails 0 (emit vps r (drop 9 r) 0) → write_record r ≡ refusal not_well_formed
unfolding write_record_under finished
table_fails r h = go (emit vps r (drop 9 r) 0) h
  where
    go : (w : Written (List ℕ)) → Fails 0 w → finished r w ≡ refusal not_well_formed
    go (wrote g t x b) l = finished_long r g t x b (rbsp_long b (extension_of x) (omega (arith, l)))
    go bad l = refl

pub table_wrote : {g : List ℕ} {t : List Token} {x b : List ℕ} (r : List ℕ) → emit vps r (drop 9 r) 0 ≡ wrote g t x b → write_record r ≡ finished r (wrote g t x b)
unfolding write_record_under
table_wrote r e = ap (finished r) e

-- a writing of r before the first bit, with the record's tenth number next
pub record Begun (r out : List ℕ) (s : Writing) : Type 0 where
  pub rec : s.rec.now ≡ r
  pub tenth : s.c ≡ 9
  pub ready : Ready 2 [] s out

module _ {r out : List ℕ} {s : Writing} (b : Begun r out s) where
  begins : emit vps r (drop 9 r) 0 ≡ emit vps s.rec.now (drop s.c s.rec.now) 0
  begins = λ i. emit vps (sym b.rec i) (drop (sym b.tenth i) (sym b.rec i)) 0

  pub table_bad : {e : Refusal} {s₁ : Writing} {l : List ℕ} → Marked {A = List ℕ} vps s (Err e) s₁ l → (e ≡ NotWellFormed) × (write_record r ≡ refusal not_well_formed)
  table_bad M = (M.emits.says.0, table_fails r (subst (Fails 0) (sym begins) (M.emits.says.1 2 [] out b.ready)))

  -- the record that the table has taken ends as the code found
  pub table_ends : {s₁ : Writing} {g l general trailer : List ℕ} (x : Result ℕ Refusal) (out₂ : List ℕ) → Marked vps s (Ok g) s₁ l → length g ≡ 9 → length l ≡ 7
      → general ≡ g → trailer ≡ l ++ (length r ∷ [])
      → ((start : ℕ) (d lent : List ℕ) (t : List Token) → Ready start d s₁ lent → Taken s₁.rec.now general t s₁.c → trailer ≡ trailer_of s₁.rec.now t
      → Finishes (finished s₁.rec.now (wrote general t (drop s₁.c s₁.rec.now) d)) start lent x out₂)
      → Finishes (write_record r) 2 out x out₂
  table_ends {s₁} {g} {l} {general} {trailer} x out₂ M nine seven same last N =
      let W = M.emits.says 2 [] out b.ready in
      let q : s₁.rec.now ≡ r = (λ i. (M.emits.stays.rec i).now) ∙ b.rec in
      let i : emit vps r (drop 9 r) 0 ≡ wrote g W.tokens (drop s₁.c r) W.bits = begins ∙ W.is ∙ ap (λ (z : List ℕ). wrote g W.tokens (drop s₁.c z) W.bits) b.rec in
      let k : starts 9 W.tokens ≡ l = ap (λ (k : ℕ). starts k W.tokens) (sym b.tenth) ∙ M.marks 2 [] out _ _ _ _ b.ready W.is in
      let T : Taken r g W.tokens s₁.c = record {
        nine = nine;
        place = W.moved ∙ ap (λ (k : ℕ). k + length (numbers W.tokens)) b.tenth;
        numbered = emit_numbers vps r (drop 9 r) 0 i;
        seven = ap length k ∙ seven;
      } in
      let F = N 2 W.bits out W.tokens W.ready (subst (λ (z : List ℕ). Taken z general W.tokens s₁.c) (sym q) (subst (λ (z : List ℕ). Taken r z W.tokens s₁.c) (sym same) T)) (last ∙ (λ j. sym k j ++ (length (sym q j) ∷ []))) in
      subst (λ (y : Answer (List ℕ)). Finishes y 2 out x out₂) ((λ j. finished (q j) (wrote (same j) W.tokens (drop s₁.c (q j)) W.bits)) ∙ sym (table_wrote r i)) F

-- lists with the same elements
pub same_numbers : (xs ys : List ℕ) → length xs ≡ length ys → ((i : ℕ) → i < length ys → get_or xs i 0 ≡ get_or ys i 0) → xs ≡ ys
same_numbers [] [] e h = refl
same_numbers [] (y ∷ ys) e h = absurd (omega (arith, e))
same_numbers (x ∷ xs) [] e h = absurd (omega (arith, e))
same_numbers (x ∷ xs) (y ∷ ys) e h = λ j. h 0 (omega arith) j ∷ same_numbers xs ys (omega (arith, e)) (λ i l. h (suc i) (omega (arith, l))) j

-- what the first pass finds, in some output
pub record Measured (r : List ℕ) (x : Result ℕ Refusal) : Type 0 where
  pub before : List ℕ
  pub after : List ℕ
  pub finishes : Finishes (write_record r) 2 before x after

-- so it finds whether the record is well formed
pub measured_well_formed : (r : List ℕ) (x : Result ℕ Refusal) → Measured r x → is_ok x ≡ well_formed r
measured_well_formed r (Ok n) M = sym (written_well_formed today r _ M.finishes.is)
measured_well_formed r (Err e) M = sym (refused_ill_formed today r M.finishes.1)

-- ── By what the first pass found ──────────────────────────────────────
module _ (r out : List ℕ) where
  writes_as : {y : Answer (List ℕ)} {x : Result ℕ Refusal} {out' : List ℕ} → write_record r ≡ y → written_answer x ≡ write_of out y → out' ≡ output_of out y → Writes r out x out'
  writes_as e a l = record { answered = a ∙ ap (write_of out) (sym e); left = l ∙ ap (output_of out) (sym e) }

  pub writes_refused : {e : Refusal} → (e ≡ NotWellFormed) × (write_record r ≡ refusal not_well_formed) → Writes r out (Err e) out
  unfolding write_of output_of
  writes_refused h = writes_as h.1 (ap (λ (e : Refusal). written_answer (Err e)) h.0) refl

  -- the first pass made a unit in another buffer
  module _ (small : List ℕ) {n : ℕ} {out₁ : List ℕ} (S : Stored (write_record r) 2 (set (set small 0 0) 1 113) n out₁) where
    long : n ≡ length (unit_of S.rbsp)
    unfolding unit_of
    long = S.long ∙ omega arith

    pub writes_narrow : length out < n → Writes r out (Err OutputTooShort) out
    unfolding write_of output_of lent output_after
    writes_narrow l =
        let b : leb (length (unit_of S.rbsp)) (length out) ≡ false = lt-leb (length (unit_of S.rbsp)) (length out) (omega (arith, l, long)) in
        writes_as S.is (rw b refl) (rw b refl)

    fits : n ≤ length out → length (unit_of S.rbsp) ≤ length out
    fits l = omega (arith, l, long)

    -- the unit's bytes at the output's beginning
    whole : n ≤ length out → sets out 0 (unit_of S.rbsp) ≡ unit_of S.rbsp ++ drop (length (unit_of S.rbsp)) out
    whole l =
        let u : List ℕ = unit_of S.rbsp in
        sets-eq u out 0 (omega (arith, fits l)) ∙ ap (λ (i : ℕ). u ++ drop i out) (zero-add (length u))

    -- they are what is asked for
    unit_stored : {out₂ : List ℕ} → n ≤ length out → out₂ ≡ sets out 0 (unit_of S.rbsp) → Writes r out (Ok n) out₂
    unfolding write_of output_of lent output_after
    unit_stored l e =
        let u : List ℕ = unit_of S.rbsp in
        let b : leb (length u) (length out) ≡ true = le-leb (length u) (length out) (fits l) in
        writes_as S.is (rw b (ap success long)) (rw b (e ∙ whole l))

    -- the second pass puts them there
    pub writes_again : {out₂ : List ℕ} {x : Result ℕ Refusal} → n ≤ length out → Finishes (write_record r) 2 (set (set out 0 0) 1 113) x out₂ → Writes r out x out₂
    unfolding unit_of
    writes_again {out₂ = out₂} {x = Ok k} l U =
        let same : stuff U.rbsp ≡ stuff S.rbsp = cc (sym U.is ∙ S.is) in
        let e : n ≡ k = S.long ∙ ap (λ (b : List ℕ). 2 + length b) (sym same) ∙ sym U.long in
        subst (λ (i : ℕ). Writes r out (Ok i) out₂) e (unit_stored l (U.stored ∙ ap (sets (set (set out 0 0) 1 113) 2) same))
    writes_again {x = Err e} l F = let q : success (unit_of S.rbsp) ≡ refusal not_well_formed = sym S.is ∙ F.1 in absurd (let n : ◌≡◌ {A = ℕ} 0 1 = cc q in omega arith)

    -- or they are copied from where the first pass put them
    pub writes_copied : {out₂ : List ℕ} → n ≤ length out₁ → n ≤ length out → out₂ ≡ take n out₁ ++ drop n out → Writes r out (Ok n) out₂
    unfolding unit_of
    writes_copied k l f =
        let u : List ℕ = unit_of S.rbsp in
        let w : out₁ ≡ sets small 0 u = S.stored in
        let h : length u ≤ length small = omega (arith, k, long, ap length w, length-sets small 0 u) in
        let t : take n out₁ ≡ u = ap (take n) (w ∙ sets-eq u small 0 (omega (arith, h))) ∙ take_at u (drop (0 + length u) small) n (sym long) in
        unit_stored l (f ∙ (λ i. t i ++ drop (long i) out) ∙ sym (whole l))
