-- What reading the whole table gives, and the numbers that are stored then.
use Rattle.std.specs.Prelude.{ℕ, ◌+◌, ◌≡◌, List, Result, Ok, Err, length}
use Rattle.std.proofs.Common.{sym, ap, ◌∙◌, arith}
use Rattle.std.proofs.Math.Path.{refl}
use Rattle.std.proofs.lemmas.List.Edits.{sets}
use Rattle.refusals.specs.declared.refusal.Refusal.{Refusal}
use Rattle.refusals.specs.Refusals.{number_of}
use Rattle.vps_definition.specs.Syntax.{Token, numbers, starts, Outcome, run}
use Rattle.vps_definition.specs.Syntax.Outcome.{accepted, refused}
use Rattle.vps_definition.specs.Vps.{vps}
use Rattle.reading.specs.declared.Reading.{Reading}
use Rattle.reading.specs.Fits.{Fits}
use Rattle.reading.specs.Meets.{Went, Stopped, After, Marked}
use Rattle.read_bounds.proofs.Bounds.{vps_fits}
use Rattle.vps_table.specs.declared.whole.Whole.{Whole}
use Rattle.read_vps.specs.declared.Table as Code

-- the table was read
pub record Table (s : List ℕ) (x : Code.Table) : Type 0 where
  pub kept : List Token
  pub is : run vps s 0 ≡ accepted x.whole.general kept x.at
  pub count : x.n ≡ 9 + length (numbers kept)
  pub sections : starts 9 kept ≡ x.whole.starts

-- and its numbers stand in the lent list, as far as it reaches
pub record Stored (s lent : List ℕ) (x : Code.Table) (lent' : List ℕ) : Type 0 where
  pub table : Table s x
  pub stored : lent' ≡ sets lent 9 (numbers table.kept)

-- the table was refused, behind numbers that are stored likewise
pub record Refusing (s lent : List ℕ) (e : Refusal) (lent' : List ℕ) : Type 0 where
  pub kept : List Token
  pub is : run vps s 0 ≡ refused (number_of e) kept
  pub stored : lent' ≡ sets lent 9 (numbers kept)

abbrev pub TableMet : (s lent : List ℕ) → Result Code.Table Refusal → List ℕ → Type 0
TableMet s lent (Ok x) lent' = Stored s lent x lent'
TableMet s lent (Err e) lent' = Refusing s lent e lent'

-- ── From the walk along the table ─────────────────────────────────────
ok_same : {g h : List ℕ} → ◌≡◌ {A = Result (List ℕ) Refusal} (Ok g) (Ok h) → g ≡ h
ok_same e = cc

err_same : {c e : Refusal} → ◌≡◌ {A = Result (List ℕ) Refusal} (Err c) (Err e) → c ≡ e
err_same e = cc

ok_err : {X : Type 0} {g : List ℕ} {e : Refusal} → ◌≡◌ {A = Result (List ℕ) Refusal} (Ok g) (Err e) → X
ok_err h = absurd (let n : ◌≡◌ {A = ℕ} 0 1 = cc in omega arith)

-- a reading that begins at the first bit of s, behind the nine numbers of General
pub record Begins (s lent : List ℕ) (r : Reading) : Type 0 where
  pub bytes : r.bytes.now ≡ s
  pub rec : r.rec.now ≡ lent
  pub at' : r.at ≡ 0
  pub n' : r.n ≡ 9

module _ {s lent : List ℕ} {r : Reading} (B : Begins s lent r) where
  fits : Fits vps r.bytes.now r.at r.n
  fits = rw (B.bytes, B.at', B.n') (vps_fits s)

  ran : run vps r.bytes.now r.at ≡ run vps s 0
  ran = λ i. run vps (B.bytes i) (B.at' i)

  pub table_stored : {w : Whole} {r' : Reading} → Marked (List ℕ) vps r (Ok w.general) r' w.starts → Stored s lent (record { whole = w; at = r'.at; n = r'.n }) r'.rec.now
  table_stored {w} {r'} M = go (run vps r.bytes.now r.at) refl (M.meets.goes fits)
    where
      go : (x : Outcome (List ℕ)) → run vps r.bytes.now r.at ≡ x → After x r (Ok w.general) r' → Stored s lent (record { whole = w; at = r'.at; n = r'.n }) r'.rec.now
      go (accepted g t next) e W =
          record {
            table = record {
              kept = t;
              is = sym ran ∙ e ∙ (λ i. accepted (sym (ok_same W.result) i) t (sym W.place i));
              count = W.cursor ∙ ap (λ (k : ℕ). k + length (numbers t)) B.n';
              sections = ap (λ (k : ℕ). starts k t) (sym B.n') ∙ M.marks fits e;
            };
            stored = W.stored ∙ (λ i. sets (B.rec i) (B.n' i) (numbers t));
          }
      go (refused k t) e S = ok_err S.result

  pub table_refused : {e : Refusal} {l : List ℕ} {r' : Reading} → Marked (List ℕ) vps r (Err e) r' l → Refusing s lent e r'.rec.now
  table_refused {e} {l} {r'} M = go (run vps r.bytes.now r.at) refl (M.meets.goes fits)
    where
      go : (x : Outcome (List ℕ)) → run vps r.bytes.now r.at ≡ x → After x r (Err e) r' → Refusing s lent e r'.rec.now
      go (accepted g t next) i W = ok_err (sym W.result)
      go (refused k t) i S = record { kept = t; is = sym ran ∙ i ∙ ap (λ (k : ℕ). refused k t) (sym S.named ∙ ap number_of (sym (err_same S.result))); stored = S.stored ∙ (λ j. sets (B.rec j) (B.n' j) (numbers t)) }

-- what is read again stands as it did
pub table_again : {s : List ℕ} {x : Code.Table} {lent' : List ℕ} (lent : List ℕ) (T : Table s x) (r : Result Code.Table Refusal) → TableMet s lent r lent' → lent' ≡ sets lent 9 (numbers T.kept)
table_again {s} {x} lent T (Ok y) M = M.stored ∙ ap (λ (t : List Token). sets lent 9 (numbers t)) (same (sym M.table.is ∙ T.is))
  where
    same : {g h : List ℕ} {t u : List Token} {p q : ℕ} → accepted g t p ≡ accepted h u q → t ≡ u
    same e = cc
table_again lent T (Err e) M = other (sym M.is ∙ T.is)
  where
    other : {X : Type 0} {k : ℕ} {h : List ℕ} {t u : List Token} {q : ℕ} → ◌≡◌ {A = Outcome (List ℕ)} (refused k t) (accepted h u q) → X
    other e = absurd (let n : ◌≡◌ {A = ℕ} 0 1 = cc in omega arith)
