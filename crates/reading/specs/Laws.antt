-- How readings by code go on: the laws of steps, for readings.
use Rattle.std.specs.Prelude.{ℕ, ◌+◌, ◌≡◌, List, [], ◌∷◌, ◌++◌, true, false, Result, Ok, Err, length}
use Rattle.std.proofs.Math.Path.{refl, subst}
use Rattle.std.proofs.Common.{sym, ap, ◌∙◌, add-zero, arith, length-append}
use Rattle.std.proofs.lemmas.List.Edits.{sets}
use Rattle.lists.specs.Stored.{sets_append}
use Rattle.refusals.specs.declared.refusal.Refusal.{Refusal}
use Rattle.vps_definition.specs.Syntax.{Syntax, ◌>>=◌, Token, numbers, starts, keeping, Outcome, run}
use Rattle.vps_definition.specs.Syntax.Syntax.{mark, test, done}
use Rattle.vps_definition.specs.Syntax.Token.{section}
use Rattle.vps_definition.specs.Syntax.Outcome.{accepted, refused}
use Rattle.vps_laws.specs.Inversion.{keeping_accepted}
use Rattle.vps_laws.specs.Bind.{after, then_read}
use Rattle.vps_laws.proofs.Bind.{run_bind, run_bound}
use Rattle.vps_laws.specs.Keeps.{numbers_append}
use Rattle.vps_laws.specs.Marks.{starts_append, starts_none}
use Rattle.vps_laws.specs.Plain.{Plain}
use Rattle.table_steps.specs.Laws.{StepsLaws}
use Rattle.reading.specs.declared.Reading.{Reading}
use Rattle.reading.specs.Fits.{Fits, fits_first, fits_second}
use Rattle.reading.specs.Meets.{Kept, Went, Stopped, After, Meets, Marked}

pub kept_then : {s s₁ s₂ : Reading} → Kept s s₁ → Kept s₁ s₂ → Kept s s₂
kept_then K L = record { bytes = L.bytes ∙ K.bytes; name = L.name ∙ K.name; long = L.long ∙ K.long }

kept_here : {s : Reading} → Kept s s
kept_here = record { bytes = refl; name = refl; long = refl }

-- an answer is no refusal
ok_err : {A X : Type 0} {a : A} {e : Refusal} → ◌≡◌ {A = Result A Refusal} (Ok a) (Err e) → X
ok_err h = absurd (let n : ◌≡◌ {A = ℕ} 0 1 = cc in omega arith)

ok_same : {A : Type 0} {a b : A} → ◌≡◌ {A = Result A Refusal} (Ok a) (Ok b) → a ≡ b
ok_same h = cc

-- ── Tables in a row ───────────────────────────────────────────────────
module _ {A B : Type 0} {s s₁ s₂ : Reading} {r : Result B Refusal} where
  second : (f : A → Syntax B) {d : A} (t : List Token) (next : ℕ) {a : A} → Went d t next s (Ok a) s₁ → Kept s s₁ → Meets B (f d) s₁ r s₂ → Fits (f d) s.bytes.now next (s.n + length (numbers t))
      → After (after t (run (f d) s.bytes.now next)) s r s₂
  unfolding after
  second f {d} t next W K N F = go (run (f d) s.bytes.now next) refl
    where
      J : After (run (f d) s₁.bytes.now s₁.at) s₁ r s₂
      J = N.goes (subst (λ (b : List ℕ). Fits (f d) b s₁.at s₁.n) (sym (ap (λ x. x.now) K.bytes))
          (subst (λ (k : ℕ). Fits (f d) s.bytes.now k s₁.n) (sym W.place) (subst (Fits (f d) s.bytes.now next) (sym W.cursor) F)))

      N' : After (run (f d) s.bytes.now next) s₁ r s₂
      N' = subst (λ (k : ℕ). After (run (f d) s.bytes.now k) s₁ r s₂) W.place (subst (λ (b : List ℕ). After (run (f d) b s₁.at) s₁ r s₂) (ap (λ x. x.now) K.bytes) J)

      stored : (u : List Token) → s₂.rec.now ≡ sets s₁.rec.now s₁.n (numbers u) → s₂.rec.now ≡ sets s.rec.now s.n (numbers (t ++ u))
      stored u e = e ∙ ap (λ (l : List ℕ). sets l s₁.n (numbers u)) W.stored ∙ ap (λ (k : ℕ). sets (sets s.rec.now s.n (numbers t)) k (numbers u)) W.cursor
          ∙ sym (sets_append s.rec.now s.n (numbers t) (numbers u)) ∙ ap (sets s.rec.now s.n) (sym (numbers_append t u))

      further : (u : List Token) → s₂.n ≡ s₁.n + length (numbers u) → s₂.n ≡ s.n + length (numbers (t ++ u))
      further u e = e ∙ omega (arith, W.cursor, ap length (numbers_append t u), length-append (numbers t) (numbers u))

      go : (x : Outcome B) → run (f d) s.bytes.now next ≡ x → After (after t x) s r s₂
      go (accepted c u q) e =
          let G : Went c u q s₁ r s₂ = subst (λ (x : Outcome B). After x s₁ r s₂) e N' in
          record { result = G.result; place = G.place; cursor = further u G.cursor; stored = stored u G.stored }
      go (refused k u) e =
          let G : Stopped k u s₁ r s₂ = subst (λ (x : Outcome B). After x s₁ r s₂) e N' in
          record { refusal = G.refusal; result = G.result; named = G.named; cursor = further u G.cursor; stored = stored u G.stored }

  pub meets_then : {a : A} (m : Syntax A) (f : A → Syntax B) → Meets A m s (Ok a) s₁ → Meets B (f a) s₁ r s₂ → Meets B (m >>= f) s r s₂
  unfolding then_read
  meets_then {a} m f M N = record {
    kept = kept_then M.kept N.kept;
    goes = λ F. subst (λ (x : Outcome B). After x s r s₂) (sym (run_bind m f s.bytes.now s.at)) (go (run m s.bytes.now s.at) refl (M.goes (fits_first m f s.bytes.now s.at s.n F)) F);
  }
    where
      go : (x : Outcome A) → run m s.bytes.now s.at ≡ x → After x s (Ok a) s₁ → Fits (m >>= f) s.bytes.now s.at s.n → After (then_read x (λ a next. run (f a) s.bytes.now next)) s r s₂
      go (accepted d t next) e W F =
          second f t next W M.kept (subst (λ (z : A). Meets B (f z) s₁ r s₂) (ok_same W.result) N) (fits_second m f s.bytes.now s.at s.n e F)
      go (refused k t) e S F = ok_err S.result

-- a refusal is the whole's
pub meets_stop : {A B : Type 0} {s s₁ : Reading} {e : Refusal} (m : Syntax A) (f : A → Syntax B) → Meets A m s (Err e) s₁ → Meets B (m >>= f) s (Err e) s₁
unfolding then_read
meets_stop {A} {B} {s} {s₁} {e} m f M = record {
  kept = M.kept;
  goes = λ F. subst (λ (x : Outcome B). After x s (Err e) s₁) (sym (run_bind m f s.bytes.now s.at)) (go (run m s.bytes.now s.at) (M.goes (fits_first m f s.bytes.now s.at s.n F)));
}
  where
    go : (x : Outcome A) → After x s (Err e) s₁ → After (then_read x (λ a next. run (f a) s.bytes.now next)) s (Err e) s₁
    go (accepted d t next) W = ok_err (sym W.result)
    go (refused k t) S = record { refusal = e; result = refl; named = ap number_of' (err_same S.result) ∙ S.named; cursor = S.cursor; stored = S.stored }
      where
        number_of' : Refusal → ℕ
        number_of' = Rattle.refusals.specs.Refusals.number_of

        err_same : {c : Refusal} → ◌≡◌ {A = Result A Refusal} (Err e) (Err c) → e ≡ c
        err_same h = cc

-- ── The end of a table, a condition, a section's start ────────────────
meets_done : {A : Type 0} {a : A} {s : Reading} → Meets A (done a) s (Ok a) s
unfolding run numbers
meets_done {s = s} = record { kept = kept_here; goes = λ F. record { result = refl; place = refl; cursor = sym (add-zero s.n); stored = refl } }

meets_first : {A : Type 0} {m n : Syntax A} {s s₁ : Reading} {r : Result A Refusal} → Meets A m s r s₁ → Meets A (test true m n) s r s₁
unfolding run Fits
meets_first M = record { kept = M.kept; goes = λ F. M.goes F }

meets_second : {A : Type 0} {m n : Syntax A} {s s₁ : Reading} {r : Result A Refusal} → Meets A n s r s₁ → Meets A (test false m n) s r s₁
unfolding run Fits
meets_second M = record { kept = M.kept; goes = λ F. M.goes F }

meets_mark : {A : Type 0} {m : Syntax A} {s s₁ : Reading} {r : Result A Refusal} → Meets A m s r s₁ → Meets A (mark m) s r s₁
unfolding run Fits keeping numbers
meets_mark {A} {m} {s} {s₁} {r} M = record { kept = M.kept; goes = λ F. go (run m s.bytes.now s.at) (M.goes F) }
  where
    go : (x : Outcome A) → After x s r s₁ → After (keeping section x) s r s₁
    go (accepted b t next) W = record { result = W.result; place = W.place; cursor = W.cursor; stored = W.stored }
    go (refused k t) S = record { refusal = S.refusal; result = S.result; named = S.named; cursor = S.cursor; stored = S.stored }

-- ── Where sections start ──────────────────────────────────────────────
marked_plain : {A : Type 0} {m : Syntax A} {s s₁ : Reading} {r : Result A Refusal} → Plain m → Meets A m s r s₁ → Marked A m s r s₁ []
marked_plain {s = s} P M = record { meets = M; marks = λ {b} {t} F e. starts_none s.n t (P.plain.holds s.bytes.now s.at e) }

marked_mark : {A : Type 0} {m : Syntax A} {s s₁ : Reading} {r : Result A Refusal} {l : List ℕ} → Marked A m s r s₁ l → Marked A (mark m) s r s₁ (s.n ∷ l)
unfolding run Fits starts
marked_mark {A} {m} {s} M = record {
  meets = meets_mark M.meets;
  marks = λ {b} {t} F e.
      let K = keeping_accepted section (run m s.bytes.now s.at) e in
      ap (starts s.n) K.all ∙ ap (λ (x : List ℕ). s.n ∷ x) (M.marks F K.inner);
}

marked_then : {A B : Type 0} {s s₁ s₂ : Reading} {a : A} {r : Result B Refusal} {l k : List ℕ} (m : Syntax A) (f : A → Syntax B) → Marked A m s (Ok a) s₁ l → Marked B (f a) s₁ r s₂ k
    → Marked B (m >>= f) s r s₂ (l ++ k)
marked_then {A} {B} {s} {s₁} {s₂} {a} {r} {l} {k} m f M N = record { meets = meets_then m f M.meets N.meets; marks = both }
  where
    both : {d : B} {t : List Token} {next : ℕ} → Fits (m >>= f) s.bytes.now s.at s.n → run (m >>= f) s.bytes.now s.at ≡ accepted d t next → starts s.n t ≡ l ++ k
    both {d} {t} {next} F e =
        let C = run_bound m f s.bytes.now s.at e in
        let F₁ = fits_first m f s.bytes.now s.at s.n F in
        let W : Went C.result C.before C.middle s (Ok a) s₁ = subst (λ (x : Outcome A). After x s (Ok a) s₁) C.first (M.meets.goes F₁) in
        let z : a ≡ C.result = ok_same W.result in
        let b : s₁.bytes.now ≡ s.bytes.now = ap (λ x. x.now) M.meets.kept.bytes in
        let F₂ : Fits (f a) s₁.bytes.now s₁.at s₁.n =
        subst (λ (z : A). Fits (f z) s₁.bytes.now s₁.at s₁.n) (sym z)
        (subst (λ (x : List ℕ). Fits (f C.result) x s₁.at s₁.n) (sym b)
        (subst (λ (k : ℕ). Fits (f C.result) s.bytes.now k s₁.n) (sym W.place)
        (subst (Fits (f C.result) s.bytes.now C.middle) (sym W.cursor) (fits_second m f s.bytes.now s.at s.n C.first F)))) in
        let e₂ : run (f a) s₁.bytes.now s₁.at ≡ accepted d C.behind next = (λ i. run (f (z i)) (b i) (W.place i)) ∙ C.second in
        ap (starts s.n) C.both ∙ starts_append s.n C.before C.behind
        ∙ (λ i. M.marks F₁ C.first i ++ starts (sym W.cursor i) C.behind)
        ∙ ap (λ (x : List ℕ). l ++ x) (N.marks F₂ e₂)

marked_stop : {A B : Type 0} {s s₁ : Reading} {e : Refusal} {l k : List ℕ} (m : Syntax A) (f : A → Syntax B) → Marked A m s (Err e) s₁ l → Marked B (m >>= f) s (Err e) s₁ k
marked_stop {A} {B} {s} {s₁} {e} {l} {k} m f M = record {
  meets = meets_stop m f M.meets;
  marks = λ {b} {t} {next} F h.
      let C = run_bound m f s.bytes.now s.at h in
      let W : Went C.result C.before C.middle s (Err e) s₁ = subst (λ (x : Outcome A). After x s (Err e) s₁) C.first (M.meets.goes (fits_first m f s.bytes.now s.at s.n F)) in
      ok_err (sym W.result);
}

marked_first : {A : Type 0} {m n : Syntax A} {s s₁ : Reading} {r : Result A Refusal} {l : List ℕ} → Marked A m s r s₁ l → Marked A (test true m n) s r s₁ l
unfolding run Fits
marked_first M = record { meets = meets_first M.meets; marks = λ F e. M.marks F e }

marked_second : {A : Type 0} {m n : Syntax A} {s s₁ : Reading} {r : Result A Refusal} {l : List ℕ} → Marked A n s r s₁ l → Marked A (test false m n) s r s₁ l
unfolding run Fits
marked_second M = record { meets = meets_second M.meets; marks = λ F e. M.marks F e }

abbrev pub place_of : Reading → ℕ
place_of s = s.n

pub laws : StepsLaws place_of Meets Marked
laws = record {
  goes_done = meets_done;
  goes_then = meets_then;
  goes_stop = meets_stop;
  goes_first = meets_first;
  goes_second = meets_second;
  marked_plain = marked_plain;
  marked_mark = marked_mark;
  marked_then = marked_then;
  marked_stop = marked_stop;
  marked_first = marked_first;
  marked_second = marked_second;
}
