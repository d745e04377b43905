-- Writings of tables that mark sections: where each section starts is the record's next number at its mark.
use Rattle.std.specs.Prelude.{ℕ, ◌≡◌, List, [], ◌∷◌, ◌++◌, true, false, length, drop, Result, Ok, Err}
use Rattle.std.proofs.Common.{sym, ap, ◌∙◌, subst, add-zero}
use Rattle.refusals.specs.declared.refusal.Refusal.{Refusal}
use Rattle.vps_definition.specs.Syntax.{Syntax, ◌>>=◌, Token, numbers, starts, putting, emit}
use Rattle.vps_definition.specs.Syntax.Syntax.{mark, test}
use Rattle.vps_definition.specs.Syntax.Token.{section}
use Rattle.vps_definition.specs.Syntax.Written.{wrote}
use Rattle.vps_laws.specs.Inversion.{putting_wrote}
use Rattle.vps_laws.specs.Marks.{starts_append, starts_none}
use Rattle.vps_laws.specs.Plain.{Plain}
use Rattle.table_steps.specs.Laws.{StepsLaws}
use Rattle.writing.specs.declared.Writing.{Writing}
use Rattle.writing.specs.Emits.{Ready, Says, Emits}
use Rattle.writing.specs.Laws.{fails_put, both_written, keeps_written, emits_then, emits_stop, emits_done, emits_first, emits_second}

-- where the table is written, its sections start at these numbers
abbrev pub Marks : {A : Type 0} → Syntax A → List ℕ → Writing → Result A Refusal → List ℕ → Type 0
Marks {A} m rec s (Ok a) l = (start : ℕ) (d lent : List ℕ) (b : A) (t : List Token) (y c : List ℕ) → Ready start d s lent → emit m rec (drop s.c rec) (length d) ≡ wrote b t y c → starts s.c t ≡ l
Marks m rec s (Err e) l = Unit {0}

pub record Marked {A : Type 0} (m : Syntax A) (s : Writing) (r : Result A Refusal) (s' : Writing) (l : List ℕ) : Type 0 where
  pub emits : Emits m s r s'
  pub marks : Marks m s.rec.now s r l

-- a table without marks
pub marked_plain : {A : Type 0} {m : Syntax A} {s s₁ : Writing} {r : Result A Refusal} → Plain m → Emits m s r s₁ → Marked m s r s₁ []
marked_plain {A} {m} {s} {r = r} P M = record { emits = M; marks = go r }
  where
    go : (r : Result A Refusal) → Marks m s.rec.now s r []
    go (Ok a) = λ start d lent b t y c R e. starts_none s.c t (keeps_written m s.rec.now (drop s.c s.rec.now) (length d) P.plain e)
    go (Err e) = tt

-- a section that starts writes nothing
emits_mark : {A : Type 0} {m : Syntax A} {s s₁ : Writing} {r : Result A Refusal} → Emits m s r s₁ → Emits (mark m) s r s₁
unfolding emit putting numbers
emits_mark {A} {m} {s} {s₁} {r} M = record { stays = M.stays; says = go r M.says }
  where
    rec : List ℕ
    rec = s.rec.now

    go : (r : Result A Refusal) → Says m s.rec.now s r s₁ → Says (mark m) s.rec.now s r s₁
    go (Ok a) M = λ start d lent R. let W = M start d lent R in record { tokens = section ∷ W.tokens; bits = W.bits; is = ap (putting (section ∷ []) []) W.is; moved = W.moved; ready = W.ready }
    go (Err e) M = (M.0, λ start d lent R. fails_put (length d) (length d) (section ∷ []) [] (emit m rec (drop s.c rec) (length d)) (sym (add-zero (length d))) (M.1 start d lent R))

-- a section that starts here
pub marked_mark : {A : Type 0} {m : Syntax A} {s s₁ : Writing} {r : Result A Refusal} {l : List ℕ} → Marked m s r s₁ l → Marked (mark m) s r s₁ (s.c ∷ l)
unfolding emit starts
marked_mark {A} {m} {s} {s₁} {r} {l} M = record { emits = emits_mark M.emits; marks = go r M.marks }
  where
    rec : List ℕ
    rec = s.rec.now

    go : (r : Result A Refusal) → Marks m s.rec.now s r l → Marks (mark m) s.rec.now s r (s.c ∷ l)
    go (Ok a) M = λ start d lent b t y c R e.
        let P = putting_wrote (section ∷ []) [] (emit m rec (drop s.c rec) (length d)) e in
        ap (starts s.c) P.all ∙ ap (λ (x : List ℕ). s.c ∷ x) (M start d lent _ _ _ _ R P.inner)
    go (Err e) M = tt

-- two tables in a row
same_tokens : {B : Type 0} {b c : B} {t u : List Token} {x y d e : List ℕ} → wrote b t x d ≡ wrote c u y e → t ≡ u
same_tokens e = cc

pub marked_then : {A B : Type 0} {s s₁ s₂ : Writing} {a : A} {r : Result B Refusal} {l k : List ℕ} (m : Syntax A) (f : A → Syntax B) → Marked m s (Ok a) s₁ l → Marked (f a) s₁ r s₂ k
    → Marked (m >>= f) s r s₂ (l ++ k)
marked_then {A} {B} {s} {s₁} {s₂} {a} {r} {l} {k} m f M N = record {
  emits = emits_then m f M.emits N.emits;
  marks = go r (subst (λ (x : List ℕ). Says (f a) x s₁ r s₂) same N.emits.says) (subst (λ (x : List ℕ). Marks (f a) x s₁ r k) same N.marks);
}
  where
    same : s₁.rec.now ≡ s.rec.now
    same = λ i. (M.emits.stays.rec i).now

    go : (r : Result B Refusal) → Says (f a) s.rec.now s₁ r s₂ → Marks (f a) s.rec.now s₁ r k → Marks (m >>= f) s.rec.now s r (l ++ k)
    go (Ok b) N K = λ start d lent c t y e R w.
        let W = M.emits.says start d lent R in
        let U = N start (d ++ W.bits) lent W.ready in
        ap (starts s.c) (same_tokens (sym w ∙ both_written m f W U)) ∙ starts_append s.c W.tokens U.tokens
        ∙ (λ i. M.marks start d lent _ _ _ _ R W.is i ++ starts (sym W.moved i) U.tokens)
        ∙ ap (λ (x : List ℕ). l ++ x) (K start (d ++ W.bits) lent _ _ _ _ W.ready U.is)
    go (Err e) N K = tt

pub marked_stop : {A B : Type 0} {s s₁ : Writing} {e : Refusal} {l k : List ℕ} (m : Syntax A) (f : A → Syntax B) → Marked m s (Err e) s₁ l → Marked (m >>= f) s (Err e) s₁ k
marked_stop m f M = record { emits = emits_stop m f M.emits; marks = tt }

-- a condition that is known
pub marked_first : {A : Type 0} {m n : Syntax A} {s s₁ : Writing} {r : Result A Refusal} {l : List ℕ} → Marked m s r s₁ l → Marked (test true m n) s r s₁ l
unfolding emit
marked_first {A} {m} {n} {s} {r = r} {l = l} M = record { emits = emits_first M.emits; marks = go r M.marks }
  where
    go : (r : Result A Refusal) → Marks m s.rec.now s r l → Marks (test true m n) s.rec.now s r l
    go (Ok a) M = M
    go (Err e) M = tt

pub marked_second : {A : Type 0} {m n : Syntax A} {s s₁ : Writing} {r : Result A Refusal} {l : List ℕ} → Marked n s r s₁ l → Marked (test false m n) s r s₁ l
unfolding emit
marked_second {A} {m} {n} {s} {r = r} {l = l} M = record { emits = emits_second M.emits; marks = go r M.marks }
  where
    go : (r : Result A Refusal) → Marks n s.rec.now s r l → Marks (test false m n) s.rec.now s r l
    go (Ok a) M = M
    go (Err e) M = tt

-- ── All that a walk along a table owes ────────────────────────────────
pub laws : StepsLaws (λ s. s.c) (λ A. Emits) (λ A. Marked)
laws = record {
  goes_done = emits_done;
  goes_then = emits_then;
  goes_stop = emits_stop;
  goes_first = emits_first;
  goes_second = emits_second;
  marked_plain = marked_plain;
  marked_mark = marked_mark;
  marked_then = marked_then;
  marked_stop = marked_stop;
  marked_first = marked_first;
  marked_second = marked_second;
}
