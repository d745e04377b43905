-- How writings go on: one law for the end of a table, one for two in a row, one for a condition.
use Prim.Native.Nat.{ℕ, ◌+◌, ◌*◌, ◌≤◌}
use Rattle.std.specs.Prelude.{◌≡◌, refl, true, false, length, drop, replicate, Result, Ok, Err}
use Rattle.std.proofs.Common.{sym, ◌∙◌, subst, add-zero, arith, length-append}
use Rattle.std.proofs.Math.Path.{ap}
use mathlib.Core.List.{List, [], ◌++◌, append_assoc, append-nil}
use Rattle.std.proofs.lemmas.List.{length-replicate}
use Rattle.refusals.specs.declared.refusal.Refusal.{Refusal}
use Rattle.refusals.specs.declared.refusal.Refusal.TheVariants.{NotWellFormed}
use Rattle.bits.specs.Bits.{set_bits}
use Rattle.bits.specs.WriteLaws.{set_inside, length_set_bits}
use Rattle.vps_definition.specs.Syntax.{Syntax, ◌>>=◌, Token, numbers, Written, putting, emit}
use Rattle.vps_definition.specs.Syntax.Syntax.{test, done}
use Rattle.vps_definition.specs.Syntax.Written.{wrote, bad}
use Rattle.vps_laws.specs.Bind.{then_write, emit_bind}
use Rattle.vps_laws.specs.Writing.{emit_run, emit_numbers, emit_bits}
use Rattle.vps_laws.specs.Keeps.{Keeps, numbers_append}
use Rattle.writing.specs.declared.Writing.{Writing}
use Rattle.writing.specs.Emits.{Ready, Wrote, Fails, Stays, Says, Emits}

-- ── What stays ────────────────────────────────────────────────────────
pub stays_all : {s : Writing} → Stays s s
stays_all = record { rec = refl; same = refl; long = refl }

pub stays_then : {s s₁ s₂ : Writing} → Stays s s₁ → Stays s₁ s₂ → Stays s s₂
stays_then K L = record { rec = L.rec ∙ K.rec; same = L.same ∙ K.same; long = L.long ∙ K.long }

-- ── Tables in a row ───────────────────────────────────────────────────
-- what goes in front makes a writing that fails no better
pub fails_put : {A : Type 0} (at next : ℕ) (t : List Token) (b : List ℕ) (W : Written A) → next ≡ at + length b → Fails next W → Fails at (putting t b W)
unfolding putting
fails_put at next t b (wrote a u x c) e h = omega (arith, h, e, length-append b c)
fails_put at next t b bad e h = tt

-- nor does what follows
fails_then : {A B : Type 0} (at : ℕ) (W : Written A) (F : A → List ℕ → ℕ → Written B) → Fails at W → Fails at (then_write at W F)
unfolding then_write putting
fails_then {B = B} at (wrote a t x b) F h = go (F a x (at + length b))
  where
    go : (X : Written B) → Fails at (putting t b X)
    go (wrote c u y e) = omega (arith, h, length-append b e)
    go bad = tt
fails_then at bad F h = tt

module _ {A B : Type 0} {rec : List ℕ} {s : Writing} {a : A} {s₁ : Writing} where
  -- the whole is the second behind the first
  behind_first : {start : ℕ} {d lent : List ℕ} (m : Syntax A) (f : A → Syntax B) (W : Wrote m rec start d lent s a s₁)
      → emit (m >>= f) rec (drop s.c rec) (length d) ≡ putting W.tokens W.bits (emit (f a) rec (drop s₁.c rec) (length (d ++ W.bits)))
  unfolding then_write
  behind_first {d = d} m f W =
      let F : A → List ℕ → ℕ → Written B = λ a y next. emit (f a) rec y next in
      emit_bind m f rec (drop s.c rec) (length d) ∙ ap (λ (X : Written A). then_write (length d) X F) W.is
      ∙ ap (λ (n : ℕ). putting W.tokens W.bits (emit (f a) rec (drop s₁.c rec) n)) (sym (length-append d W.bits))

  module _ {start : ℕ} {d lent : List ℕ} {b : B} {s₂ : Writing} (m : Syntax A) (f : A → Syntax B) (W : Wrote m rec start d lent s a s₁)
      (U : Wrote (f a) rec start (d ++ W.bits) lent s₁ b s₂) where
    pub both_written : emit (m >>= f) rec (drop s.c rec) (length d) ≡ wrote b (W.tokens ++ U.tokens) (drop s₂.c rec) (W.bits ++ U.bits)
    unfolding putting
    both_written = behind_first m f W ∙ ap (putting W.tokens W.bits) U.is

    wrote_then : Wrote (m >>= f) rec start d lent s b s₂
    wrote_then = record {
      tokens = W.tokens ++ U.tokens;
      bits = W.bits ++ U.bits;
      is = both_written;
      moved = U.moved ∙ omega (arith, W.moved, ap length (numbers_append W.tokens U.tokens), length-append (numbers W.tokens) (numbers U.tokens));
      ready = subst (λ (l : List ℕ). Ready start l s₂ lent) (append_assoc d W.bits U.bits) U.ready;
    }

-- the second of two tables is of the same record
says_on : {A : Type 0} {m : Syntax A} {s s₁ s₂ : Writing} {r : Result A Refusal} → Stays s s₁ → Emits m s₁ r s₂ → Says m s.rec.now s₁ r s₂
says_on {m = m} {s₁ = s₁} {s₂ = s₂} {r = r} K N = subst (λ (l : List ℕ). Says m l s₁ r s₂) (λ i. (K.rec i).now) N.says

-- two tables in a row
pub emits_then : {A B : Type 0} {s s₁ s₂ : Writing} {a : A} {r : Result B Refusal} (m : Syntax A) (f : A → Syntax B) → Emits m s (Ok a) s₁ → Emits (f a) s₁ r s₂ → Emits (m >>= f) s r s₂
emits_then {A} {B} {s} {s₁} {s₂} {a} {r} m f M N = record { stays = stays_then M.stays N.stays; says = go r (says_on M.stays N) }
  where
    go : (r : Result B Refusal) → Says (f a) s.rec.now s₁ r s₂ → Says (m >>= f) s.rec.now s r s₂
    go (Ok b) N = λ start d lent R. let W = M.says start d lent R in wrote_then m f W (N start (d ++ W.bits) lent W.ready)
    go (Err e) N = (
      N.0,
      λ start d lent R.
          let W = M.says start d lent R in
          subst (Fails (length d)) (sym (behind_first m f W)) (fails_put (length d) (length (d ++ W.bits)) W.tokens W.bits _ (length-append d W.bits) (N.1 start (d ++ W.bits) lent W.ready)),
    )

-- the first is refused
pub emits_stop : {A B : Type 0} {s s₁ : Writing} {e : Refusal} (m : Syntax A) (f : A → Syntax B) → Emits m s (Err e) s₁ → Emits (m >>= f) s (Err e) s₁
emits_stop {s = s} m f M =
    let rec = s.rec.now in
    record {
      stays = M.stays;
      says = (
        M.says.0,
        λ start d lent R. subst (Fails (length d)) (sym (emit_bind m f rec (drop s.c rec) (length d))) (fails_then (length d) (emit m rec (drop s.c rec) (length d)) _ (M.says.1 start d lent R)),
      );
    }

-- ── The end of a table ────────────────────────────────────────────────
pub emits_done : {A : Type 0} {a : A} {s : Writing} → Emits (done a) s (Ok a) s
unfolding emit numbers
emits_done {s = s} = record {
  stays = stays_all;
  says = λ start d lent R. record { tokens = []; bits = []; is = refl; moved = sym (add-zero s.c); ready = subst (λ (l : List ℕ). Ready start l s lent) (sym (append-nil d)) R };
}

-- ── A condition ───────────────────────────────────────────────────────
-- a table that writes the same
pub emits_same : {A : Type 0} {m m' : Syntax A} {s s₁ : Writing} {r : Result A Refusal} → ((at : ℕ) → emit m s.rec.now (drop s.c s.rec.now) at ≡ emit m' s.rec.now (drop s.c s.rec.now) at) → Emits m s r s₁
    → Emits m' s r s₁
emits_same {A} {m} {m'} {s} {s₁} {r} e M = record { stays = M.stays; says = go r M.says }
  where
    go : (r : Result A Refusal) → Says m s.rec.now s r s₁ → Says m' s.rec.now s r s₁
    go (Ok a) M = λ start d lent R. let W = M start d lent R in record { tokens = W.tokens; bits = W.bits; is = sym (e (length d)) ∙ W.is; moved = W.moved; ready = W.ready }
    go (Err x) M = (M.0, λ start d lent R. subst (Fails (length d)) (e (length d)) (M.1 start d lent R))

pub emits_first : {A : Type 0} {m n : Syntax A} {s s₁ : Writing} {r : Result A Refusal} → Emits m s r s₁ → Emits (test true m n) s r s₁
unfolding emit
emits_first M = emits_same (λ at. refl) M

pub emits_second : {A : Type 0} {m n : Syntax A} {s s₁ : Writing} {r : Result A Refusal} → Emits n s r s₁ → Emits (test false m n) s r s₁
unfolding emit
emits_second M = emits_same (λ at. refl) M

-- ── What is known behind a table ──────────────────────────────────────
-- what every reading of a table keeps, every writing of it has
pub keeps_written : {A : Type 0} {Q : A → List Token → Type 0} {a : A} {t : List Token} {y b : List ℕ} (m : Syntax A) (r x : List ℕ) (at : ℕ) → Keeps Q m → emit m r x at ≡ wrote a t y b → Q a t
keeps_written {b = b} m r x at K e =
    let z : List ℕ = replicate (at + length b) 0 in
    let n = length-replicate {A = ℕ} (at + length b) 0 in
    let l : at + length b ≤ 8 * length z = omega (arith, n) in
    let A = emit_bits m r x at e in
    K.holds (set_bits z at b) at (emit_run m r x at e (set_bits z at b) (set_inside z at b A l) (omega (arith, n, length_set_bits z at b)))

-- what the record had there: the numbers of the tokens, and its rest behind them
pub record Had {A : Type 0} (Q : A → List Token → Type 0) (rec : List ℕ) (s : Writing) (a : A) (s' : Writing) : Type 0 where
  pub tokens : List Token
  pub keeps : Q a tokens
  pub moved : s'.c ≡ s.c + length (numbers tokens)
  pub numbered : drop s.c rec ≡ numbers tokens ++ drop s'.c rec

pub had : {A : Type 0} {Q : A → List Token → Type 0} {rec : List ℕ} {start : ℕ} {d lent : List ℕ} {s : Writing} {a : A} {s' : Writing} (m : Syntax A) → Keeps Q m
    → Wrote m rec start d lent s a s' → Had Q rec s a s'
had {rec = rec} {d = d} {s = s} m K W = record {
  tokens = W.tokens;
  keeps = keeps_written m rec (drop s.c rec) (length d) K W.is;
  moved = W.moved;
  numbered = emit_numbers m rec (drop s.c rec) (length d) W.is;
}

module _ {A : Type 0} {Q : A → List Token → Type 0} {s s₁ : Writing} {a : A} (m : Syntax A) (K : Keeps Q m) (M : Emits m s (Ok a) s₁) where
  -- the second of two tables may count on it
  pub emits_known : {B : Type 0} {r : Result B Refusal} {s₂ : Writing} (f : A → Syntax B) → Stays s₁ s₂ → ((e : Refusal) → r ≡ Err e → e ≡ NotWellFormed) → (Had Q s.rec.now s a s₁ → Emits (f a) s₁ r s₂)
      → Emits (m >>= f) s r s₂
  emits_known {B} {r} {s₂} f L F N = record { stays = stays_then M.stays L; says = go r F N }
    where
      go : (r : Result B Refusal) → ((e : Refusal) → r ≡ Err e → e ≡ NotWellFormed) → (Had Q s.rec.now s a s₁ → Emits (f a) s₁ r s₂) → Says (m >>= f) s.rec.now s r s₂
      go (Ok b) F N = λ start d lent R. (emits_then m f M (N (had m K (M.says start d lent R)))).says start d lent R
      go (Err e) F N = (F e refl, λ start d lent R. (emits_then m f M (N (had m K (M.says start d lent R)))).says.1 start d lent R)

  -- so may the result
  pub emits_other : {a' : A} → (Had Q s.rec.now s a s₁ → a ≡ a') → Emits m s (Ok a') s₁
  emits_other {a'} E = record {
    stays = M.stays;
    says = λ start d lent R. let W = M.says start d lent R in subst (λ (x : A). Wrote m s.rec.now start d lent s x s₁) (E (had m K W)) W;
  }
