-- How far a reading can go, whatever the bytes are: counted in words, each of at most 64 bits and one number of the record.
use Rattle.std.specs.Prelude.{ℕ, ◌+◌, ◌*◌, ◌-◌, ◌^◌, ◌≤◌, ◌<◌, ◌≡◌, refl, List, Bool, true, false, leb, eqb, length}
use Rattle.std.proofs.Common.{sym, subst, arith, leb-true}
use Rattle.bits.specs.Bits.{field_at, to_boundary}
use Rattle.bits.specs.Code.{Taken, code_at}
use Rattle.bits.specs.Code as Code
use Rattle.bits.specs.CodeLaws.{code_near}
use Rattle.bits.specs.FieldLaws.{field_lt}
use Rattle.vps_definition.specs.Syntax.{Syntax, ◌>>=◌, Token, numbers, run}
use Rattle.vps_definition.specs.Syntax.Syntax.{field, code, late, keep, mark, align, test, done}
use Rattle.vps_definition.specs.Syntax.Outcome.{accepted}
use Rattle.vps_definition.specs.Words.{check, nothing, when, aligned}
use Rattle.reading.specs.Fits.{limit, Fits, fits_first, fits_second}
use Rattle.vps_laws.specs.Loops.{bind_assoc}

-- a reading that has room for c words fits, and so does what follows it from wherever it ends: at most c words on, with a
-- result of which Q holds. An alignment that is refused counts as passed, as it does in `Fits`
pub record Within {A : Type 0} (Q : A → Type 0) (c : ℕ) (m : Syntax A) : Type 0 where
  pub holds : (f : A → Syntax (Unit {0})) (s : List ℕ) (at n : ℕ) → at + 64 * c < limit → n + c < limit
      → ((a : A) (next n' : ℕ) → Q a → next ≤ at + 64 * c → n' ≤ n + c → Fits (f a) s next n') → Fits (m >>= f) s at n

-- nothing is known of the result
abbrev pub Any : {A : Type 0} → A → Type 0
Any a = Unit {0}

-- ── The steps of a table ──────────────────────────────────────────────
pub within_so : {A : Type 0} {Q : A → Type 0} {b c : ℕ} {m : Syntax A} → Within Q b m → b ≤ c → Within Q c m
within_so M l = record { holds = λ f s at n h k F. M.holds f s at n (omega arith) (omega arith) (λ a next n' q i j. F a next n' q (omega arith) (omega arith)) }

pub within_as : {A : Type 0} {Q R : A → Type 0} {c : ℕ} {m : Syntax A} → Within Q c m → ((a : A) → Q a → R a) → Within R c m
within_as M g = record { holds = λ f s at n h k F. M.holds f s at n h k (λ a next n' q i j. F a next n' (g a q) i j) }

pub within_field : {A : Type 0} {Q : A → Type 0} {c w plus : ℕ} {k : ℕ → Syntax A} → leb w 64 ≡ true → leb 1 c ≡ true → ((v : ℕ) → v < 2 ^ w → Within Q (c - 1) (k (v + plus))) → Within Q c (field w plus k)
unfolding Fits ◌>>=◌
within_field {c = c} {w = w} l o K = record {
  holds = λ f s at n h j F.
      let p = leb-true w 64 l in
      let q = leb-true 1 c o in (
        record { near = omega arith; few = omega arith },
        (K (field_at s at w) (field_lt s at w)).holds f s (at + w) (n + 1) (omega arith) (omega arith) (λ a next n' g x y. F a next n' g (omega arith) (omega arith)),
      );
}

pub within_code : {A : Type 0} {Q : A → Type 0} {c plus : ℕ} {k : ℕ → Syntax A} → leb 1 c ≡ true → ((v : ℕ) → Within Q (c - 1) (k (v + plus))) → Within Q c (code plus k)
unfolding Fits ◌>>=◌
within_code {A} {Q} {c} {plus} {k} o K = record { holds = λ f s at n h j F. let q = leb-true 1 c o in (record { near = omega arith; few = omega arith }, go f s at n h j F (code_at s at) refl) }
  where
    go : (f : A → Syntax (Unit {0})) (s : List ℕ) (at n : ℕ) → at + 64 * c < limit → n + c < limit
        → ((a : A) (next n' : ℕ) → Q a → next ≤ at + 64 * c → n' ≤ n + c → Fits (f a) s next n') → (d : Taken) → code_at s at ≡ d
        → elim d as (λ d. Type 0) [ Code.Taken.taken v next ↦ Fits (k (v + plus) >>= f) s next (n + 1) | Code.Taken.refused m ↦ Unit {0} ]
    go f s at n h j F (Code.Taken.taken v next) e =
        let p = code_near s at v next e in
        let q = leb-true 1 c o in
        (K v).holds f s next (n + 1) (omega arith) (omega arith) (λ a next n' g x y. F a next n' g (omega arith) (omega arith))
    go f s at n h j F (Code.Taken.refused m) e = tt

pub within_late : {A : Type 0} {Q : A → Type 0} {c w : ℕ} {find : List ℕ → List ℕ → ℕ} {k : ℕ → Syntax A} → leb w 64 ≡ true → leb 1 c ≡ true → ((v : ℕ) → v < 2 ^ w → Within Q (c - 1) (k v)) → Within Q c (late w find k)
unfolding Fits ◌>>=◌
within_late {c = c} {w = w} l o K = record {
  holds = λ f s at n h j F.
      let p = leb-true w 64 l in
      let q = leb-true 1 c o in (
        record { near = omega arith; few = omega arith },
        (K (field_at s at w) (field_lt s at w)).holds f s (at + w) n (omega arith) (omega arith) (λ a next n' g x y. F a next n' g (omega arith) (omega arith)),
      );
}

pub within_keep : {A : Type 0} {Q : A → Type 0} {c v : ℕ} {m : Syntax A} → leb 1 c ≡ true → Within Q (c - 1) m → Within Q c (keep v m)
unfolding Fits ◌>>=◌
within_keep {c = c} o M = record {
  holds = λ f s at n h j F.
      let q = leb-true 1 c o in
      (record { near = omega arith; few = omega arith }, M.holds f s at (n + 1) (omega arith) (omega arith) (λ a next n' g x y. F a next n' g (omega arith) (omega arith)));
}

pub within_mark : {A : Type 0} {Q : A → Type 0} {c : ℕ} {m : Syntax A} → Within Q c m → Within Q c (mark m)
unfolding Fits ◌>>=◌
within_mark M = record { holds = λ f s at n h j F. M.holds f s at n h j F }

pub within_align : {A : Type 0} {Q : A → Type 0} {c r : ℕ} {m : Syntax A} → leb 1 c ≡ true → Within Q (c - 1) m → Within Q c (align r m)
unfolding Fits ◌>>=◌
within_align {c = c} o M = record {
  holds = λ f s at n h j F.
      let q = leb-true 1 c o in
      (record { near = omega arith; few = omega arith }, M.holds f s (at + to_boundary at) n (omega arith) (omega arith) (λ a next n' g x y. F a next n' g (omega arith) (omega arith)));
}

pub within_test : {A : Type 0} {Q : A → Type 0} {c : ℕ} (b : Bool) {m n : Syntax A} → Within Q c m → Within Q c n → Within Q c (test b m n)
unfolding Fits ◌>>=◌
within_test true M N = record { holds = λ f s at n h j F. M.holds f s at n h j F }
within_test false M N = record { holds = λ f s at n h j F. N.holds f s at n h j F }

pub within_done : {A : Type 0} {Q : A → Type 0} {c : ℕ} {a : A} → Q a → Within Q c (done a)
unfolding Fits ◌>>=◌
within_done g = record { holds = λ f s at n h j F. F _ at n g (omega arith) (omega arith) }

pub within_end : {A : Type 0} {c : ℕ} {a : A} → Within Any c (done a)
within_end = within_done tt

-- ── Tables in a row ───────────────────────────────────────────────────
pub within_bind : {A B : Type 0} {Q : A → Type 0} {R : B → Type 0} {b c : ℕ} {m : Syntax A} {g : A → Syntax B} → Within Q b m → ((a : A) → Q a → Within R c (g a)) → Within R (b + c) (m >>= g)
within_bind {m = m} {g = g} M G = record {
  holds = λ f s at n h k F.
      subst (λ (x : Syntax (Unit {0})). Fits x s at n) (sym (bind_assoc m g f))
      (M.holds (λ a. g a >>= f) s at n (omega arith) (omega arith) (λ a next n' q i j. (G a q).holds f s next n' (omega arith) (omega arith) (λ d to n'' r x y. F d to n'' r (omega arith) (omega arith))));
}

pub within_nothing : Within Any 0 nothing
unfolding nothing
within_nothing = within_end

pub within_aligned : (r : ℕ) → Within Any 1 (aligned r)
unfolding aligned
within_aligned r = within_align refl within_nothing

pub within_when : {c : ℕ} (flag : ℕ) {m : Syntax (Unit {0})} → Within Any c m → Within Any c (when flag m)
unfolding when nothing
within_when flag M = within_test (eqb flag 0) within_end M

-- behind a check, its condition holds
pub within_check : (b : Bool) (r : ℕ) → Within (λ o. b ≡ true) 0 (check b r)
unfolding check Fits ◌>>=◌
within_check true r = record { holds = λ f s at n h j F. F tt at n refl (omega arith) (omega arith) }
within_check false r = record { holds = λ f s at n h j F. tt }

pub within_passed : (b : Bool) (r : ℕ) → Within Any 0 (check b r)
within_passed b r = within_as (within_check b r) (λ o e. tt)

-- ── What follows ──────────────────────────────────────────────────────
-- the reading fits
pub within_fits : {A : Type 0} {Q : A → Type 0} {c : ℕ} {m : Syntax A} → Within Q c m → (s : List ℕ) (at n : ℕ) → at + 64 * c < limit → n + c < limit → Fits m s at n
unfolding Fits nothing
within_fits {m = m} M s at n h k = fits_first m (λ a. nothing) s at n (M.holds (λ a. nothing) s at n h k (λ a next n' q i j. tt))

-- what a reading that is accepted takes
pub record Bounded (c at : ℕ) (t : List Token) (next : ℕ) : Type 0 where
  pub place : next ≤ at + 64 * c
  pub few : length (numbers t) ≤ c

-- at most c words: from a cursor that leaves room for no more numbers, a last field that leaves room for no more bits still fits behind it
pub within_taken : {A : Type 0} {Q : A → Type 0} {c : ℕ} {m : Syntax A} {a : A} {t : List Token} {next : ℕ} → Within Q c m → (s : List ℕ) (at : ℕ) → at + 64 * c < limit → run m s at ≡ accepted a t next → Bounded c at t next
unfolding Fits nothing
within_taken {c = c} {m = m} {t = t} {next = next} M s at h e =
    let n : ℕ = limit - 1 - c in
    let w : ℕ = limit - 1 - (at + 64 * c) in
    let last : Syntax (Unit {0}) = late w (λ r x. 0) (λ v. keep 0 nothing) in
    let F : Fits last s next (n + length (numbers t)) = fits_second m (λ a. last) s at n e (M.holds (λ a. last) s at n h (omega arith) (λ a next n' q i j. (record { near = omega arith; few = omega arith }, (record { near = omega arith; few = omega arith }, tt)))) in
    record { place = omega (arith, F.1.0.near); few = omega (arith, F.0.few) }
