-- Readings whose places and cursors stay below a limit: what the code's sums need, shown once for the whole table.
use Rattle.std.specs.Prelude.{ℕ, suc, ◌+◌, ◌^◌, ◌<◌, ◌≡◌, List, true, false, length}
use Rattle.std.proofs.Common.{sym, subst, add-zero, arith}
use Rattle.bits.specs.Bits.{field_at, to_boundary}
use Rattle.bits.specs.Code.{code_at}
use Rattle.bits.specs.Code as Code
use Rattle.vps_definition.specs.Syntax.{Syntax, ◌>>=◌, Token, numbers, run}
use Rattle.vps_definition.specs.Syntax.Syntax.{field, code, late, keep, mark, align, test, refuse, done}
use Rattle.vps_definition.specs.Syntax.Outcome.{accepted}
use Rattle.vps_laws.specs.Inversion.{Reads, run_reads}
use Rattle.vps_laws.specs.Inversion.Reads.{read_field, read_code, read_late, read_keep, read_mark, pass_align, read_align, read_first, read_second, read_done}

abbrev pub limit : ℕ
limit = 2 ^ 62

-- a place and a cursor below it
pub record Room (at n : ℕ) : Type 0 where
  pub near : at < limit
  pub few : n < limit

-- each step of a reading finds its place and its cursor below the limit
unfoldable pub Fits : {A : Type 0} → Syntax A → List ℕ → ℕ → ℕ → Type 0
Fits (field w plus k) s at n = Room at n × Fits (k (field_at s at w + plus)) s (at + w) (n + 1)
Fits (code plus k) s at n =
    Room at n × elim (code_at s at) as (λ d. Type 0) [ Code.Taken.taken v next ↦ Fits (k (v + plus)) s next (n + 1) | Code.Taken.refused m ↦ Unit {0} ]
Fits (late w find k) s at n = Room at n × Fits (k (field_at s at w)) s (at + w) n
Fits (keep v m) s at n = Room at n × Fits m s at (n + 1)
Fits (mark m) s at n = Fits m s at n
Fits (align q m) s at n = Room at n × Fits m s (at + to_boundary at) n
Fits (test true m m') s at n = Fits m s at n
Fits (test false m m') s at n = Fits m' s at n
Fits (refuse q) s at n = Unit {0}
Fits (done a) s at n = Unit {0}

-- the first of two tables fits where both do
pub fits_first : {A B : Type 0} (m : Syntax A) (f : A → Syntax B) (s : List ℕ) (at n : ℕ) → Fits (m >>= f) s at n → Fits m s at n
unfolding Fits ◌>>=◌
fits_first (field w plus k) f s at n h = (h.0, fits_first (k (field_at s at w + plus)) f s (at + w) (n + 1) h.1)
fits_first (code plus k) f s at n h = (h.0, go (λ v next. fits_first (k (v + plus)) f s next (n + 1)) (code_at s at) h.1)
  where
    go : ((v next : ℕ) → Fits (k (v + plus) >>= f) s next (n + 1) → Fits (k (v + plus)) s next (n + 1)) → (c : Code.Taken)
        → elim c as (λ d. Type 0) [ Code.Taken.taken v next ↦ Fits (k (v + plus) >>= f) s next (n + 1) | Code.Taken.refused m ↦ Unit {0} ]
        → elim c as (λ d. Type 0) [ Code.Taken.taken v next ↦ Fits (k (v + plus)) s next (n + 1) | Code.Taken.refused m ↦ Unit {0} ]
    go F (Code.Taken.taken v next) h = F v next h
    go F (Code.Taken.refused m) h = tt
fits_first (late w find k) f s at n h = (h.0, fits_first (k (field_at s at w)) f s (at + w) n h.1)
fits_first (keep v m) f s at n h = (h.0, fits_first m f s at (n + 1) h.1)
fits_first (mark m) f s at n h = fits_first m f s at n h
fits_first (align q m) f s at n h = (h.0, fits_first m f s (at + to_boundary at) n h.1)
fits_first (test true m m') f s at n h = fits_first m f s at n h
fits_first (test false m m') f s at n h = fits_first m' f s at n h
fits_first (refuse q) f s at n h = tt
fits_first (done a) f s at n h = tt

one_more : (n k : ℕ) → n + 1 + k ≡ n + suc k
one_more n k = omega arith

reads_fits : {A B : Type 0} {m : Syntax A} {s : List ℕ} {at : ℕ} {a : A} {t : List Token} {next : ℕ} → Reads m s at a t next → (f : A → Syntax B) (n : ℕ)
    → Fits (m >>= f) s at n → Fits (f a) s next (n + length (numbers t))
unfolding Fits ◌>>=◌ numbers
reads_fits (read_field {s = s} {a = a} {t = t} {next = next} R) f n h = subst (Fits (f a) s next) (one_more n (length (numbers t))) (reads_fits R f (n + 1) h.1)
reads_fits (read_code {s = s} {a = a} {t = t} {next = next} e R) f n h = subst (Fits (f a) s next) (one_more n (length (numbers t))) (reads_fits R f (n + 1) (rw e at h.1))
reads_fits (read_late R) f n h = reads_fits R f n h.1
reads_fits (read_keep {s = s} {a = a} {t = t} {next = next} R) f n h = subst (Fits (f a) s next) (one_more n (length (numbers t))) (reads_fits R f (n + 1) h.1)
reads_fits (read_mark R) f n h = reads_fits R f n h
reads_fits (pass_align R) f n h = reads_fits R f n h.1
reads_fits (read_align z R) f n h = reads_fits R f n h.1
reads_fits (read_first R) f n h = reads_fits R f n h
reads_fits (read_second R) f n h = reads_fits R f n h
reads_fits {s = s} {at = at} (read_done {a = a}) f n h = subst (Fits (f a) s at) (sym (add-zero n)) h

-- and the second, behind the first
pub fits_second : {A B : Type 0} {a : A} {t : List Token} {next : ℕ} (m : Syntax A) (f : A → Syntax B) (s : List ℕ) (at n : ℕ) → run m s at ≡ accepted a t next
    → Fits (m >>= f) s at n → Fits (f a) s next (n + length (numbers t))
fits_second m f s at n e h = reads_fits (run_reads m s at e) f n h
