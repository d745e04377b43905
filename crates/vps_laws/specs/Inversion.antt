-- What follows from what comes out: a reading and a writing that succeed, step by step.
use Rattle.std.specs.Prelude.{ℕ, zero, suc, ◌+◌, ◌-◌, ◌^◌, ◌≤◌, ◌<◌, ◌≡◌, refl, List, [], ◌∷◌, ◌++◌, Bool, true, false, ltb, leb, eqb, length, replicate}
use Rattle.std.proofs.Common.{sym, ap, subst, subst₂, arith, ltb-true, leb-true, eqb-true, lt-ltb, le-leb, eq-eqb}
use Rattle.bits.specs.Bits.{field_at, bits_of, to_boundary}
use Rattle.bits.specs.Code.{Taken, code_at, code_of}
use Rattle.bits.specs.Code.Taken.{taken}
use Rattle.bits.specs.Code as Code
use Rattle.vps_definition.specs.Syntax.{Syntax, ◌>>=◌, Token, Outcome, keeping, run, Written, putting, emit}
use Rattle.vps_definition.specs.Syntax.Syntax.{field, code, late, keep, mark, align, test, refuse, done}
use Rattle.vps_definition.specs.Syntax.Token.{number, section}
use Rattle.vps_definition.specs.Syntax.Outcome.{accepted, refused}
use Rattle.vps_definition.specs.Syntax.Written.{wrote, bad}
use Rattle.vps_definition.specs.Words.{check, ruled}

-- ── What is accepted ──────────────────────────────────────────────────
pub not_accepted : {A B : Type 0} {n next : ℕ} {a : A} {t l : List Token} → refused n l ≡ accepted a t next → B
not_accepted e = absurd (let n : ◌≡◌ {A = ℕ} 0 1 = cc in omega arith)

-- with tokens kept first: so without them
pub record Kept {A : Type 0} (u : List Token) (R : Outcome A) (a : A) (t : List Token) (next : ℕ) : Type 0 where
  pub rest : List Token
  pub inner : R ≡ accepted a rest next
  pub all : t ≡ u ++ rest

pub keeping_accepted : {A : Type 0} {a : A} {t : List Token} {next : ℕ} (u : Token) (R : Outcome A) → keeping u R ≡ accepted a t next → Kept (u ∷ []) R a t next
unfolding keeping
keeping_accepted u (accepted b l q) e = record { rest = l; inner = cc; all = cc }
keeping_accepted u (refused n l) e = not_accepted e

-- behind a guard: so the guard holds
pub guard_accepted : {A : Type 0} {a : A} {t : List Token} {next : ℕ} (c : Bool) (n : ℕ) (R : Outcome A)
    → elim c as (λ d. Outcome A) [ true ↦ R | false ↦ refused n [] ] ≡ accepted a t next → (c ≡ true) × (R ≡ accepted a t next)
guard_accepted true n R e = (refl, e)
guard_accepted false n R e = not_accepted e

-- behind a rule's check: so without it
pub ruled_accepted : {A : Type 0} {a : A} {t : List Token} {next : ℕ} (rule b : Bool) (n : ℕ) (m : Syntax A) (s : List ℕ) (at : ℕ)
    → run (ruled rule b n m) s at ≡ accepted a t next → run m s at ≡ accepted a t next
unfolding ruled check ◌>>=◌ run
ruled_accepted true true n m s at e = e
ruled_accepted true false n m s at e = not_accepted e
ruled_accepted false b n m s at e = e

-- behind a code: so the code was taken
pub record Coded {A : Type 0} (c : Taken) (F : ℕ → ℕ → Outcome A) (a : A) (t : List Token) (next : ℕ) : Type 0 where
  pub value : ℕ
  pub behind : ℕ
  pub is : c ≡ taken value behind
  pub inner : F value behind ≡ accepted a t next

pub code_accepted : {A : Type 0} {a : A} {t : List Token} {next : ℕ} (c : Taken) (F : ℕ → ℕ → Outcome A)
    → elim c as (λ d. Outcome A) [ Code.Taken.taken v q ↦ F v q | Code.Taken.refused n ↦ refused n [] ] ≡ accepted a t next → Coded c F a t next
code_accepted (Code.Taken.taken v q) F e = record { value = v; behind = q; is = refl; inner = e }
code_accepted (Code.Taken.refused n) F e = not_accepted e

-- ── What is written ───────────────────────────────────────────────────
pub not_wrote : {A B : Type 0} {a : A} {t : List Token} {y b : List ℕ} → bad ≡ wrote a t y b → B
not_wrote e = absurd (let n : ◌≡◌ {A = ℕ} 0 1 = cc in omega arith)

pub guard_wrote : {A : Type 0} {a : A} {t : List Token} {y b : List ℕ} (c : Bool) (W : Written A)
    → elim c as (λ d. Written A) [ true ↦ W | false ↦ bad ] ≡ wrote a t y b → (c ≡ true) × (W ≡ wrote a t y b)
guard_wrote true W e = (refl, e)
guard_wrote false W e = not_wrote e

-- with tokens and bits put first: so without them
pub record Put {A : Type 0} (u : List Token) (c : List ℕ) (W : Written A) (a : A) (t : List Token) (y b : List ℕ) : Type 0 where
  pub rest : List Token
  pub bits : List ℕ
  pub inner : W ≡ wrote a rest y bits
  pub all : t ≡ u ++ rest
  pub whole : b ≡ c ++ bits

pub putting_wrote : {A : Type 0} {a : A} {t : List Token} {y b : List ℕ} (u : List Token) (c : List ℕ) (W : Written A) → putting u c W ≡ wrote a t y b → Put u c W a t y b
unfolding putting
putting_wrote u c (wrote e l x d) h = record { rest = l; bits = d; inner = cc; all = cc; whole = cc }
putting_wrote u c bad h = not_wrote h

-- ── A reading, step by step ───────────────────────────────────────────
pub data Reads {A : Type 0} : Syntax A → List ℕ → ℕ → A → List Token → ℕ → Type 0 where
  read_field : {w plus : ℕ} {k : ℕ → Syntax A} {s : List ℕ} {at : ℕ} {a : A} {t : List Token} {next : ℕ}
      → Reads (k (field_at s at w + plus)) s (at + w) a t next → Reads (field w plus k) s at a (number (field_at s at w + plus) ∷ t) next
  read_code : {plus : ℕ} {k : ℕ → Syntax A} {s : List ℕ} {at v behind : ℕ} {a : A} {t : List Token} {next : ℕ} → code_at s at ≡ taken v behind
      → Reads (k (v + plus)) s behind a t next → Reads (code plus k) s at a (number (v + plus) ∷ t) next
  read_late : {w : ℕ} {find : List ℕ → List ℕ → ℕ} {k : ℕ → Syntax A} {s : List ℕ} {at : ℕ} {a : A} {t : List Token} {next : ℕ}
      → Reads (k (field_at s at w)) s (at + w) a t next → Reads (late w find k) s at a t next
  read_keep : {v : ℕ} {m : Syntax A} {s : List ℕ} {at : ℕ} {a : A} {t : List Token} {next : ℕ} → Reads m s at a t next → Reads (keep v m) s at a (number v ∷ t) next
  read_mark : {m : Syntax A} {s : List ℕ} {at : ℕ} {a : A} {t : List Token} {next : ℕ} → Reads m s at a t next → Reads (mark m) s at a (section ∷ t) next
  pass_align : {m : Syntax A} {s : List ℕ} {at : ℕ} {a : A} {t : List Token} {next : ℕ} → Reads m s (at + to_boundary at) a t next → Reads (align 0 m) s at a t next
  read_align : {n : ℕ} {m : Syntax A} {s : List ℕ} {at : ℕ} {a : A} {t : List Token} {next : ℕ} → field_at s at (to_boundary at) ≡ 0
      → Reads m s (at + to_boundary at) a t next → Reads (align (suc n) m) s at a t next
  read_first : {m n : Syntax A} {s : List ℕ} {at : ℕ} {a : A} {t : List Token} {next : ℕ} → Reads m s at a t next → Reads (test true m n) s at a t next
  read_second : {m n : Syntax A} {s : List ℕ} {at : ℕ} {a : A} {t : List Token} {next : ℕ} → Reads n s at a t next → Reads (test false m n) s at a t next
  read_done : {s : List ℕ} {at : ℕ} {a : A} → Reads (done a) s at a [] at

pub run_reads : {A : Type 0} {a : A} {t : List Token} {next : ℕ} (m : Syntax A) (s : List ℕ) (at : ℕ) → run m s at ≡ accepted a t next → Reads m s at a t next
unfolding run
run_reads {a} {t} {next} (field w plus k) s at e =
    let v : ℕ = field_at s at w + plus in
    let K = keeping_accepted (number v) (run (k v) s (at + w)) e in
    subst (λ (l : List Token). Reads (field w plus k) s at a l next) (sym K.all) (read_field (run_reads {t = K.rest} (k v) s (at + w) K.inner))
run_reads {a} {t} {next} (code plus k) s at e =
    let C = code_accepted (code_at s at) (λ v q. keeping (number (v + plus)) (run (k (v + plus)) s q)) e in
    let v : ℕ = C.value + plus in
    let K = keeping_accepted (number v) (run (k v) s C.behind) C.inner in
    subst (λ (l : List Token). Reads (code plus k) s at a l next) (sym K.all) (read_code C.is (run_reads {t = K.rest} (k v) s C.behind K.inner))
run_reads (late w find k) s at e = read_late (run_reads (k (field_at s at w)) s (at + w) e)
run_reads {a} {t} {next} (keep v m) s at e =
    let K = keeping_accepted (number v) (run m s at) e in
    subst (λ (l : List Token). Reads (keep v m) s at a l next) (sym K.all) (read_keep (run_reads {t = K.rest} m s at K.inner))
run_reads {a} {t} {next} (mark m) s at e =
    let K = keeping_accepted section (run m s at) e in
    subst (λ (l : List Token). Reads (mark m) s at a l next) (sym K.all) (read_mark (run_reads {t = K.rest} m s at K.inner))
run_reads (align zero m) s at e = pass_align (run_reads m s (at + to_boundary at) e)
run_reads (align (suc n) m) s at e =
    let G = guard_accepted (eqb (field_at s at (to_boundary at)) 0) (suc n) (run m s (at + to_boundary at)) e in
    read_align (eqb-true (field_at s at (to_boundary at)) 0 G.0) (run_reads m s (at + to_boundary at) G.1)
run_reads (test true m n) s at e = read_first (run_reads m s at e)
run_reads (test false m n) s at e = read_second (run_reads n s at e)
run_reads (refuse n) s at e = not_accepted e
run_reads {a} {t} {next} (done b) s at e =
    let i : b ≡ a = cc in
    let j : [] ≡ t = cc in
    let l : at ≡ next = cc in
    rw (← i, ← j, ← l) read_done

pub reads_run : {A : Type 0} {m : Syntax A} {s : List ℕ} {at : ℕ} {a : A} {t : List Token} {next : ℕ} → Reads m s at a t next → run m s at ≡ accepted a t next
unfolding run keeping
reads_run (read_field {w} {plus} {s} {at} R) = ap (keeping (number (field_at s at w + plus))) (reads_run R)
reads_run (read_code {plus} {v} e R) = rw (e, run) (ap (keeping (number (v + plus))) (reads_run R))
reads_run (read_late R) = reads_run R
reads_run (read_keep {v} R) = ap (keeping (number v)) (reads_run R)
reads_run (read_mark R) = ap (keeping section) (reads_run R)
reads_run (pass_align R) = reads_run R
reads_run (read_align {s} {at} z R) = rw (eq-eqb (field_at s at (to_boundary at)) 0 z, run) (reads_run R)
reads_run (read_first R) = reads_run R
reads_run (read_second R) = reads_run R
reads_run read_done = refl

-- a field or a code that reads as v
pub read_field_as : {A : Type 0} {w plus v : ℕ} {k : ℕ → Syntax A} {s : List ℕ} {at : ℕ} {a : A} {t : List Token} {next : ℕ} → field_at s at w + plus ≡ v
    → Reads (k v) s (at + w) a t next → Reads (field w plus k) s at a (number v ∷ t) next
read_field_as {w} {plus} {k} {s} {at} {a} {t} {next} e R =
    subst (λ (v : ℕ). Reads (k v) s (at + w) a t next → Reads (field w plus k) s at a (number v ∷ t) next) e read_field R

pub read_code_as : {A : Type 0} {plus u v : ℕ} {k : ℕ → Syntax A} {s : List ℕ} {at behind : ℕ} {a : A} {t : List Token} {next : ℕ} → code_at s at ≡ taken u behind → u + plus ≡ v
    → Reads (k v) s behind a t next → Reads (code plus k) s at a (number v ∷ t) next
read_code_as {plus} {k} {s} {at} {behind} {a} {t} {next} i e R =
    subst (λ (v : ℕ). Reads (k v) s behind a t next → Reads (code plus k) s at a (number v ∷ t) next) e (read_code i) R

pub read_late_as : {A : Type 0} {w v : ℕ} {find : List ℕ → List ℕ → ℕ} {k : ℕ → Syntax A} {s : List ℕ} {at : ℕ} {a : A} {t : List Token} {next : ℕ} → field_at s at w ≡ v
    → Reads (k v) s (at + w) a t next → Reads (late w find k) s at a t next
read_late_as {w} {find} {k} {s} {at} {a} {t} {next} e R = subst (λ (v : ℕ). Reads (k v) s (at + w) a t next → Reads (late w find k) s at a t next) e read_late R

-- ── A writing, step by step ───────────────────────────────────────────
pub data Writes {A : Type 0} : Syntax A → List ℕ → List ℕ → ℕ → A → List Token → List ℕ → List ℕ → Type 0 where
  write_field : {w plus v : ℕ} {k : ℕ → Syntax A} {r x : List ℕ} {at : ℕ} {a : A} {t : List Token} {y b : List ℕ} → plus ≤ v → v - plus < 2 ^ w
      → Writes (k v) r x (at + w) a t y b → Writes (field w plus k) r (v ∷ x) at a (number v ∷ t) y (bits_of w (v - plus) ++ b)
  write_code : {plus v : ℕ} {k : ℕ → Syntax A} {r x : List ℕ} {at : ℕ} {a : A} {t : List Token} {y b : List ℕ} → plus ≤ v → v - plus < 4294967295
      → Writes (k v) r x (at + length (code_of (v - plus))) a t y b → Writes (code plus k) r (v ∷ x) at a (number v ∷ t) y (code_of (v - plus) ++ b)
  write_late : {w : ℕ} {find : List ℕ → List ℕ → ℕ} {k : ℕ → Syntax A} {r x : List ℕ} {at : ℕ} {a : A} {t : List Token} {y b : List ℕ} → find r x < 2 ^ w
      → Writes (k (find r x)) r x (at + w) a t y b → Writes (late w find k) r x at a t y (bits_of w (find r x) ++ b)
  write_keep : {v : ℕ} {m : Syntax A} {r x : List ℕ} {at : ℕ} {a : A} {t : List Token} {y b : List ℕ} → Writes m r x at a t y b → Writes (keep v m) r (v ∷ x) at a (number v ∷ t) y b
  write_mark : {m : Syntax A} {r x : List ℕ} {at : ℕ} {a : A} {t : List Token} {y b : List ℕ} → Writes m r x at a t y b → Writes (mark m) r x at a (section ∷ t) y b
  write_align : {n : ℕ} {m : Syntax A} {r x : List ℕ} {at : ℕ} {a : A} {t : List Token} {y b : List ℕ}
      → Writes m r x (at + to_boundary at) a t y b → Writes (align n m) r x at a t y (replicate (to_boundary at) 0 ++ b)
  write_first : {m n : Syntax A} {r x : List ℕ} {at : ℕ} {a : A} {t : List Token} {y b : List ℕ} → Writes m r x at a t y b → Writes (test true m n) r x at a t y b
  write_second : {m n : Syntax A} {r x : List ℕ} {at : ℕ} {a : A} {t : List Token} {y b : List ℕ} → Writes n r x at a t y b → Writes (test false m n) r x at a t y b
  write_done : {r x : List ℕ} {at : ℕ} {a : A} → Writes (done a) r x at a [] x []

-- what goes in front
put_writes : {A : Type 0} {a : A} {t : List Token} {y b : List ℕ} {m : Syntax A} {r x : List ℕ} {at : ℕ} (u : List Token) (c : List ℕ) (W : Written A) → putting u c W ≡ wrote a t y b
    → ((l : List Token) (d : List ℕ) → W ≡ wrote a l y d → Writes m r x at a (u ++ l) y (c ++ d)) → Writes m r x at a t y b
put_writes {a} {y} {m} {r} {x} {at} u c W e k =
    let P = putting_wrote u c W e in
    subst₂ (λ (l : List Token) (d : List ℕ). Writes m r x at a l y d) (sym P.all) (sym P.whole) (k P.rest P.bits P.inner)

pub emit_writes : {A : Type 0} {a : A} {t : List Token} {y b : List ℕ} (m : Syntax A) (r x : List ℕ) (at : ℕ) → emit m r x at ≡ wrote a t y b → Writes m r x at a t y b
unfolding emit
emit_writes (field w plus k) r [] at e = not_wrote e
emit_writes (field w plus k) r (v ∷ x) at e =
    let G = guard_wrote (leb plus v) _ e in
    let H = guard_wrote (ltb (v - plus) (2 ^ w)) _ G.1 in
    put_writes (number v ∷ []) (bits_of w (v - plus)) (emit (k v) r x (at + w)) H.1 λ l d i.
    write_field (leb-true plus v G.0) (ltb-true (v - plus) (2 ^ w) H.0) (emit_writes (k v) r x (at + w) i)
emit_writes (code plus k) r [] at e = not_wrote e
emit_writes (code plus k) r (v ∷ x) at e =
    let next : ℕ = at + length (code_of (v - plus)) in
    let G = guard_wrote (leb plus v) _ e in
    let H = guard_wrote (ltb (v - plus) 4294967295) _ G.1 in
    put_writes (number v ∷ []) (code_of (v - plus)) (emit (k v) r x next) H.1 λ l d i.
    write_code (leb-true plus v G.0) (ltb-true (v - plus) 4294967295 H.0) (emit_writes (k v) r x next i)
emit_writes (late w find k) r x at e =
    let v : ℕ = find r x in
    let G = guard_wrote (ltb v (2 ^ w)) _ e in
    put_writes [] (bits_of w v) (emit (k v) r x (at + w)) G.1 λ l d i. write_late (ltb-true v (2 ^ w) G.0) (emit_writes (k v) r x (at + w) i)
emit_writes (keep u m) r [] at e = not_wrote e
emit_writes (keep u m) r (v ∷ x) at e =
    let G = guard_wrote (eqb v u) _ e in
    rw (eqb-true v u G.0) (put_writes (number u ∷ []) [] (emit m r x at) G.1 λ l d i. write_keep (emit_writes m r x at i))
emit_writes (mark m) r x at e = put_writes (section ∷ []) [] (emit m r x at) e λ l d i. write_mark (emit_writes m r x at i)
emit_writes (align n m) r x at e = put_writes [] (replicate (to_boundary at) 0) (emit m r x (at + to_boundary at)) e λ l d i. write_align (emit_writes m r x (at + to_boundary at) i)
emit_writes (test true m n) r x at e = write_first (emit_writes m r x at e)
emit_writes (test false m n) r x at e = write_second (emit_writes n r x at e)
emit_writes (refuse n) r x at e = not_wrote e
emit_writes {a} {t} {y} {b} (done c) r x at e =
    let i : c ≡ a = cc in
    let j : [] ≡ t = cc in
    let l : x ≡ y = cc in
    let o : [] ≡ b = cc in
    rw (← i, ← j, ← l, ← o) write_done

pub open_guard : {A : Type 0} {W X : Written A} (c : Bool) → c ≡ true → W ≡ X → elim c as (λ d. Written A) [ true ↦ W | false ↦ bad ] ≡ X
open_guard true e h = h
open_guard false e h = absurd (let n : ◌≡◌ {A = ℕ} 0 1 = cc in omega arith)

pub writes_emit : {A : Type 0} {m : Syntax A} {r x : List ℕ} {at : ℕ} {a : A} {t : List Token} {y b : List ℕ} → Writes m r x at a t y b → emit m r x at ≡ wrote a t y b
unfolding emit putting
writes_emit (write_field {w} {plus} {v} l f W) =
    open_guard (leb plus v) (le-leb plus v l) (open_guard (ltb (v - plus) (2 ^ w)) (lt-ltb (v - plus) (2 ^ w) f) (ap (putting (number v ∷ []) (bits_of w (v - plus))) (writes_emit W)))
writes_emit (write_code {plus} {v} l f W) =
    open_guard (leb plus v) (le-leb plus v l) (open_guard (ltb (v - plus) 4294967295) (lt-ltb (v - plus) 4294967295 f) (ap (putting (number v ∷ []) (code_of (v - plus))) (writes_emit W)))
writes_emit (write_late {w} {find} {r} {x} f W) = open_guard (ltb (find r x) (2 ^ w)) (lt-ltb (find r x) (2 ^ w) f) (ap (putting [] (bits_of w (find r x))) (writes_emit W))
writes_emit (write_keep {v} W) = open_guard (eqb v v) (eq-eqb v v refl) (ap (putting (number v ∷ []) []) (writes_emit W))
writes_emit (write_mark W) = ap (putting (section ∷ []) []) (writes_emit W)
writes_emit (write_align {at} W) = ap (putting [] (replicate (to_boundary at) 0)) (writes_emit W)
writes_emit (write_first W) = writes_emit W
writes_emit (write_second W) = writes_emit W
writes_emit write_done = refl

-- a late field that is found as v
pub write_late_as : {A : Type 0} {w v : ℕ} {find : List ℕ → List ℕ → ℕ} {k : ℕ → Syntax A} {r x : List ℕ} {at : ℕ} {a : A} {t : List Token} {y b : List ℕ} → find r x ≡ v → v < 2 ^ w
    → Writes (k v) r x (at + w) a t y b → Writes (late w find k) r x at a t y (bits_of w v ++ b)
write_late_as {w} {find} {k} {r} {x} {at} {a} {t} {y} {b} e f W =
    subst (λ (v : ℕ). v < 2 ^ w → Writes (k v) r x (at + w) a t y b → Writes (late w find k) r x at a t y (bits_of w v ++ b)) e write_late f W
