-- How long a record can be: a coded number takes at least one bit of its own, and the others are few.
use Rattle.std.specs.Prelude.{ℕ, zero, suc, ◌+◌, ◌*◌, ◌-◌, ◌≤◌, ◌≡◌, refl, List, [], ◌∷◌, Bool, true, false, leb, eqb, length}
use Rattle.std.proofs.Common.{ap, ◌∙◌, arith, leb-true, le-leb, length-append}
use Rattle.bits.specs.Bits.{field_at, to_boundary}
use Rattle.bits.specs.Code.{code_at}
use Rattle.bits.specs.CodeLaws.{code_length, code_whole}
use Rattle.vps_definition.specs.Syntax.{Syntax, Token, numbers, starts, keeping, run}
use Rattle.vps_definition.specs.Syntax.Syntax.{field, code, late, keep, mark, align, test, refuse, done}
use Rattle.vps_definition.specs.Syntax.Token.{number, section}
use Rattle.vps_definition.specs.Syntax.Outcome.{accepted}
use Rattle.vps_definition.specs.Words.{u, u_minus1, ue, ue_minus1, inferred, u_if, ue_if, general, general_if, check, nothing, when, aligned, keeps}
use Rattle.vps_definition.specs.OutputLayerSets.{Sets, digit, count_below}
use Rattle.vps_definition.specs.Vps.{no_rows}
use Rattle.vps_definition.specs.Record.{record_of}
use Rattle.vps_definition.specs.Reading.{most_rbsp_bytes}
use Rattle.vps_laws.specs.Inversion.{not_accepted, keeping_accepted, guard_accepted, code_accepted}
use Rattle.vps_laws.specs.Reading.{run_grows}
use Rattle.vps_laws.specs.Accepted.{record_parts}

-- the tokens kept are at most the bits taken and c more; each is a number of the record
pub record Costs {A : Type 0} (c : ℕ) (m : Syntax A) : Type 0 where
  pub holds : {a : A} {t : List Token} {next : ℕ} (s : List ℕ) (at : ℕ) → run m s at ≡ accepted a t next → length t + at ≤ next + c

-- ── The steps of a table ──────────────────────────────────────────────
pub costs_so : {A : Type 0} {b c : ℕ} {m : Syntax A} → Costs b m → b ≤ c → Costs c m
costs_so M l = record { holds = λ s at e. omega (arith, M.holds s at e) }

pub costs_field : {A : Type 0} {c w plus : ℕ} {k : ℕ → Syntax A} → leb 1 w ≡ true → ((v : ℕ) → Costs c (k v)) → Costs c (field w plus k)
unfolding run
costs_field {w = w} {plus = plus} {k = k} l K = record {
  holds = λ s at e.
      let v : ℕ = field_at s at w + plus in
      let E = keeping_accepted (number v) (run (k v) s (at + w)) e in
      rw E.all (omega (arith, leb-true 1 w l, (K v).holds s (at + w) E.inner));
}

costs_code : {A : Type 0} {c plus : ℕ} {k : ℕ → Syntax A} → ((v : ℕ) → Costs c (k v)) → Costs c (code plus k)
unfolding run
costs_code {plus = plus} {k = k} K = record {
  holds = λ s at e.
      let C = code_accepted (code_at s at) (λ v next. keeping (number (v + plus)) (run (k (v + plus)) s next)) e in
      let v : ℕ = C.value + plus in
      let E = keeping_accepted (number v) (run (k v) s C.behind) C.inner in
      let g = run_grows (k v) s C.behind E.inner in
      let b = (code_whole s at C.value C.behind C.is).behind in
      rw E.all (omega (arith, code_length C.value, (K v).holds s C.behind E.inner));
}

pub costs_late : {A : Type 0} {c w : ℕ} {find : List ℕ → List ℕ → ℕ} {k : ℕ → Syntax A} → ((v : ℕ) → Costs c (k v)) → Costs c (late w find k)
unfolding run
costs_late {w = w} K = record { holds = λ s at e. omega (arith, (K (field_at s at w)).holds s (at + w) e) }

pub costs_keep : {A : Type 0} {c v : ℕ} {m : Syntax A} → leb 1 c ≡ true → Costs (c - 1) m → Costs c (keep v m)
unfolding run
costs_keep {c = c} {v = v} {m = m} l M = record {
  holds = λ s at e. let E = keeping_accepted (number v) (run m s at) e in rw E.all (omega (arith, leb-true 1 c l, M.holds s at E.inner));
}

pub costs_mark : {A : Type 0} {c : ℕ} {m : Syntax A} → leb 1 c ≡ true → Costs (c - 1) m → Costs c (mark m)
unfolding run
costs_mark {c = c} {m = m} l M = record {
  holds = λ s at e. let E = keeping_accepted section (run m s at) e in rw E.all (omega (arith, leb-true 1 c l, M.holds s at E.inner));
}

costs_align : {A : Type 0} {c : ℕ} (n : ℕ) {m : Syntax A} → Costs c m → Costs c (align n m)
unfolding run
costs_align zero M = record { holds = λ s at e. omega (arith, M.holds s (at + to_boundary at) e) }
costs_align (suc n) {m} M = record {
  holds = λ s at e.
      omega (arith, M.holds s (at + to_boundary at) (guard_accepted (eqb (field_at s at (to_boundary at)) 0) (suc n) (run m s (at + to_boundary at)) e).1);
}

pub costs_test : {A : Type 0} {c : ℕ} (b : Bool) {m n : Syntax A} → Costs c m → Costs c n → Costs c (test b m n)
unfolding run
costs_test true M N = record { holds = λ s at e. M.holds s at e }
costs_test false M N = record { holds = λ s at e. N.holds s at e }

costs_refuse : {A : Type 0} {c n : ℕ} → Costs {A = A} c (refuse n)
unfolding run
costs_refuse = record { holds = λ s at e. not_accepted e }

pub done_read : {A : Type 0} {a b : A} {t : List Token} {at next : ℕ} → accepted a [] at ≡ accepted b t next → (a ≡ b) × (t ≡ []) × (at ≡ next)
done_read e = (cc, cc, cc)

pub costs_done : {A : Type 0} {c : ℕ} {a : A} → Costs c (done a)
unfolding run
costs_done = record { holds = λ s at e. let E = done_read e in rw E.1 (omega (arith, E.2)) }

-- ── The words of a table ──────────────────────────────────────────────
-- a coded number costs nothing
pub costs_u : (w : ℕ) → leb 1 w ≡ true → Costs 0 (u w)
unfolding u
costs_u w l = costs_field l (λ v. costs_done)

pub costs_u_minus1 : (w : ℕ) → leb 1 w ≡ true → Costs 0 (u_minus1 w)
unfolding u_minus1
costs_u_minus1 w l = costs_field l (λ v. costs_done)

pub costs_ue : Costs 0 ue
unfolding ue
costs_ue = costs_code (λ v. costs_done)

pub costs_ue_minus1 : Costs 0 ue_minus1
unfolding ue_minus1
costs_ue_minus1 = costs_code (λ v. costs_done)

pub costs_general : (i w : ℕ) → Costs 0 (general i w)
unfolding general
costs_general i w = costs_late (λ v. costs_done)

pub costs_general_if : (b : Bool) (i w v : ℕ) → Costs 0 (general_if b i w v)
unfolding general_if
costs_general_if b i w v = costs_test b (costs_general i w) costs_done

pub costs_check : (b : Bool) (n : ℕ) → Costs 0 (check b n)
unfolding check
costs_check b n = costs_test b costs_done costs_refuse

pub costs_nothing : Costs 0 nothing
unfolding nothing
costs_nothing = costs_done

pub costs_aligned : (n : ℕ) → Costs 0 (aligned n)
unfolding aligned
costs_aligned n = costs_align n costs_nothing

pub costs_when : {c : ℕ} (flag : ℕ) {m : Syntax (Unit {0})} → Costs c m → Costs c (when flag m)
unfolding when nothing
costs_when flag M = costs_test (eqb flag 0) costs_done M

-- an inferred one costs one
pub costs_inferred : (v : ℕ) → Costs 1 (inferred v)
unfolding inferred
costs_inferred v = costs_keep refl costs_done

pub costs_u_if : (b : Bool) (w v : ℕ) → leb 1 w ≡ true → Costs 1 (u_if b w v)
unfolding u_if u
costs_u_if b w v l = costs_test b (costs_field l (λ v. costs_done)) (costs_inferred v)

pub costs_ue_if : (b : Bool) (v : ℕ) → Costs 1 (ue_if b v)
unfolding ue_if ue
costs_ue_if b v = costs_test b (costs_code (λ v. costs_done)) (costs_inferred v)

pub costs_keeps : (l : List ℕ) → Costs (length l) (keeps l)
unfolding keeps nothing
costs_keeps [] = costs_done
costs_keeps (v ∷ l) = costs_keep (le-leb 1 (suc (length l)) (omega arith)) (costs_so (costs_keeps l) (omega arith))

pub costs_no_rows : (sets : Sets) → Costs 1 (no_rows sets)
unfolding no_rows
costs_no_rows sets = costs_keep refl costs_done

-- ── Profile, tier, level ──────────────────────────────────────────────
-- the result is a list of numbers that are coded ahead of their place: at least one bit for each
pub record Gathers (m : Syntax (List ℕ)) : Type 0 where
  pub holds : {l : List ℕ} {t : List Token} {next : ℕ} (s : List ℕ) (at : ℕ) → run m s at ≡ accepted l t next → length t + length l + at ≤ next

pub gathers_none : Gathers (done [])
unfolding run
gathers_none = record { holds = λ s at e. let E = done_read e in rw (← E.0, E.1) (omega (arith, E.2)) }

pub count_most : (n : ℕ) (p : ℕ → Bool) → count_below n p ≤ n
unfolding count_below
count_most zero p = omega arith
count_most (suc n) p = go (p 0) (count_most n (λ j. p (suc j)))
  where
    go : (b : Bool) → count_below n (λ j. p (suc j)) ≤ n → digit b + count_below n (λ j. p (suc j)) ≤ suc n
    go true h = omega arith
    go false h = omega arith

-- each token is a number of the record: a number is itself, and a section is its start in the trailer
pub tokens_length : (at : ℕ) (t : List Token) → length (numbers t) + length (starts at t) ≡ length t
unfolding numbers starts
tokens_length at [] = refl
tokens_length at (number v ∷ t) = omega (arith, tokens_length (at + 1) t)
tokens_length at (section ∷ t) = omega (arith, tokens_length at t)

-- beside them the General section, the extension with its count, and the total length
pub record_numbers : (general : List ℕ) (t : List Token) (e : List ℕ) → length (record_of general t e) ≡ length general + length t + length e + 2
record_numbers general t e = ap length (record_parts general t e) ∙ simp length-append (omega (arith, tokens_length 9 t))

-- the numbers that take no bit of their own are at most so many: the table's, nine of General, the extension's count and the
-- total length, less one for the stop bit
abbrev pub most_uncoded : ℕ
most_uncoded = 11575

-- so a record has at most 535,855 numbers
abbrev pub most_record_numbers : ℕ
most_record_numbers = 8 * most_rbsp_bytes + most_uncoded
