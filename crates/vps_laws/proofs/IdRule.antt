-- Id 0: the answer where it is refused beside that of the same rules where it is taken.
use Rattle.std.specs.Prelude.{ℕ, zero, suc, ◌+◌, ◌^◌, ◌<◌, ◌≡◌, refl, List, [], Bool, true, false, ltb, get_or, drop}
use Rattle.std.proofs.Common.{sym, ap, ◌∙◌, arith, leb-true, ltb-true, ltb-false, lt-ltb}
use Rattle.std.proofs.Math.Path.{subst⁻¹}
use Rattle.std.proofs.lemmas.Bool.{le-ltb}
use Rattle.refusals.specs.Number.{unit_too_short, rbsp_too_long, sublayers_reserved, timing_index, stop_bit_missing, alignment_bit_one, id_zero}
use Rattle.stuffing.specs.Stuffing.{unstuff}
use Rattle.bits.specs.Bits.{bits_of, field_at}
use Rattle.vps_definition.specs.Rules.{Rules, refusing_id, taking_id}
use Rattle.vps_definition.specs.Syntax.{Syntax, ◌>>=◌, Token, Outcome, run, Written, putting, emit}
use Rattle.vps_definition.specs.Syntax.Syntax.{late, test, refuse}
use Rattle.vps_definition.specs.Syntax.Outcome.{accepted, refused}
use Rattle.vps_definition.specs.Syntax.Written.{bad}
use Rattle.vps_definition.specs.Words.{general, check, ruled}
use Rattle.vps_definition.specs.Views.{header_of}
use Rattle.vps_definition.specs.Vps.{Header, header_under, vps_under}
use Rattle.vps_definition.specs.Reading.{Reading, closed, read_rbsp_under, read_unit_under}
use Rattle.vps_definition.specs.Reading.Reading.{accepts, refuses}
use Rattle.vps_definition.specs.Writing.{finished, write_record_under, well_formed_under}
use Rattle.vps_laws.specs.Bind.{then_read, then_write, emit_bind}
use Rattle.vps_laws.proofs.Bind.{run_bind, run_bound}
use Rattle.vps_laws.specs.Keeps.{Returns, keeps_done}
use Rattle.vps_laws.proofs.Keeps.{returns_bind}
use Rattle.vps_laws.specs.Units.{not_accepts}
use Rattle.vps_laws.proofs.Units.{written_read}
use Rattle.vps_laws.specs.Claims.{accepted_reads, well_formed_written}
use Rattle.vps_laws.specs.Order.{table_before_end}
use Rattle.vps_laws.proofs.Order.{first_refusal}
use Rattle.vps_laws.specs.Says.{Among, TableSaid, ReadingSays, unit_says}
use Rattle.vps_laws.proofs.Says.{rbsp_says}
use Rattle.vps_laws.specs.Compared.{unit_both}
use Rattle.vps_laws.proofs.Views.{accepted_viewed}

-- ── The first fields ──────────────────────────────────────────────────
failed : {A : Type 0} (b : Bool) (m : Syntax A) (n : ℕ) (s : List ℕ) (at : ℕ) → b ≡ false → run (test b m (refuse n)) s at ≡ refused n []
unfolding run
failed b m n s at e = rw e refl

passed : {A : Type 0} (b : Bool) (m n : Syntax A) (s : List ℕ) (at : ℕ) → b ≡ true → run (test b m n) s at ≡ run m s at
unfolding run
passed b m n s at e = rw e refl

header_refuses : (rules : Rules) (s : List ℕ) → field_at s 0 4 ≡ 0 → run (header_under (refusing_id rules)) s 0 ≡ refused id_zero []
unfolding run header_under general ruled check ◌>>=◌
header_refuses rules s e = failed (ltb 0 (field_at s 0 4)) _ id_zero s _ (le-ltb 0 (field_at s 0 4) (omega (arith, e)))

header_same : (rules : Rules) (s : List ℕ) → 0 < field_at s 0 4 → run (header_under (refusing_id rules)) s 0 ≡ run (header_under (taking_id rules)) s 0
unfolding run header_under general ruled check ◌>>=◌
header_same rules s l = passed (ltb 0 (field_at s 0 4)) _ _ s _ (lt-ltb 0 (field_at s 0 4) l)

-- ── An RBSP ───────────────────────────────────────────────────────────
-- first tables that are read alike, or written alike, and the same behind them
same_first : {A B : Type 0} (m n : Syntax A) (f : A → Syntax B) (s : List ℕ) (at : ℕ) → run m s at ≡ run n s at → run (m >>= f) s at ≡ run (n >>= f) s at
same_first {A} m n f s at e = run_bind m f s at ∙ ap (λ (R : Outcome A). then_read R (λ a next. run (f a) s next)) e ∙ sym (run_bind n f s at)

same_written : {A B : Type 0} (m n : Syntax A) (f : A → Syntax B) (r x : List ℕ) (at : ℕ) → emit m r x at ≡ emit n r x at → emit (m >>= f) r x at ≡ emit (n >>= f) r x at
same_written {A} m n f r x at e = emit_bind m f r x at ∙ ap (λ (W : Written A). then_write at W (λ a y next. emit (f a) r y next)) e ∙ sym (emit_bind n f r x at)

pub rbsp_refuses : (rules : Rules) (s : List ℕ) → field_at s 0 4 ≡ 0 → read_rbsp_under (refusing_id rules) s ≡ refuses id_zero
unfolding vps_under
rbsp_refuses rules s e = table_before_end (refusing_id rules) s (first_refusal (header_under (refusing_id rules)) _ s 0 (header_refuses rules s e))

rbsp_same : (rules : Rules) (s : List ℕ) → 0 < field_at s 0 4 → read_rbsp_under (refusing_id rules) s ≡ read_rbsp_under (taking_id rules) s
unfolding read_rbsp_under vps_under
rbsp_same rules s l = ap (closed s) (same_first (header_under (refusing_id rules)) (header_under (taking_id rules)) _ s 0 (header_same rules s l))

-- the answer beside that of before: the same, or 34, and then the id is 0
pub data IdMoved (s : List ℕ) : (now before : Reading) → Type 0 where
  id_same : {R : Reading} → IdMoved s R R
  id_refused : {R : Reading} → field_at s 0 4 ≡ 0 → IdMoved s (refuses id_zero) R

rbsp_moved : (rules : Rules) (s : List ℕ) → IdMoved s (read_rbsp_under (refusing_id rules) s) (read_rbsp_under (taking_id rules) s)
rbsp_moved rules s = go (ltb 0 (field_at s 0 4)) refl
  where
    go : (b : Bool) → ltb 0 (field_at s 0 4) ≡ b → IdMoved s (read_rbsp_under (refusing_id rules) s) (read_rbsp_under (taking_id rules) s)
    go true e = subst⁻¹ (λ (R : Reading). IdMoved s R (read_rbsp_under (taking_id rules) s)) (rbsp_same rules s (ltb-true 0 (field_at s 0 4) e)) id_same
    go false e =
        let z : field_at s 0 4 ≡ 0 = omega (arith, ltb-false 0 (field_at s 0 4) e) in
        subst⁻¹ (λ (R : Reading). IdMoved s R (read_rbsp_under (taking_id rules) s)) (rbsp_refuses rules s z) (id_refused z)

-- ── A record ──────────────────────────────────────────────────────────
late_written : {A : Type 0} (w : ℕ) (find : List ℕ → List ℕ → ℕ) (k k' : ℕ → Syntax A) (r x : List ℕ) (at : ℕ) → emit (k (find r x)) r x (at + w) ≡ emit (k' (find r x)) r x (at + w)
    → emit (late w find k) r x at ≡ emit (late w find k') r x at
unfolding emit
late_written {A} w find k k' r x at e = ap (λ (W : Written A). elim (ltb (find r x) (2 ^ w)) as (λ d. Written A) [ true ↦ putting [] (bits_of w (find r x)) W | false ↦ bad ]) e

passed_written : {A : Type 0} (b : Bool) (m n : Syntax A) (r x : List ℕ) (at : ℕ) → b ≡ true → emit (test b m n) r x at ≡ emit m r x at
unfolding emit
passed_written b m n r x at e = rw e refl

written_same : (rules : Rules) (r x : List ℕ) (at : ℕ) → 0 < get_or r 1 0 → emit (header_under (refusing_id rules)) r x at ≡ emit (header_under (taking_id rules)) r x at
unfolding header_under general ruled check ◌>>=◌
written_same rules r x at l =
    late_written 4 _ _ _ r x at (late_written 6 _ _ _ r x (at + 4) (late_written 3 _ _ _ r x (at + 4 + 6) (passed_written (ltb 0 (get_or r 1 0)) _ _ r x (at + 4 + 6 + 3) (lt-ltb 0 (get_or r 1 0) l))))

pub record_same : (rules : Rules) (r : List ℕ) → 0 < get_or r 1 0 → write_record_under (refusing_id rules) r ≡ write_record_under (taking_id rules) r
unfolding write_record_under vps_under
record_same rules r l = ap (finished r) (same_written (header_under (refusing_id rules)) (header_under (taking_id rules)) _ r (drop 9 r) 0 (written_same rules r (drop 9 r) 0 l))

-- ── A unit ────────────────────────────────────────────────────────────
pub id_moved : (rules : Rules) (u : List ℕ) → IdMoved (unstuff (drop 2 u)) (read_unit_under (refusing_id rules) u) (read_unit_under (taking_id rules) u)
id_moved rules u = unit_both IdMoved (λ s R. id_same) (read_rbsp_under (refusing_id rules)) (read_rbsp_under (taking_id rules)) (rbsp_moved rules) u

general_value : (i w : ℕ) {v : ℕ} {t : List Token} {next : ℕ} (s : List ℕ) (at : ℕ) → run (general i w) s at ≡ accepted v t next → v ≡ field_at s at w
unfolding run general
general_value i w s at e = cc

-- of two tables in a row, what holds of the result behind each result of the first
by_first : {A B : Type 0} {b : B} {t : List Token} {next : ℕ} (Q : A → B → Type 0) (m : Syntax A) (f : A → Syntax B) (s : List ℕ) (at : ℕ) → ((a : A) → Returns (Q a) (f a))
    → run (m >>= f) s at ≡ accepted b t next → (a : A) × (u : List Token) × (q : ℕ) × (run m s at ≡ accepted a u q) × Q a b
by_first Q m f s at F e = let B = run_bound m f s at e in (B.result, B.before, B.middle, B.first, (F B.result).holds s B.middle B.second)

header_id : (rules : Rules) (s : List ℕ) {h : Header} {t : List Token} {next : ℕ} → run (header_under rules) s 0 ≡ accepted h t next → h.id ≡ field_at s 0 4
unfolding header_under
header_id rules s e =
    let B = by_first (λ v (h : Header). h.id ≡ v) (general 1 4) _ s 0 (λ v. returns_bind _ λ n. returns_bind _ λ top. returns_bind _ λ c. returns_bind _ λ d. returns_bind _ λ a. keeps_done refl) e in
    B.4 ∙ general_value 1 4 s 0 B.3

-- the id of an accepted record is the first four bits
pub accepted_id : (rules : Rules) (u r : List ℕ) (n : ℕ) → read_unit_under rules u ≡ accepts r n → get_or r 1 0 ≡ field_at (unstuff (drop 2 u)) 0 4
unfolding header_of
accepted_id rules u r n e = let V = accepted_viewed rules u r n e in ap (λ (h : Header). h.id) V.seen.header_is ∙ header_id rules (unstuff (drop 2 u)) V.read.header_read

-- ── 34 was no answer ──────────────────────────────────────────────────
abbrev pub Another : ℕ → Type 0
Another k = k ≡ id_zero → ⊥

others : (first last : ℕ) → last < id_zero → Among Another first last
others first last l = record { each = λ k e f. record { is = λ q. omega (arith, q, l, leb-true k last f) } }

taking_others : (rules : Rules) → TableSaid Another (taking_id rules)
taking_others rules = record { table = others sublayers_reserved timing_index (omega arith); id = λ e. absurd (let n : ◌≡◌ {A = ℕ} 0 1 = cc in omega arith) }

pub unit_other : (rules : Rules) (u : List ℕ) → ReadingSays Another (read_unit_under (taking_id rules) u)
unit_other rules =
    unit_says Another (read_rbsp_under (taking_id rules)) (others unit_too_short rbsp_too_long (omega arith))
    (rbsp_says (taking_id rules) (taking_others rules) (record { is = λ q. omega (arith, q) }) (others stop_bit_missing alignment_bit_one (omega arith)))

-- ── What is accepted and well formed ──────────────────────────────────
positive : (n : ℕ) → (n ≡ 0 → ⊥) → 0 < n
positive zero h = absurd (h refl)
positive (suc n) h = omega arith

pub accepted_was : (rules : Rules) (u r : List ℕ) (n : ℕ) → read_unit_under (refusing_id rules) u ≡ accepts r n → (read_unit_under (taking_id rules) u ≡ accepts r n) × (0 < get_or r 1 0)
accepted_was rules u r n e = go (id_moved rules u) e
  where
    -- with id 0 the RBSP is refused
    no_zero : get_or r 1 0 ≡ 0 → ⊥
    no_zero z = not_accepts (sym (rbsp_refuses rules (unstuff (drop 2 u)) (sym (accepted_id (refusing_id rules) u r n e) ∙ z)) ∙ accepted_reads (refusing_id rules) u r n e)

    go : {R S : Reading} → IdMoved (unstuff (drop 2 u)) R S → R ≡ accepts r n → (S ≡ accepts r n) × (0 < get_or r 1 0)
    go id_same f = (f, positive (get_or r 1 0) no_zero)
    go (id_refused z) f = not_accepts f

pub accepted_is : (rules : Rules) (u r : List ℕ) (n : ℕ) → (read_unit_under (taking_id rules) u ≡ accepts r n) × (0 < get_or r 1 0) → read_unit_under (refusing_id rules) u ≡ accepts r n
accepted_is rules u r n e = go (id_moved rules u) e.0
  where
    go : {R S : Reading} → IdMoved (unstuff (drop 2 u)) R S → S ≡ accepts r n → R ≡ accepts r n
    go id_same f = f
    go (id_refused z) f = absurd (omega (arith, z, e.1, accepted_id (taking_id rules) u r n e.0))

pub some_id : (rules : Rules) (r : List ℕ) → well_formed_under (refusing_id rules) r ≡ true → 0 < get_or r 1 0
some_id rules r h = let W = well_formed_written (refusing_id rules) r h in (accepted_was rules W.0 r _ (written_read (refusing_id rules) r W.0 W.1)).1

pub ill_formed_of_zero : (rules : Rules) (r : List ℕ) → get_or r 1 0 ≡ 0 → well_formed_under (refusing_id rules) r ≡ false
ill_formed_of_zero rules r z = go (well_formed_under (refusing_id rules) r) refl
  where
    go : (b : Bool) → well_formed_under (refusing_id rules) r ≡ b → b ≡ false
    go true e = absurd (omega (arith, z, some_id rules r e))
    go false e = refl
