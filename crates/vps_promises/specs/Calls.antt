-- Calls of parse_vps and write_vps_nal, by their contracts: a call is what went in, what it answered and what it left.
use Rattle.std.specs.Prelude.{ℕ, ◌+◌, ◌/◌, ◌≤◌, ◌<◌, List, [], ◌∷◌, ◌++◌, Bool, eqb, length, take, drop, Result}
use Rattle.std.proofs.Math.Path.{◌≡◌, refl, ap, subst⁻¹}
use Rattle.std.proofs.Common.{sym, ◌∙◌, subst, arith, length-append, length-drop}
use Rattle.std.proofs.Math.Bool.{true, false, cond}
use borrow.Author.Tests.{leb-true, leb-false, le-leb, lt-leb}
use Rattle.std.proofs.Math.Dec.{leb}
use Rattle.std.proofs.Math.Seq.{take-append_seam, drop-append_seam}
use Rattle.refusals.specs.Answer.{Answer}
use Rattle.refusals.specs.Answer.Answer.{success, refusal}
use Rattle.refusals.specs.Number.{unit_too_short, not_a_vps, rbsp_too_long, work_too_short, sublayers_reserved, timing_index, stop_bit_missing, alignment_bit_one, record_too_short, not_well_formed, output_too_short}
use Rattle.refusals.specs.Lent.{lent, output_after}
use Rattle.lists.specs.Stored.{overlaid}
use Rattle.stuffing.specs.Stuffing.{unstuff}
use Rattle.vps_definition.specs.Rules.{today}
use Rattle.vps_definition.specs.Reading.{Reading, read_rbsp, limited_by, unit_by, read_unit, most_rbsp_bytes, vps_nut}
use Rattle.vps_definition.specs.Reading.Reading.{accepts, refuses}
use Rattle.vps_definition.specs.Writing.{write_record, well_formed}
use Rattle.vps_laws.specs.Claims.{refused_ill_formed}
use Rattle.vps_laws.specs.Records.{ill_formed_refused}
use Rattle.vps_laws.specs.Says.{Among, ReadingSays}
use Rattle.vps_laws.proofs.Says.{rbsp_says}
use Rattle.vps_reader.specs.Parse.{Parse, parse_number, parse_values, untouched, parse_of, record_after, parse_rbsp, parse_payload, parse_unit}
use Rattle.vps_reader.specs.Parse as Parse
use Rattle.vps_reader.specs.Parse.Parse.{accepted, too_short, refused}
use Rattle.vps_reader.specs.Answers.{parsed_answer, Gives}
use Rattle.refusals.specs.declared.refusal.Refusal.{Refusal}
use Rattle.vps_reader.specs.declared.parsed.Parsed.{Parsed}
use Rattle.vps_reader.specs.declared.parsed.NotParsed.{NotParsed}
use Rattle.vps_writer.specs.Write.{written_answer, write_of, output_of, Writes}

-- ── Calls ─────────────────────────────────────────────────────────────
-- parse_vps on a unit, whatever the buffers held
pub record ReadCall (u : List ℕ) : Type 0 where
  pub work : List ℕ
  pub rec : List ℕ
  pub answer : Result Parsed NotParsed
  pub work_after : List ℕ
  pub rec_after : List ℕ
  pub gives : Gives (parse_unit u work rec) answer work_after rec_after

-- the number that it said, and the values
abbrev pub said : {u : List ℕ} → ReadCall u → ℕ
said c = parse_number (parsed_answer c.answer)

abbrev pub values : {u : List ℕ} → ReadCall u → List ℕ
values c = parse_values (parsed_answer c.answer)

-- with long enough buffers: the work buffer for the unit's RBSP, the record buffer for an accepted unit's record
pub record ReadRoom {u : List ℕ} (c : ReadCall u) : Type 0 where
  pub for_rbsp : length (unstuff (drop 2 u)) ≤ length c.work
  pub for_record : (r : List ℕ) (n : ℕ) → read_unit u ≡ accepts r n → length r ≤ length c.rec

-- it succeeded with n bits used, and the list up to the length reported is r
pub record Reads {u : List ℕ} (c : ReadCall u) (r : List ℕ) (n : ℕ) : Type 0 where
  pub numbered : said c ≡ 0
  pub valued : values c ≡ length r ∷ n ∷ []
  pub is : take (length r) c.rec_after ≡ r

-- it refused with k
pub record Refuses {u : List ℕ} (c : ReadCall u) (k : ℕ) : Type 0 where
  pub some : 1 ≤ k
  pub numbered : said c ≡ k

-- it found the record too short, which needs so many numbers
pub record Needs {u : List ℕ} (c : ReadCall u) (needed : ℕ) : Type 0 where
  pub numbered : said c ≡ record_too_short
  pub valued : values c ≡ needed ∷ []

-- the numbers of the checks before the RBSP is read
abbrev pub Early : ℕ → Type 0
Early k = (unit_too_short ≤ k) × (k ≤ work_too_short)

-- write_vps_nal on a record, whatever the output held
pub record WriteCall (r : List ℕ) : Type 0 where
  pub out : List ℕ
  pub answer : Result ℕ Refusal
  pub out_after : List ℕ
  pub gives : Writes r out answer out_after

-- with a long enough output: it has room for the bytes of a well-formed record
abbrev pub WriteRoom : {r : List ℕ} → WriteCall r → Type 0
WriteRoom {r} c = (u : List ℕ) → write_record r ≡ success u → length u ≤ length c.out

-- it succeeded, and the bytes up to the number reported are u
pub record Puts {r : List ℕ} (c : WriteCall r) (u : List ℕ) : Type 0 where
  pub answered : written_answer c.answer ≡ success (length u)
  pub is : take (length u) c.out_after ≡ u

-- ── Numbers over the beginning of a lent slice ────────────────────────
pub behind_left : (x lent : List ℕ) {after : List ℕ} → length x ≤ length lent → after ≡ overlaid x lent → (length after ≡ length lent) × (drop (length x) after ≡ drop (length x) lent)
behind_left x lent l e = (
  omega (arith, ap length e, length-append x (drop (length x) lent), length-drop (length x) lent, l),
  ap (drop (length x)) e ∙ drop-append_seam x (drop (length x) lent),
)

-- ── The reader and its definition ─────────────────────────────────────
pub not_accepted : {A : Type 0} {k m n : ℕ} → refused k ≡ accepted m n → A
not_accepted e = absurd (let n : ◌≡◌ {A = ℕ} 0 1 = cc in omega arith)

not_accepts : {A : Type 0} {k n : ℕ} {r : List ℕ} → refuses k ≡ accepts r n → A
not_accepts e = absurd (let n : ◌≡◌ {A = ℕ} 0 1 = cc in omega arith)

-- success by number and values, and the answer that it is
valued_accepted : (x : Parse) {m n : ℕ} → parse_values x ≡ m ∷ n ∷ [] → x ≡ accepted m n
valued_accepted (accepted a b) {m} {n} e = let i : a ≡ m = cc in let j : b ≡ n = cc in λ t. accepted (i t) (j t)
valued_accepted (too_short a) e = absurd (let n : ◌≡◌ {A = ℕ} 0 1 = cc in omega arith)
valued_accepted (refused k) e = absurd (let n : ◌≡◌ {A = ℕ} 0 1 = cc in omega arith)

module _ (u work rec : List ℕ) where
  -- how a call goes: refused by one of the first three checks, refused by the fourth, or as the RBSP is read
  data Way : Type 0 where
    early : (k : ℕ) → (unit_too_short ≤ k) × (k < work_too_short) → read_unit u ≡ refuses k → parse_unit u work rec ≡ untouched k work rec → Way
    narrow : length work < length (unstuff (drop 2 u)) → parse_unit u work rec ≡ untouched work_too_short work rec → Way
    whole : length (unstuff (drop 2 u)) ≤ length work → read_unit u ≡ read_rbsp (unstuff (drop 2 u)) → parse_unit u work rec ≡ parse_rbsp (unstuff (drop 2 u)) work rec → Way

way : (u work rec : List ℕ) → Way u work rec
unfolding parse_unit unit_by parse_payload limited_by
way [] work rec = early unit_too_short (omega arith, omega arith) refl refl
way (a ∷ []) work rec = early unit_too_short (omega arith, omega arith) refl refl
way (a ∷ b ∷ s) work rec = typed (eqb (b / 8) vps_nut) refl
  where
    x : List ℕ
    x = unstuff s

    room : (c : Bool) → leb (length x) (length work) ≡ c → eqb (b / 8) vps_nut ≡ true → leb (length x) most_rbsp_bytes ≡ true → Way (a ∷ b ∷ s) work rec
    room true g e f = whole (leb-true (length x) (length work) g) (rw (e, unit_by) (rw (f, limited_by) refl)) (rw (e, f, g) refl)
    room false g e f = narrow (leb-false (length x) (length work) g) (rw (e, f, g) refl)

    limited : (c : Bool) → leb (length x) most_rbsp_bytes ≡ c → eqb (b / 8) vps_nut ≡ true → Way (a ∷ b ∷ s) work rec
    limited true f e = room (leb (length x) (length work)) refl e f
    limited false f e = early rbsp_too_long (omega arith, omega arith) (rw (e, unit_by) (rw (f, limited_by) refl)) (rw (e, f) refl)

    typed : (c : Bool) → eqb (b / 8) vps_nut ≡ c → Way (a ∷ b ∷ s) work rec
    typed true e = limited (leb (length x) most_rbsp_bytes) refl e
    typed false e = early not_a_vps (omega arith, omega arith) (rw (e, unit_by) refl) (rw e refl)

module _ (rec : List ℕ) where
  -- a record that fits
  pub record Fits (x : Reading) (m n : ℕ) : Type 0 where
    r : List ℕ
    is : x ≡ accepts r n
    long : length r ≡ m
    room : length r ≤ length rec
    left : record_after rec x ≡ r ++ drop (length r) rec

  pub fits : (x : Reading) (m n : ℕ) → parse_of rec x ≡ accepted m n → Fits x m n
  unfolding parse_of record_after
  fits (refuses k) m n e = not_accepted e
  fits (accepts r k) m n e = go (leb (length r) (length rec)) refl e
    where
      go : (b : Bool) → leb (length r) (length rec) ≡ b → cond b (accepted (length r) k) (too_short (length r)) ≡ accepted m n → Fits (accepts r k) m n
      go true f g = record { r = r; is = let i : k ≡ n = cc in ap (accepts r) i; long = cc; room = leb-true (length r) (length rec) f; left = rw f refl }
      go false f g = absurd (let n : ◌≡◌ {A = ℕ} 0 1 = cc in omega arith)

-- the numbers of all later checks: above those of the early ones, and none says that the record is too short
record Late (k : ℕ) : Type 0 where
  late : work_too_short < k
  other : k ≡ record_too_short → ⊥

lates : (first last : ℕ) → work_too_short < first → last < record_too_short → Among Late first last
lates first last l m = record {
  each = λ k e f. record { is = record { late = omega (arith, l, leb-true first k e); other = λ q. omega (arith, m, q, leb-true k last f) } };
}

reading_late : (s : List ℕ) → ReadingSays Late (read_rbsp s)
reading_late s =
    rbsp_says today
    (record { table = lates sublayers_reserved timing_index (omega arith) (omega arith); id = λ e. record { is = record { late = omega arith; other = λ q. omega (arith, q) } } })
    (record { is = record { late = omega arith; other = λ q. omega (arith, q) } })
    (lates stop_bit_missing alignment_bit_one (omega arith) (omega arith)) s

-- what a call says and leaves, where the definition of the call is x
module _ {u : List ℕ} (c : ReadCall u) {x : Parse.Parsed} (q : parse_unit u c.work c.rec ≡ x) where
  answer_is : parsed_answer c.answer ≡ x.answer
  answer_is = c.gives.answered ∙ ap (λ (y : Parse.Parsed). y.answer) q

  work_is : c.work_after ≡ x.work
  work_is = c.gives.worked ∙ ap (λ (y : Parse.Parsed). y.work) q

  rec_is : c.rec_after ≡ x.vps_record
  rec_is = c.gives.left ∙ ap (λ (y : Parse.Parsed). y.vps_record) q

-- what success is
pub record Filled {u : List ℕ} (c : ReadCall u) (r : List ℕ) (n : ℕ) : Type 0 where
  pub is : read_unit u ≡ accepts r n
  pub fits : length r ≤ length c.rec
  pub left : c.rec_after ≡ r ++ drop (length r) c.rec

pub reads_filled : {u r : List ℕ} {n : ℕ} (c : ReadCall u) → Reads c r n → Filled c r n
unfolding parse_rbsp
reads_filled {u} {r} {n} c R = go (way u c.work c.rec)
  where
    s : List ℕ
    s = unstuff (drop 2 u)

    answer : {x : Parse.Parsed} → parse_unit u c.work c.rec ≡ x → x.answer ≡ accepted (length r) n
    answer q = sym (answer_is c q) ∙ valued_accepted (parsed_answer c.answer) R.valued

    go : Way u c.work c.rec → Filled c r n
    go (early k l e q) = not_accepted (answer q)
    go (narrow l q) = not_accepted (answer q)
    go (whole l e q) =
        let F = fits c.rec (read_rbsp s) (length r) n (answer q) in
        let after : c.rec_after ≡ F.r ++ drop (length F.r) c.rec = rec_is c q ∙ F.left in
        let same : F.r ≡ r = sym (take-append_seam F.r (drop (length F.r) c.rec)) ∙ (λ i. take (F.long i) (sym after i)) ∙ R.is in
        record {
          is = e ∙ F.is ∙ ap (λ (x : List ℕ). accepts x n) same;
          fits = omega (arith, F.room, F.long);
          left = after ∙ ap (λ (x : List ℕ). x ++ drop (length x) c.rec) same;
        }

-- and the reader with long enough buffers succeeds on each accepted unit
pub accepted_reads : {u r : List ℕ} {n : ℕ} (c : ReadCall u) → ReadRoom c → read_unit u ≡ accepts r n → Reads c r n
unfolding parse_rbsp parse_of record_after
accepted_reads {u} {r} {n} c room e = go (way u c.work c.rec)
  where
    s : List ℕ
    s = unstuff (drop 2 u)

    f : leb (length r) (length c.rec) ≡ true
    f = le-leb (length r) (length c.rec) (room.for_record r n e)

    go : Way u c.work c.rec → Reads c r n
    go (early k l g q) = not_accepts (sym g ∙ e)
    go (narrow l q) = absurd (omega (arith, l, room.for_rbsp))
    go (whole l g q) =
        let h : read_rbsp s ≡ accepts r n = sym g ∙ e in
        let a : parsed_answer c.answer ≡ accepted (length r) n = answer_is c q ∙ rw (h, f) refl in
        let k : record_after c.rec (read_rbsp s) ≡ r ++ drop (length r) c.rec = rw (h, f) refl in
        record {
          numbered = ap parse_number a;
          valued = ap parse_values a;
          is = ap (take (length r)) (rec_is c q ∙ k) ∙ take-append_seam r (drop (length r) c.rec);
        }

-- a refusal leaves the record as it was
pub refused_leaves : {u : List ℕ} (c : ReadCall u) → ((m n : ℕ) → parsed_answer c.answer ≡ accepted m n → ⊥) → c.rec_after ≡ c.rec
unfolding parse_rbsp parse_of record_after
refused_leaves {u} c fails = go (way u c.work c.rec)
  where
    s : List ℕ
    s = unstuff (drop 2 u)

    read : (x : Reading) → ((m n : ℕ) → parse_of c.rec x ≡ accepted m n → ⊥) → record_after c.rec x ≡ c.rec
    read (refuses k) h = refl
    read (accepts r n) h = fit (leb (length r) (length c.rec)) refl
      where
        fit : (b : Bool) → leb (length r) (length c.rec) ≡ b → record_after c.rec (accepts r n) ≡ c.rec
        fit true f = absurd (h (length r) n (rw f refl))
        fit false f = rw f refl

    go : Way u c.work c.rec → c.rec_after ≡ c.rec
    go (early k l e q) = rec_is c q
    go (narrow l q) = rec_is c q
    go (whole l e q) = rec_is c q ∙ read (read_rbsp s) (λ m n h. fails m n (answer_is c q ∙ h))

-- ── Refusals of the reader ────────────────────────────────────────────
-- with long enough buffers it says the definition's number
pub refused_refuses : {u : List ℕ} {k : ℕ} (c : ReadCall u) → ReadRoom c → read_unit u ≡ refuses k → Refuses c k
unfolding parse_rbsp parse_of
refused_refuses {u} {k} c room e = go (way u c.work c.rec)
  where
    s : List ℕ
    s = unstuff (drop 2 u)

    go : Way u c.work c.rec → Refuses c k
    go (early j l g q) = let h : refuses j ≡ refuses k = sym g ∙ e in let i : j ≡ k = cc in record { some = omega (arith, l.0, i); numbered = ap parse_number (answer_is c q) ∙ i }
    go (narrow l q) = absurd (omega (arith, l, room.for_rbsp))
    go (whole l g q) =
        let h : read_rbsp s ≡ refuses k = sym g ∙ e in
        record { some = omega (arith, (subst (ReadingSays Late) h (reading_late s)).is.late); numbered = ap parse_number (answer_is c q) ∙ ap (λ (x : Reading). parse_number (parse_of c.rec x)) h }

-- and no other
pub refuses_refused : {u : List ℕ} {k : ℕ} (c : ReadCall u) → ReadRoom c → Refuses c k → read_unit u ≡ refuses k
unfolding parse_rbsp parse_of
refuses_refused {u} {k} c room N = go (way u c.work c.rec)
  where
    s : List ℕ
    s = unstuff (drop 2 u)

    number : {x : Parse.Parsed} → parse_unit u c.work c.rec ≡ x → parse_number x.answer ≡ k
    number q = sym (ap parse_number (answer_is c q)) ∙ N.numbered

    read : (x : Reading) → read_unit u ≡ x → parse_number (parse_of c.rec x) ≡ k → x ≡ refuses k
    read (refuses j) f h = ap refuses h
    read (accepts r n) f h =
        let b : leb (length r) (length c.rec) ≡ true = le-leb (length r) (length c.rec) (room.for_record r n f) in
        let z : 0 ≡ k = sym (rw b refl) ∙ h in
        absurd (omega (arith, z, N.some))

    go : Way u c.work c.rec → read_unit u ≡ refuses k
    go (early j l g q) = g ∙ ap refuses (number q)
    go (narrow l q) = absurd (omega (arith, l, room.for_rbsp))
    go (whole l g q) = g ∙ read (read_rbsp s) g (number q)

-- and finds no buffer too short
pub room_enough : {u : List ℕ} (c : ReadCall u) → ReadRoom c → (said c ≡ work_too_short → ⊥) × (said c ≡ record_too_short → ⊥)
unfolding parse_rbsp parse_of
room_enough {u} c room = go (way u c.work c.rec)
  where
    s : List ℕ
    s = unstuff (drop 2 u)

    number : {x : Parse.Parsed} → parse_unit u c.work c.rec ≡ x → said c ≡ parse_number x.answer
    number q = ap parse_number (answer_is c q)

    read : (x : Reading) → read_unit u ≡ x → ReadingSays Late x → said c ≡ parse_number (parse_of c.rec x) → (said c ≡ work_too_short → ⊥) × (said c ≡ record_too_short → ⊥)
    read (refuses k) f L h = (λ e. omega (arith, h, e, L.is.late), λ e. L.is.other (sym h ∙ e))
    read (accepts r n) f L h =
        let b : leb (length r) (length c.rec) ≡ true = le-leb (length r) (length c.rec) (room.for_record r n f) in
        let z : said c ≡ 0 = h ∙ rw b refl in
        (λ e. omega (arith, z, e), λ e. omega (arith, z, e))

    go : Way u c.work c.rec → (said c ≡ work_too_short → ⊥) × (said c ≡ record_too_short → ⊥)
    go (early k l g q) = let h = number q in (λ e. omega (arith, h, e, l.1), λ e. omega (arith, h, e, l.1))
    go (narrow l q) = absurd (omega (arith, l, room.for_rbsp))
    go (whole l g q) = read (read_rbsp s) g (reading_late s) (number q)

-- the definition accepts with a record of so many numbers, and there is room for fewer
pub record Longer (u : List ℕ) (room needed : ℕ) : Type 0 where
  pub r : List ℕ
  pub n : ℕ
  pub is : read_unit u ≡ accepts r n
  pub long : length r ≡ needed
  pub over : room < needed

pub longer_needs : {u : List ℕ} {needed : ℕ} (c : ReadCall u) → length (unstuff (drop 2 u)) ≤ length c.work → Longer u (length c.rec) needed → Needs c needed
unfolding parse_rbsp parse_of
longer_needs {u} {needed} c room L = go (way u c.work c.rec)
  where
    s : List ℕ
    s = unstuff (drop 2 u)

    go : Way u c.work c.rec → Needs c needed
    go (early k l g q) = not_accepts (sym g ∙ L.is)
    go (narrow l q) = absurd (omega (arith, l, room))
    go (whole l g q) =
        let h : read_rbsp s ≡ accepts L.r L.n = sym g ∙ L.is in
        let b : leb (length L.r) (length c.rec) ≡ false = lt-leb (length L.r) (length c.rec) (omega (arith, L.long, L.over)) in
        let a : parsed_answer c.answer ≡ too_short needed = answer_is c q ∙ rw (h, b) (ap too_short L.long) in
        record { numbered = ap parse_number a; valued = ap parse_values a }

pub needs_longer : {u : List ℕ} {needed : ℕ} (c : ReadCall u) → Needs c needed → Longer u (length c.rec) needed
unfolding parse_rbsp parse_of
needs_longer {u} {needed} c N = go (way u c.work c.rec)
  where
    s : List ℕ
    s = unstuff (drop 2 u)

    values_are : {x : Parse.Parsed} → parse_unit u c.work c.rec ≡ x → parse_values x.answer ≡ needed ∷ []
    values_are q = sym (ap parse_values (answer_is c q)) ∙ N.valued

    none : {A : Type 0} → [] ≡ needed ∷ [] → A
    none e = absurd (let n : ◌≡◌ {A = ℕ} 0 1 = cc in omega arith)

    read : (x : Reading) → read_unit u ≡ x → parse_values (parse_of c.rec x) ≡ needed ∷ [] → Longer u (length c.rec) needed
    read (refuses k) f h = none h
    read (accepts r n) f h = fit (leb (length r) (length c.rec)) refl h
      where
        fit : (b : Bool) → leb (length r) (length c.rec) ≡ b → parse_values (cond b (accepted (length r) n) (too_short (length r))) ≡ needed ∷ [] → Longer u (length c.rec) needed
        fit true g h = absurd (let n : ◌≡◌ {A = ℕ} 0 1 = cc in omega arith)
        fit false g h = let i : length r ≡ needed = cc in record { r = r; n = n; is = f; long = i; over = omega (arith, i, leb-false (length r) (length c.rec) g) }

    go : Way u c.work c.rec → Longer u (length c.rec) needed
    go (early k l g q) = none (values_are q)
    go (narrow l q) = none (values_are q)
    go (whole l g q) = read (read_rbsp s) g (values_are q)

-- ── The work buffer ───────────────────────────────────────────────────
pub early_leaves_work : {u : List ℕ} (c : ReadCall u) → Early (said c) → c.work_after ≡ c.work
unfolding parse_rbsp parse_of
early_leaves_work {u} c h = go (way u c.work c.rec)
  where
    s : List ℕ
    s = unstuff (drop 2 u)

    none : (x : Reading) → ReadingSays Late x → Early (parse_number (parse_of c.rec x)) → ⊥
    none (refuses k) g e = omega (arith, g.is.late, e.1)
    none (accepts r n) g e = fit (leb (length r) (length c.rec)) e
      where
        fit : (b : Bool) → Early (parse_number (cond b (accepted (length r) n) (too_short (length r)))) → ⊥
        fit true e = omega (arith, e.0)
        fit false e = omega (arith, e.1)

    go : Way u c.work c.rec → c.work_after ≡ c.work
    go (early k l g q) = work_is c q
    go (narrow l q) = work_is c q
    go (whole l g q) = absurd (none (read_rbsp s) (reading_late s) (subst Early (ap parse_number (answer_is c q)) h))

pub late_fills_work : {u : List ℕ} (c : ReadCall u) → (Early (said c) → ⊥) → (length (unstuff (drop 2 u)) ≤ length c.work) × (c.work_after ≡ overlaid (unstuff (drop 2 u)) c.work)
unfolding parse_rbsp
late_fills_work {u} c h = go (way u c.work c.rec)
  where
    number : {x : Parse.Parsed} → parse_unit u c.work c.rec ≡ x → Early (parse_number x.answer) → ⊥
    number q e = h (subst⁻¹ Early (ap parse_number (answer_is c q)) e)

    go : Way u c.work c.rec → (length (unstuff (drop 2 u)) ≤ length c.work) × (c.work_after ≡ overlaid (unstuff (drop 2 u)) c.work)
    go (early k l g q) = absurd (number q (l.0, omega (arith, l.1)))
    go (narrow l q) = absurd (number q (omega arith, omega arith))
    go (whole l g q) = (l, work_is c q)

-- refused with a number over 4, the work buffer has room for the RBSP and begins with it, and is otherwise as before; and the record
-- is as before
abbrev pub Unpacked : {u : List ℕ} → ReadCall u → Type 0
Unpacked {u} c = (length (unstuff (drop 2 u)) ≤ length c.work) × (c.work_after ≡ overlaid (unstuff (drop 2 u)) c.work) × (c.rec_after ≡ c.rec)

-- ── The writer and its definition ─────────────────────────────────────
pub not_success : {A : Type 0} {k n : ℕ} → ◌≡◌ {A = Answer ℕ} (refusal k) (success n) → A
not_success e = absurd (let n : ◌≡◌ {A = ℕ} 0 1 = cc in omega arith)

-- what success is
record Stored {r : List ℕ} (c : WriteCall r) (u : List ℕ) : Type 0 where
  is : write_record r ≡ success u
  fits : length u ≤ length c.out
  left : c.out_after ≡ u ++ drop (length u) c.out

puts_stored : {r u : List ℕ} (c : WriteCall r) → Puts c u → Stored c u
unfolding write_of output_of lent output_after
puts_stored {r} {u} c P = go (write_record r) refl (sym c.gives.answered ∙ P.answered) c.gives.left
  where
    go : (x : Answer (List ℕ)) → write_record r ≡ x → write_of c.out x ≡ success (length u) → c.out_after ≡ output_of c.out x → Stored c u
    go (refusal k) f a l = not_success a
    go (success b) f a l = room (leb (length b) (length c.out)) refl a l
      where
        room : (h : Bool) → leb (length b) (length c.out) ≡ h → cond h (success (length b)) (refusal output_too_short) ≡ success (length u) → c.out_after ≡ cond h (b ++ drop (length b) c.out) c.out → Stored c u
        room false g a l = not_success a
        room true g a l =
            let n : length b ≡ length u = cc in
            let q : b ≡ u = sym (take-append_seam b (drop (length b) c.out)) ∙ (λ i. take (n i) (sym l i)) ∙ P.is in
            record { is = f ∙ ap success q; fits = omega (arith, n, leb-true (length b) (length c.out) g); left = l ∙ ap (λ (x : List ℕ). x ++ drop (length x) c.out) q }

pub puts_written : {r u : List ℕ} (c : WriteCall r) → Puts c u → write_record r ≡ success u
puts_written c P = (puts_stored c P).is

-- what was behind the bytes is left
pub puts_leaves : {r u : List ℕ} (c : WriteCall r) → Puts c u → (length c.out_after ≡ length c.out) × (drop (length u) c.out_after ≡ drop (length u) c.out)
puts_leaves {u = u} c P = let S = puts_stored c P in behind_left u c.out S.fits S.left

pub written_puts : {r u : List ℕ} (c : WriteCall r) → WriteRoom c → write_record r ≡ success u → Puts c u
unfolding write_of output_of lent output_after
written_puts {r} {u} c room e =
    let f : leb (length u) (length c.out) ≡ true = le-leb (length u) (length c.out) (room u e) in
    let a : write_of c.out (write_record r) ≡ success (length u) = rw (e, f) refl in
    let l : output_of c.out (write_record r) ≡ u ++ drop (length u) c.out = rw (e, f) refl in
    record {
      answered = c.gives.answered ∙ a;
      is = ap (take (length u)) (c.gives.left ∙ l) ∙ take-append_seam u (drop (length u) c.out);
    }

pub refused_leaves_output : {r : List ℕ} (c : WriteCall r) → ((n : ℕ) → written_answer c.answer ≡ success n → ⊥) → c.out_after ≡ c.out
unfolding write_of output_of lent output_after
refused_leaves_output {r} c fails = c.gives.left ∙ go (write_record r) (λ n h. fails n (c.gives.answered ∙ h))
  where
    go : (x : Answer (List ℕ)) → ((n : ℕ) → write_of c.out x ≡ success n → ⊥) → output_of c.out x ≡ c.out
    go (refusal k) h = refl
    go (success b) h = room (leb (length b) (length c.out)) refl
      where
        room : (d : Bool) → leb (length b) (length c.out) ≡ d → output_of c.out (success b) ≡ c.out
        room true f = absurd (h (length b) (rw f refl))
        room false f = rw f refl

-- ── Not well formed ───────────────────────────────────────────────────
pub ill_formed_refuses : {r : List ℕ} (c : WriteCall r) → well_formed r ≡ false → written_answer c.answer ≡ refusal not_well_formed
unfolding write_of
ill_formed_refuses {r} c e = c.gives.answered ∙ ap (write_of c.out) (ill_formed_refused today r e)

pub refuses_ill_formed : {r : List ℕ} (c : WriteCall r) → written_answer c.answer ≡ refusal not_well_formed → well_formed r ≡ false
unfolding write_of lent
refuses_ill_formed {r} c e = go (write_record r) refl (sym c.gives.answered ∙ e)
  where
    fit : {A : Type 0} (n : ℕ) (b : Bool) → cond b (success n) (refusal output_too_short) ≡ refusal not_well_formed → A
    fit n true h = not_success (sym h)
    fit n false h = absurd (let i : output_too_short ≡ not_well_formed = cc in omega (arith, i))

    go : (x : Answer (List ℕ)) → write_record r ≡ x → write_of c.out x ≡ refusal not_well_formed → well_formed r ≡ false
    go (refusal k) f a = refused_ill_formed today r f
    go (success b) f a = fit (length b) (leb (length b) (length c.out)) a
