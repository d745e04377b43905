-- The checks of a unit and of its payload, one by one.
use Rattle.std.specs.Prelude.{ℕ, ◌-◌, ◌/◌, ◌≤◌, ◌<◌, Bool, ltb, eqb, get_or, take, Result, Ok, Err, MatchResult}
use Rattle.std.proofs.Math.Path.{◌≡◌, refl, ap}
use Rattle.std.proofs.Common.{sym, ◌∙◌, subst, arith, length-append}
use mathlib.Core.List.{List, [], ◌∷◌, ◌++◌}
use Rattle.std.proofs.Math.Bool.{true, false, cond}
use borrow.Author.Tests.{le-leb, lt-leb, leb-true, leb-false, le-ltb, eq-eqb, ne_eqb}
use Rattle.std.proofs.Math.Dec.{leb}
use Rattle.std.proofs.Math.ListN.{length, drop}
use Rattle.std.proofs.Math.Seq.{take-length, take-append_seam}
use Rattle.refusals.specs.Answer.Answer.{success, refusal}
use Rattle.refusals.specs.Refusals.{answer_of}
use Rattle.refusals.specs.declared.refusal.Refusal.{Refusal}
use Rattle.refusals.specs.Number.{unit_too_short, not_a_vps, work_too_short, output_too_short}
use Rattle.refusals.specs.Lent.{lent, output_after}
use Rattle.stuffing.specs.Stuffing.{unstuff}
use Rattle.stuffing.specs.Laws.{unstuff_length}
use Rattle.vps_definition.specs.Reading.{read_limited, most_rbsp_bytes, vps_nut}
use Rattle.vps_reader.specs.Parse.{untouched, parse_of, record_after, parse_rbsp, parse_payload, parse_unit}
use Rattle.vps_reader.specs.Parse as Parse
use Rattle.vps_reader.specs.Measures.{limited_short}
use Rattle.vps_reader.specs.Answers.{Answers, Gives}
use Rattle.refusals.specs.declared.refusal.Refusal.TheVariants.{UnitTooShort, NotAVps, RbspTooLong, WorkTooShort}
use Rattle.refusals.specs.Refusals.{number_of}
use Rattle.vps_reader.specs.declared.parsed.Parsed.{Parsed}
use Rattle.vps_reader.specs.declared.parsed.NotParsed.{NotParsed}
use Rattle.vps_reader.specs.declared.parsed.NotParsed.TheVariants.{Refused}

gives_as : {x y : Parse.Parsed} {r : Result Parsed NotParsed} {work lent : List ℕ} → x ≡ y → Gives y r work lent → Gives x r work lent
gives_as {r = r} {work = work} {lent = lent} e G = subst (λ (z : Parse.Parsed). Gives z r work lent) (sym e) G

-- a check refuses
refuses_all : {e : Refusal} {work lent : List ℕ} → Gives (untouched (number_of e) work lent) (Err (Refused e)) work lent
refuses_all = record { answered = refl; worked = refl; left = refl }

-- all that is behind two bytes
rest : (u : List ℕ) → take (length u - 2) (drop 2 u) ≡ drop 2 u
rest [] = refl
rest (a ∷ []) = refl
rest (a ∷ b ∷ s) = let e : length (a ∷ b ∷ s) - 2 ≡ length s = omega arith in rw e (take-length s)

-- ── The unit ──────────────────────────────────────────────────────────
module _ (u work lent : List ℕ) where
  -- 1: fewer than two bytes
  pub gives_short : length u < 2 → Gives (parse_unit u work lent) (Err (Refused UnitTooShort)) work lent
  unfolding parse_unit
  gives_short l = gives_as (short u l) (refuses_all {e = UnitTooShort})
    where
      short : (u : List ℕ) → length u < 2 → parse_unit u work lent ≡ untouched unit_too_short work lent
      short [] l = refl
      short (a ∷ []) l = refl
      short (a ∷ b ∷ s) l = absurd (omega (arith, l))

  headed : 2 ≤ length u → parse_unit u work lent ≡ cond (eqb (get_or u 1 0 / 8) vps_nut) (parse_payload (unstuff (drop 2 u)) work lent) (untouched not_a_vps work lent)
  unfolding parse_unit
  headed l = go u l
    where
      go : (u : List ℕ) → 2 ≤ length u → parse_unit u work lent ≡ cond (eqb (get_or u 1 0 / 8) vps_nut) (parse_payload (unstuff (drop 2 u)) work lent) (untouched not_a_vps work lent)
      go [] l = absurd (omega (arith, l))
      go (a ∷ []) l = absurd (omega (arith, l))
      go (a ∷ b ∷ s) l = refl

  -- 2: another type
  pub gives_other : 2 ≤ length u → (get_or u 1 0 / 8 ≡ vps_nut → ⊥) → Gives (parse_unit u work lent) (Err (Refused NotAVps)) work lent
  gives_other l h = gives_as (headed l ∙ rw (ne_eqb (get_or u 1 0 / 8) vps_nut h) refl) (refuses_all {e = NotAVps})

  -- else as the payload is read
  pub gives_payload : {r : Result Parsed NotParsed} {work' lent' : List ℕ} → 2 ≤ length u → get_or u 1 0 / 8 ≡ vps_nut → Gives (parse_payload (unstuff (take (length u - 2) (drop 2 u))) work lent) r work' lent' → Gives (parse_unit u work lent) r work' lent'
  gives_payload l t G = gives_as (headed l ∙ rw (eq-eqb (get_or u 1 0 / 8) vps_nut t) (ap (λ (p : List ℕ). parse_payload (unstuff p) work lent) (sym (rest u)))) G

-- ── The payload ───────────────────────────────────────────────────────
-- a payload that is short enough has an RBSP that is
pub short_payload : (s : List ℕ) → length s ≤ most_rbsp_bytes → false ≡ ltb most_rbsp_bytes (length (unstuff s))
short_payload s h = sym (le-ltb most_rbsp_bytes (length (unstuff s)) (omega (arith, unstuff_length s)))

module _ (s work lent : List ℕ) where
  -- 3: too long an RBSP
  pub gives_long : most_rbsp_bytes < length s → Gives (parse_payload s work lent) (Err (Refused RbspTooLong)) work lent
  unfolding parse_payload
  gives_long k = gives_as (rw (lt-leb (length s) most_rbsp_bytes k) refl) (refuses_all {e = RbspTooLong})

  module _ (k : length s ≤ most_rbsp_bytes) where
    -- 4: too short a work buffer
    pub gives_narrow : {work' : List ℕ} → (length work < length s) × (work' ≡ work) → Gives (parse_payload s work lent) (Err (Refused WorkTooShort)) work' lent
    unfolding parse_payload
    gives_narrow (n, w) =
        gives_as {y = untouched work_too_short work lent} (rw (le-leb (length s) most_rbsp_bytes k, lt-leb (length s) (length work) n) refl)
        (record { answered = refl; worked = w; left = refl })

    -- from 5 on, as the RBSP is read
    pub gives_rbsp : {r : Result Parsed NotParsed} {work' lent' : List ℕ} (x : List ℕ) → length s ≤ length work → work' ≡ output_after s work → x ≡ s → Answers lent (read_limited x) r lent' → Gives (parse_payload s work lent) r work' lent'
    unfolding parse_payload parse_rbsp output_after
    gives_rbsp x n w h A =
        let e = ap read_limited h ∙ limited_short s k in
        let f : leb (length s) (length work) ≡ true = le-leb (length s) (length work) n in
        gives_as {y = parse_rbsp s work lent} (rw (le-leb (length s) most_rbsp_bytes k, f) refl)
        (record { answered = A.answered ∙ ap (parse_of lent) e; worked = w ∙ rw f refl; left = A.left ∙ ap (record_after lent) e })

-- an answer whose refusals are named otherwise: the answer before
pub came_ok : (r : Result ℕ Refusal) {n : ℕ} → MatchResult r (λ x. ◌≡◌ {A = Result ℕ Refusal} (Ok n) (Ok x)) (λ e. ⊥) → r ≡ Ok n
came_ok (Ok x) h = sym h
came_ok (Err k) h = absurd h

pub came_err : (r : Result ℕ Refusal) {m n : Refusal} {P : Refusal → Type 0} → MatchResult r (λ x. ◌≡◌ {A = Result ℕ Refusal} (Err m) (Ok x)) P → ((e : Refusal) → P e → m ≡ n) → (k : Refusal) × (r ≡ Err k) × (m ≡ n)
came_err (Ok x) h f = absurd (let z : ◌≡◌ {A = ℕ} 0 1 = cc in omega arith)
came_err (Err k) h f = (k, refl, f k h)

-- what removing into the work buffer says, and what the buffer holds then
pub record Removes (s work : List ℕ) (r : Result ℕ Refusal) (work' : List ℕ) : Type 0 where
  pub answered : answer_of r ≡ lent s work
  pub left : work' ≡ output_after s work

-- the room, and what the buffer begins with then
module _ {s work work' : List ℕ} {r : Result ℕ Refusal} (L : Removes s work r work') where
  removed_done : {n : ℕ} → r ≡ Ok n → (n ≡ length s) × (length s ≤ length work)
  unfolding lent
  removed_done {n} e = go (leb (length s) (length work)) refl (sym (ap answer_of e) ∙ L.answered)
    where
      go : (t : Bool) → leb (length s) (length work) ≡ t → success n ≡ cond t (success (length s)) (refusal output_too_short) → (n ≡ length s) × (length s ≤ length work)
      go true h a = (cc, leb-true (length s) (length work) h)
      go false h a = absurd (let z : ◌≡◌ {A = ℕ} 0 1 = cc in omega arith)

  pub removed_refused : {k : Refusal} → r ≡ Err k → (length work < length s) × (work' ≡ work)
  unfolding lent output_after
  removed_refused {k} e = go (leb (length s) (length work)) refl (sym (ap answer_of e) ∙ L.answered) L.left
    where
      go : (t : Bool) → leb (length s) (length work) ≡ t → answer_of (Err k) ≡ cond t (success (length s)) (refusal output_too_short) → work' ≡ cond t (s ++ drop (length s) work) work
          → (length work < length s) × (work' ≡ work)
      go true h a w = absurd (let z : ◌≡◌ {A = ℕ} 0 1 = cc in omega arith)
      go false h a w = (leb-false (length s) (length work) h, w)

  module _ {n : ℕ} (e : r ≡ Ok n) where
    pub removed_room : length s ≤ length work
    removed_room = (removed_done e).1

    begins : work' ≡ s ++ drop (length s) work
    unfolding output_after
    begins = L.left ∙ rw (le-leb (length s) (length work) removed_room) refl

    pub removed_begins : take n work' ≡ s
    removed_begins = (λ i. take ((removed_done e).0 i) (begins i)) ∙ take-append_seam s (drop (length s) work)

    pub removed_long : n ≤ length work'
    removed_long = omega (arith, (removed_done e).0, ap length begins, length-append s (drop (length s) work))

    pub removed_size : n ≡ length (take n work')
    removed_size = (removed_done e).0 ∙ sym (ap length removed_begins)
