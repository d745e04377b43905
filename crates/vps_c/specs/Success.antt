-- 0 is the number of success and of nothing else, 30 that of a record that is too short and of nothing else, and every number but 0
-- has a sentence.
use Rattle.std.specs.Prelude.{ℕ, ◌/◌, ◌≤◌, ◌<◌, ◌≡◌, refl, List, [], ◌∷◌, Bool, true, false, cond, ◌↔◌, ◌⊎◌, leb, eqb, length, Option, Some, None}
use Rattle.std.proofs.Common.{inl, inr, arith, leb-true}
use Rattle.refusals.specs.Answer.{Answer}
use Rattle.refusals.specs.Answer.Answer.{success, refusal}
use Rattle.refusals.specs.Number.{unit_too_short, work_too_short, sublayers_reserved, timing_index, stop_bit_missing, alignment_bit_one, record_too_short, not_well_formed, output_too_short, item_missing, code_past_end}
use Rattle.refusals.specs.Lent.{lent}
use Rattle.stuffing.specs.Stuffing.{unstuff}
use Rattle.sentences.specs.Sentences.{table, last_number}
use Rattle.sentences.specs.Laws.{InTable}
use Rattle.vps_definition.specs.Rules.{today}
use Rattle.vps_definition.specs.Reading.{Reading, read_rbsp, most_rbsp_bytes, vps_nut}
use Rattle.vps_definition.specs.Reading.Reading.{accepts, refuses}
use Rattle.vps_definition.specs.Writing.{write_record, well_formed}
use Rattle.vps_reader.specs.Parse.{Parse, parse_number, Parsed, parse_of, parse_rbsp, parse_payload, parse_unit}
use Rattle.vps_reader.specs.Parse.Parse.{accepted, too_short, refused}
use Rattle.vps_writer.specs.Write.{write_of}
use Rattle.layer_page.specs.Page.{page_of, layer_page}
use Rattle.vps_laws.specs.Records.{of_record}
use Rattle.vps_laws.specs.Says.{Said, Among, TableSaid, ReadingSays}
use Rattle.vps_laws.proofs.Says.{rbsp_says}
use Rattle.record_timing.specs.declared.schedule.Kind.{Kind}
use Rattle.record_timing.specs.Timing.{has_sublayer, has_schedule, lacks}
use Rattle.link_figures.specs.Figures.{rate_at, size_at, interval_at, bit_rate, buffer_size, picture_interval}
use Rattle.vps_c.specs.Calls.{answer_number}
use Rattle.vps_c.specs.Figures.{kind_of, figure_of}

clash : {A : Type 0} → ◌≡◌ {A = ℕ} 0 1 → A
clash e = absurd (omega arith)

-- ── The reader ────────────────────────────────────────────────────────
-- neither 0 nor 30, and with a sentence
record Other (k : ℕ) : Type 0 where
  worded : InTable k
  long : k ≡ record_too_short → ⊥

others : (first last : ℕ) → 1 ≤ first → last < record_too_short → Among Other first last
unfolding last_number table
others first last e f = record {
  each = λ k g h. record { is = record { worded = record { first = omega (arith, e, leb-true first k g); last = omega (arith, f, leb-true k last h) }; long = λ q. omega (arith, f, leb-true k last h) } };
}

-- so are the numbers of the first checks
first_other : Among Other unit_too_short work_too_short
first_other = others unit_too_short work_too_short (omega arith) (omega arith)

-- and of the table and of its rules
table_other : TableSaid Other today
unfolding last_number table
table_other = record { table = others sublayers_reserved timing_index (omega arith) (omega arith); id = λ e. record { is = record { worded = record { first = omega arith; last = omega arith }; long = λ q. omega (arith, q) } } }

-- and that of a code that is cut
cut_other : Said Other code_past_end
unfolding last_number table
cut_other = record { is = record { worded = record { first = omega arith; last = omega arith }; long = λ q. omega (arith, q) } }

abbrev ParseOther : Parse → Type 0
ParseOther (accepted n bits) = Unit {0}
ParseOther (too_short needed) = Unit {0}
ParseOther (refused k) = Said Other k

either_other : (b : Bool) (x y : Parsed) → ParseOther x.answer → ParseOther y.answer → ParseOther (cond b x y).answer
either_other true x y h g = h
either_other false x y h g = g

reading_other : (lent : List ℕ) (x : Reading) → ReadingSays Other x → ParseOther (parse_of lent x)
unfolding parse_of
reading_other lent (accepts r n) h = go (leb (length r) (length lent))
  where
    go : (b : Bool) → ParseOther (cond b (accepted (length r) n) (too_short (length r)))
    go true = tt
    go false = tt
reading_other lent (refuses k) h = h

parse_other : (unit work lent : List ℕ) → ParseOther (parse_unit unit work lent).answer
unfolding parse_unit parse_payload parse_rbsp
parse_other [] work lent = first_other.each _ refl refl
parse_other (a ∷ []) work lent = first_other.each _ refl refl
parse_other (a ∷ b ∷ s) work lent =
    either_other (eqb (b / 8) vps_nut) _ _
    (either_other (leb (length (unstuff s)) most_rbsp_bytes) _ _
    (either_other (leb (length (unstuff s)) (length work)) _ _ (reading_other lent (read_rbsp (unstuff s)) (rbsp_says today table_other cut_other (others stop_bit_missing alignment_bit_one (omega arith) (omega arith)) (unstuff s))) (first_other.each _ refl refl))
    (first_other.each _ refl refl))
    (first_other.each _ refl refl)

pub parse_zero : (unit work lent : List ℕ) → (parse_number (parse_unit unit work lent).answer ≡ 0) ↔ ((n : ℕ) × (bits : ℕ) × ((parse_unit unit work lent).answer ≡ accepted n bits))
parse_zero unit work lent = go (parse_unit unit work lent).answer (parse_other unit work lent)
  where
    go : (x : Parse) → ParseOther x → (parse_number x ≡ 0) ↔ ((n : ℕ) × (bits : ℕ) × (x ≡ accepted n bits))
    go (accepted n bits) h = (λ e. (n, bits, refl), λ e. refl)
    go (too_short needed) h = (λ e. absurd (omega (arith, e)), λ e. clash (cc e.2))
    go (refused k) h = (λ e. absurd (omega (arith, e, h.is.worded.first)), λ e. clash (cc e.2))

pub parse_30 : (unit work lent : List ℕ) → (parse_number (parse_unit unit work lent).answer ≡ record_too_short) ↔ ((needed : ℕ) × ((parse_unit unit work lent).answer ≡ too_short needed))
parse_30 unit work lent = go (parse_unit unit work lent).answer (parse_other unit work lent)
  where
    go : (x : Parse) → ParseOther x → (parse_number x ≡ record_too_short) ↔ ((needed : ℕ) × (x ≡ too_short needed))
    go (accepted n bits) h = (λ e. absurd (omega (arith, e)), λ e. clash (cc e.1))
    go (too_short needed) h = (λ e. (needed, refl), λ e. refl)
    go (refused k) h = (λ e. absurd (h.is.long e), λ e. clash (cc e.1))

pub parse_worded : (unit work lent : List ℕ) → (parse_number (parse_unit unit work lent).answer ≡ 0) ⊎ InTable (parse_number (parse_unit unit work lent).answer)
unfolding last_number table
parse_worded unit work lent = go (parse_unit unit work lent).answer (parse_other unit work lent)
  where
    go : (x : Parse) → ParseOther x → (parse_number x ≡ 0) ⊎ InTable (parse_number x)
    go (accepted n bits) h = inl refl
    go (too_short needed) h = inr (record { first = omega arith; last = omega arith })
    go (refused k) h = inr h.is.worded

-- ── The writer and the layer page ─────────────────────────────────────
-- a refusal is 31 or more, and has a sentence
abbrev Late : {A : Type 0} → Answer A → Type 0
Late (success a) = Unit {0}
Late (refusal k) = (31 ≤ k) × (k ≤ last_number)

lent_late : (s out : List ℕ) → Late (lent s out)
unfolding lent last_number table
lent_late s out = go (leb (length s) (length out))
  where
    go : (b : Bool) → Late (cond b (success (length s)) (refusal output_too_short))
    go true = tt
    go false = (omega arith, omega arith)

record_late : (r : List ℕ) → Late (write_record r)
unfolding last_number table
record_late r = of_record today Late (omega arith, omega arith) (λ rbsp l. tt) r

page_late : (r : List ℕ) → Late (layer_page r)
unfolding layer_page last_number table
page_late r = go (well_formed r)
  where
    go : (b : Bool) → Late (cond b (success (page_of r)) (refusal not_well_formed))
    go true = tt
    go false = (omega arith, omega arith)

-- and so it is once they are put into an output
write_late : (out : List ℕ) (x : Answer (List ℕ)) → Late x → Late (write_of out x)
unfolding write_of
write_late out (success b) h = lent_late b out
write_late out (refusal k) h = h

late_zero : {A : Type 0} (x : Answer A) → Late x → (answer_number x ≡ 0) ↔ ((n : A) × (x ≡ success n))
late_zero (success n) h = (λ e. (n, refl), λ e. refl)
late_zero (refusal k) h = (λ e. absurd (omega (arith, e, h.0)), λ e. clash (cc e.1))

late_worded : {A : Type 0} (x : Answer A) → Late x → (answer_number x ≡ 0) ⊎ InTable (answer_number x)
late_worded (success n) h = inl refl
late_worded (refusal k) h = inr (record { first = omega (arith, h.0); last = h.1 })

pub write_zero : (out r : List ℕ) → (answer_number (write_of out (write_record r)) ≡ 0) ↔ ((n : ℕ) × (write_of out (write_record r) ≡ success n))
write_zero out r = late_zero (write_of out (write_record r)) (write_late out (write_record r) (record_late r))

pub write_worded : (out r : List ℕ) → (answer_number (write_of out (write_record r)) ≡ 0) ⊎ InTable (answer_number (write_of out (write_record r)))
write_worded out r = late_worded (write_of out (write_record r)) (write_late out (write_record r) (record_late r))

pub page_zero : (out r : List ℕ) → (answer_number (write_of out (layer_page r)) ≡ 0) ↔ ((n : ℕ) × (write_of out (layer_page r) ≡ success n))
page_zero out r = late_zero (write_of out (layer_page r)) (write_late out (layer_page r) (page_late r))

pub page_worded : (out r : List ℕ) → (answer_number (write_of out (layer_page r)) ≡ 0) ⊎ InTable (answer_number (write_of out (layer_page r)))
page_worded out r = late_worded (write_of out (layer_page r)) (write_late out (layer_page r) (page_late r))

-- ── Link figures ──────────────────────────────────────────────────────
lacks_late : (r : List ℕ) → (31 ≤ lacks r) × (lacks r ≤ last_number)
unfolding lacks last_number table
lacks_late r = go (well_formed r)
  where
    go : (b : Bool) → (31 ≤ cond b item_missing not_well_formed) × (cond b item_missing not_well_formed ≤ last_number)
    go true = (omega arith, omega arith)
    go false = (omega arith, omega arith)

item_late : {A : Type 0} (b : Bool) (a : A) (r : List ℕ) → Late (cond b (success a) (refusal (lacks r)))
item_late true a r = tt
item_late false a r = lacks_late r

module _ (r : List ℕ) (e j : ℕ) where
  pub interval_zero : (answer_number (picture_interval r e j) ≡ 0) ↔ ((x : Option ℕ) × (picture_interval r e j ≡ success x))
  unfolding picture_interval
  interval_zero = late_zero _ (item_late (has_sublayer r e j) (interval_at r e j) r)

  pub interval_worded : (answer_number (picture_interval r e j) ≡ 0) ⊎ InTable (answer_number (picture_interval r e j))
  unfolding picture_interval
  interval_worded = late_worded _ (item_late (has_sublayer r e j) (interval_at r e j) r)

  module _ (vcl c : ℕ) where
    rate_late : (kind : Option Kind) → Late (figure_of kind r (λ k. bit_rate r e j k c))
    unfolding bit_rate
    rate_late None = lacks_late r
    rate_late (Some kind) = item_late (has_schedule r e j kind c) (rate_at r e j kind c) r

    size_late : (kind : Option Kind) → Late (figure_of kind r (λ k. buffer_size r e j k c))
    unfolding buffer_size
    size_late None = lacks_late r
    size_late (Some kind) = item_late (has_schedule r e j kind c) (size_at r e j kind c) r

    abbrev rate : Answer ℕ
    rate = figure_of (kind_of vcl) r (λ k. bit_rate r e j k c)

    abbrev size : Answer ℕ
    size = figure_of (kind_of vcl) r (λ k. buffer_size r e j k c)

    pub rate_zero : (answer_number rate ≡ 0) ↔ ((n : ℕ) × (rate ≡ success n))
    rate_zero = late_zero rate (rate_late (kind_of vcl))

    pub rate_worded : (answer_number rate ≡ 0) ⊎ InTable (answer_number rate)
    rate_worded = late_worded rate (rate_late (kind_of vcl))

    pub size_zero : (answer_number size ≡ 0) ↔ ((n : ℕ) × (size ≡ success n))
    size_zero = late_zero size (size_late (kind_of vcl))

    pub size_worded : (answer_number size ≡ 0) ⊎ InTable (answer_number size)
    size_worded = late_worded size (size_late (kind_of vcl))

-- ── Stuffing and sentences ────────────────────────────────────────────
-- of adding and removing and of sentences alike
pub lent_zero : (s out : List ℕ) → (answer_number (lent s out) ≡ 0) ↔ ((n : ℕ) × (lent s out ≡ success n))
lent_zero s out = late_zero (lent s out) (lent_late s out)

pub lent_worded : (s out : List ℕ) → (answer_number (lent s out) ≡ 0) ⊎ InTable (answer_number (lent s out))
lent_worded s out = late_worded (lent s out) (lent_late s out)
