-- What parse_vps says, and what the lent work buffer and record hold afterwards, for every unit and every buffer.
use Rattle.std.specs.Prelude.{ℕ, ◌/◌, List, [], ◌∷◌, cond, leb, eqb, length}
use Rattle.refusals.specs.Number.{unit_too_short, not_a_vps, rbsp_too_long, work_too_short, record_too_short}
use Rattle.lists.specs.Stored.{overlaid}
use Rattle.stuffing.specs.Stuffing.{unstuff}
use Rattle.vps_definition.specs.Reading.{Reading, read_rbsp, most_rbsp_bytes, vps_nut}
use Rattle.vps_definition.specs.Reading.Reading.{accepts, refuses}

pub data Parse : Type 0 where
  -- the record's length, and the bits used
  accepted : (record_length bits-used : ℕ) → Parse
  -- the record is too short, with the length that it needs
  too_short : (needed : ℕ) → Parse
  -- any other refusal
  refused : (number : ℕ) → Parse

-- the number of each answer: 0 is success
abbrev pub parse_number : Parse → ℕ
parse_number (accepted n bits) = 0
parse_number (too_short needed) = record_too_short
parse_number (refused k) = k

-- and its values: the record's length and the bits used, the length that the record needs, or none
abbrev pub parse_values : Parse → List ℕ
parse_values (accepted n bits) = n ∷ bits ∷ []
parse_values (too_short needed) = needed ∷ []
parse_values (refused k) = []

-- what a reading makes of a lent record: the record where there is room, or nothing
unfoldable pub parse_of : (lent : List ℕ) → Reading → Parse
parse_of lent (accepts r n) = cond (leb (length r) (length lent)) (accepted (length r) n) (too_short (length r))
parse_of lent (refuses n) = refused n

unfoldable pub record_after : (lent : List ℕ) → Reading → List ℕ
record_after lent (accepts r n) = cond (leb (length r) (length lent)) (overlaid r lent) lent
record_after lent (refuses n) = lent

-- answer, work buffer and record together
pub record Parsed : Type 0 where
  pub answer : Parse
  pub work : List ℕ
  pub vps_record : List ℕ

abbrev pub untouched : (number : ℕ) → (work lent : List ℕ) → Parsed
untouched n work lent = record { answer = refused n; work = work; vps_record = lent }

-- behind check 4 the work buffer begins with the RBSP
unfoldable pub parse_rbsp : (rbsp work lent : List ℕ) → Parsed
parse_rbsp s work lent = record { answer = parse_of lent (read_rbsp s); work = overlaid s work; vps_record = record_after lent (read_rbsp s) }

-- checks 3 and 4 leave it as it was
unfoldable pub parse_payload : (rbsp work lent : List ℕ) → Parsed
parse_payload s work lent =
    cond (leb (length s) most_rbsp_bytes)
    (cond (leb (length s) (length work)) (parse_rbsp s work lent) (untouched work_too_short work lent))
    (untouched rbsp_too_long work lent)

-- as do 1 and 2
unfoldable pub parse_unit : (unit work lent : List ℕ) → Parsed
parse_unit [] work lent = untouched unit_too_short work lent
parse_unit (a ∷ []) work lent = untouched unit_too_short work lent
parse_unit (a ∷ b ∷ s) work lent = cond (eqb (b / 8) vps_nut) (parse_payload (unstuff s) work lent) (untouched not_a_vps work lent)
