-- The worked cases: each question to the definitions with its answer, and one proof that computes them all.
use Rattle.std.specs.Prelude.{ℕ, ◌≡◌, refl, List, [], ◌∷◌, ◌++◌}
use Rattle.refusals.specs.Answer.{Answer}
use Rattle.refusals.specs.Answer.Answer.{success, refusal}
use Rattle.stuffing.specs.Stuffing.{unstuff, stuff}
use Rattle.bits.specs.Code.{Taken}
use Rattle.bits.specs.Code.Taken.{taken, refused}
use Rattle.bits.specs.Reading.{read_code}
use Rattle.vps_definition.specs.OutputLayerSets.{num_layers_in_ols, num_multi_layer_olss}
use Rattle.vps_definition.specs.OutputLayerSets.Sets.{chosen}
use Rattle.vps_definition.specs.Reading.{Reading, read_unit}
use Rattle.vps_definition.specs.Reading.Reading.{accepts, refuses}
use Rattle.vps_definition.specs.Writing.{write_record}
use Rattle.vps_definition.specs.Open.{opened}

pub data Question : Type 0 where
  -- removing and adding stuffing
  removed added : List ℕ → Question
  -- the code at a place
  code : List ℕ → ℕ → Question
  -- a unit's record, and a record's unit
  read written : List ℕ → Question
  -- of three layers, each on the one below, with one row: the multi-layer sets, and the layers of the row's set
  multi included : List ℕ → Question

pub data Reply : Type 0 where
  bytes : List ℕ → Reply
  value : ℕ → (next : ℕ) → Reply
  vps_record : List ℕ → (bits-used : ℕ) → Reply
  count : ℕ → Reply
  no : (refusal : ℕ) → Reply

taking : Taken → Reply
taking (taken v next) = value v next
taking (refused n) = no n

reading : Reading → Reply
reading (accepts r n) = vps_record r n
reading (refuses n) = no n

writing : Answer (List ℕ) → Reply
writing (success b) = bytes b
writing (refusal n) = no n

-- layers 1 and 2 each refer to the one below
chain : List (List ℕ)
chain = [] ∷ (1 ∷ []) ∷ (0 ∷ 1 ∷ []) ∷ []

pub reply : Question → Reply
reply (removed s) = bytes (unstuff s)
reply (added s) = bytes (stuff s)
reply (code s at) = taking (read_code s at)
reply (read s) = reading (read_unit s)
reply (written r) = writing (write_record r)
reply (multi row) = count (num_multi_layer_olss 3 chain (chosen (row ∷ [])))
reply (included row) = count (num_layers_in_ols 3 chain (chosen (row ∷ [])) 1)

-- the unit U with another last byte
unfoldable pub unit : ℕ → List ℕ
unit z = 0 ∷ 0x71 ∷ 0x10 ∷ 0 ∷ 0 ∷ 3 ∷ 2 ∷ 0x33 ∷ 0 ∷ 0 ∷ z ∷ []

-- U's record with an extension flag, an extension section and a total length
unfoldable pub record_u : ℕ → List ℕ → ℕ → List ℕ
record_u flag extension total =
    (1 ∷ 1 ∷ 0 ∷ 1 ∷ 1 ∷ 1 ∷ 2 ∷ 0 ∷ flag ∷ []) ++ (0 ∷ 1 ∷ 0 ∷ []) ++ (0 ∷ []) ++ (1 ∷ 1 ∷ 0 ∷ 1 ∷ 0 ∷ 51 ∷ 0 ∷ 0 ∷ 0 ∷ 0 ∷ 0 ∷ [])
    ++ (1 ∷ 0 ∷ []) ++ (0 ∷ 0 ∷ []) ++ (0 ∷ []) ++ extension ++ (9 ∷ 12 ∷ 13 ∷ 24 ∷ 26 ∷ 28 ∷ 29 ∷ total ∷ [])

pub record Case : Type 0 where
  pub question : Question
  pub answer : Reply

abbrev case : Question → Reply → Case
case q a = record { question = q; answer = a }

pub table : List Case
table =
    -- P1, both ways
    case (removed (0 ∷ 0 ∷ 3 ∷ 0 ∷ 0 ∷ 3 ∷ [])) (bytes (0 ∷ 0 ∷ 0 ∷ 0 ∷ []))
    ∷ case (added (0 ∷ 0 ∷ 0 ∷ 0 ∷ [])) (bytes (0 ∷ 0 ∷ 3 ∷ 0 ∷ 0 ∷ 3 ∷ []))
    -- P2 to P6
    ∷ case (code (0b00111000 ∷ []) 0) (value 6 5)
    ∷ case (code [] 0) (no 35)
    ∷ case (code (0b11111100 ∷ []) 6) (no 35)
    ∷ case (code (0 ∷ 0 ∷ 0 ∷ 1 ∷ 255 ∷ 255 ∷ 255 ∷ 254 ∷ []) 0) (value 4294967294 63)
    ∷ case (code (0 ∷ 0 ∷ 0 ∷ 0 ∷ []) 0) (no 14)
    -- 31 zeros and the end; 31 zeros, the one and no suffix; 32 zeros and a one
    ∷ case (code (0 ∷ 0 ∷ 0 ∷ 0 ∷ []) 1) (no 35)
    ∷ case (code (0 ∷ 0 ∷ 0 ∷ 1 ∷ []) 0) (no 35)
    ∷ case (code (0 ∷ 0 ∷ 0 ∷ 0 ∷ 128 ∷ []) 0) (no 14)
    -- codes up to the last bit: of one bit, of five, and the longest; and each with its last bit past the end
    ∷ case (code (1 ∷ []) 7) (value 0 8)
    ∷ case (code (1 ∷ []) 8) (no 35)
    ∷ case (code (0b00000110 ∷ []) 3) (value 5 8)
    ∷ case (code (0b00000011 ∷ []) 4) (no 35)
    ∷ case (code (0 ∷ 0 ∷ 0 ∷ 0 ∷ 255 ∷ 255 ∷ 255 ∷ 255 ∷ []) 1) (value 4294967294 64)
    ∷ case (code (0 ∷ 0 ∷ 0 ∷ 1 ∷ 255 ∷ 255 ∷ 255 ∷ []) 0) (no 35)
    -- P7 to P12: U, U and FF, and U with another last byte
    ∷ case (read (unit 0x40)) (vps_record (record_u 0 (0 ∷ []) 38) 64)
    ∷ case (read (unit 0x40 ++ (0xff ∷ []))) (vps_record (record_u 0 (0 ∷ []) 38) 64)
    ∷ case (read (unit 0x00)) (no 28)
    ∷ case (read (unit 0x41)) (no 29)
    ∷ case (read (unit 0xe0)) (vps_record (record_u 1 (1 ∷ 1 ∷ []) 39) 64)
    ∷ case (read (unit 0xd0)) (vps_record (record_u 1 (2 ∷ 1 ∷ 0 ∷ []) 40) 64)
    -- P13 to P15, and a lone 00
    ∷ case (read (0 ∷ 0x71 ∷ [])) (no 34)
    ∷ case (read (0 ∷ 0x79 ∷ [])) (no 2)
    ∷ case (read (0 ∷ 0x71 ∷ 0x10 ∷ 0x38 ∷ [])) (no 5)
    ∷ case (read (0 ∷ [])) (no 1)
    -- U's record is written as U
    ∷ case (written (record_u 0 (0 ∷ []) 38)) (bytes (unit 0x40))
    -- with extension bits 1; 1 0; 0 alone; 1 0 0; and none under flag 1
    ∷ case (written (record_u 1 (1 ∷ 1 ∷ []) 39)) (bytes (unit 0xe0))
    ∷ case (written (record_u 1 (2 ∷ 1 ∷ 0 ∷ []) 40)) (bytes (unit 0xd0))
    ∷ case (written (record_u 1 (1 ∷ 0 ∷ []) 39)) (bytes (unit 0xa0))
    ∷ case (written (record_u 1 (3 ∷ 1 ∷ 0 ∷ 0 ∷ []) 41)) (bytes (unit 0xc8))
    ∷ case (written (record_u 1 (0 ∷ []) 38)) (bytes (unit 0xc0))
    -- rows of layers 0 to 2
    ∷ case (multi (0 ∷ 0 ∷ 1 ∷ [])) (count 1)
    ∷ case (included (0 ∷ 0 ∷ 1 ∷ [])) (count 3)
    ∷ case (multi (1 ∷ 0 ∷ 0 ∷ [])) (count 0)
    ∷ case (included (1 ∷ 0 ∷ 0 ∷ [])) (count 1)
    -- nothing behind an id of 1
    ∷ case (read (0 ∷ 0x71 ∷ 0x10 ∷ [])) (no 27)
    -- id 0, and reserved sublayers
    ∷ case (read (0 ∷ 0x71 ∷ 0 ∷ 0x38 ∷ [])) (no 34)
    -- a layer's id equal to the one before
    ∷ case (read (0 ∷ 0x71 ∷ 0x10 ∷ 0x40 ∷ 0 ∷ 8 ∷ 0 ∷ 2 ∷ 0x33 ∷ 0 ∷ 0 ∷ 0xfc ∷ 0x90 ∷ [])) (no 6)
    -- layer 1 without reference, and then an id that doesn't rise
    ∷ case (read (0 ∷ 0x71 ∷ 0x10 ∷ 0x80 ∷ 0 ∷ 0x40 ∷ 0 ∷ [])) (no 7)
    -- mode 3, and then more PTLs than sets
    ∷ case (read (0 ∷ 0x71 ∷ 0x10 ∷ 0x40 ∷ 0 ∷ 0x4f ∷ 0xfe ∷ [])) (no 8)
    -- a row without output layer, and then more PTLs than sets
    ∷ case (read (0 ∷ 0x71 ∷ 0x10 ∷ 0x44 ∷ 0 ∷ 0x40 ∷ 7 ∷ 0xf8 ∷ [])) (no 9)
    -- past the end in the layers: the rows are still looked at
    ∷ case (read (0 ∷ 0x71 ∷ 0x10 ∷ 0x4a ∷ 0x5f ∷ [])) (no 9)
    -- three PTLs for two sets
    ∷ case (read (0 ∷ 0x71 ∷ 0x10 ∷ 0x40 ∷ 0 ∷ 0x48 ∷ 4 ∷ [])) (no 10)
    -- a PTL's max tid over the sublayers, and then an alignment bit 1
    ∷ case (read (0 ∷ 0x71 ∷ 0x10 ∷ 0x50 ∷ 0 ∷ 0x24 ∷ 0 ∷ 0x7f ∷ [])) (no 11)
    -- an alignment bit 1 before the PTLs
    ∷ case (read (0 ∷ 0x71 ∷ 0x10 ∷ 0x40 ∷ 0 ∷ 0x48 ∷ 1 ∷ [])) (no 12)
    -- a PTL index of 2 for two PTLs
    ∷ case (read (0 ∷ 0x71 ∷ 0x10 ∷ 0xc0 ∷ 0 ∷ 0x48 ∷ 0x44 ∷ 0x19 ∷ 0 ∷ 0x10 ∷ 2 ∷ 0x33 ∷ 0 ∷ 0 ∷ 0x33 ∷ 0 ∷ 0xb5 ∷ 0x5f ∷ 0xe6 ∷ 0xa5 ∷ 0x39 ∷ 0x90 ∷ [])) (no 13)
    -- constraints of 80 bits, and ones in the alignment behind them
    ∷ case (read (0 ∷ 0x71 ∷ 0x10 ∷ 0 ∷ 0 ∷ 3 ∷ 2 ∷ 0x33 ∷ 0x30 ∷ 0x10 ∷ 0x10 ∷ 0x10 ∷ 0x10 ∷ 0x10 ∷ 0x10 ∷ 0x10 ∷ 0x10 ∷ 3 ∷ 0xff ∷ 0 ∷ 0x40 ∷ [])) (vps_record (1 ∷ 1 ∷ 0 ∷ 1 ∷ 1 ∷ 1 ∷ 2 ∷ 0 ∷ 0 ∷ 0 ∷ 1 ∷ 0 ∷ 0 ∷ 1 ∷ 1 ∷ 0 ∷ 1 ∷ 0 ∷ 51 ∷ 0 ∷ 0 ∷ 1 ∷ 80 ∷ 1 ∷ 0 ∷ 0 ∷ 0 ∷ 0 ∷ 0 ∷ 0 ∷ 0 ∷ 1 ∷ 0 ∷ 0 ∷ 0 ∷ 0 ∷ 0 ∷ 0 ∷ 0 ∷ 1 ∷ 0 ∷ 0 ∷ 0 ∷ 0 ∷ 0 ∷ 0 ∷ 0 ∷ 1 ∷ 0 ∷ 0 ∷ 0 ∷ 0 ∷ 0 ∷ 0 ∷ 0 ∷ 1 ∷ 0 ∷ 0 ∷ 0 ∷ 0 ∷ 0 ∷ 0 ∷ 0 ∷ 1 ∷ 0 ∷ 0 ∷ 0 ∷ 0 ∷ 0 ∷ 0 ∷ 0 ∷ 1 ∷ 0 ∷ 0 ∷ 0 ∷ 0 ∷ 0 ∷ 0 ∷ 0 ∷ 1 ∷ 0 ∷ 0 ∷ 0 ∷ 0 ∷ 0 ∷ 0 ∷ 0 ∷ 1 ∷ 0 ∷ 0 ∷ 0 ∷ 0 ∷ 0 ∷ 0 ∷ 0 ∷ 0 ∷ 0 ∷ 0 ∷ 1 ∷ 1 ∷ 1 ∷ 1 ∷ 1 ∷ 0 ∷ 1 ∷ 0 ∷ 0 ∷ 0 ∷ 0 ∷ 0 ∷ 9 ∷ 12 ∷ 13 ∷ 104 ∷ 106 ∷ 108 ∷ 109 ∷ 118 ∷ []) 144)
    -- constraints of 83 bits
    ∷ case (read (0 ∷ 0x71 ∷ 0x10 ∷ 0 ∷ 0 ∷ 3 ∷ 2 ∷ 0x33 ∷ 0x30 ∷ 0x10 ∷ 0x10 ∷ 0x10 ∷ 0x10 ∷ 0x10 ∷ 0x10 ∷ 0x10 ∷ 0x10 ∷ 6 ∷ 0xfc ∷ 0 ∷ 0x40 ∷ [])) (vps_record (1 ∷ 1 ∷ 0 ∷ 1 ∷ 1 ∷ 1 ∷ 2 ∷ 0 ∷ 0 ∷ 0 ∷ 1 ∷ 0 ∷ 0 ∷ 1 ∷ 1 ∷ 0 ∷ 1 ∷ 0 ∷ 51 ∷ 0 ∷ 0 ∷ 1 ∷ 83 ∷ 1 ∷ 0 ∷ 0 ∷ 0 ∷ 0 ∷ 0 ∷ 0 ∷ 0 ∷ 1 ∷ 0 ∷ 0 ∷ 0 ∷ 0 ∷ 0 ∷ 0 ∷ 0 ∷ 1 ∷ 0 ∷ 0 ∷ 0 ∷ 0 ∷ 0 ∷ 0 ∷ 0 ∷ 1 ∷ 0 ∷ 0 ∷ 0 ∷ 0 ∷ 0 ∷ 0 ∷ 0 ∷ 1 ∷ 0 ∷ 0 ∷ 0 ∷ 0 ∷ 0 ∷ 0 ∷ 0 ∷ 1 ∷ 0 ∷ 0 ∷ 0 ∷ 0 ∷ 0 ∷ 0 ∷ 0 ∷ 1 ∷ 0 ∷ 0 ∷ 0 ∷ 0 ∷ 0 ∷ 0 ∷ 0 ∷ 1 ∷ 0 ∷ 0 ∷ 0 ∷ 0 ∷ 0 ∷ 0 ∷ 0 ∷ 1 ∷ 0 ∷ 0 ∷ 0 ∷ 0 ∷ 0 ∷ 0 ∷ 0 ∷ 0 ∷ 0 ∷ 1 ∷ 1 ∷ 0 ∷ 1 ∷ 1 ∷ 1 ∷ 1 ∷ 1 ∷ 1 ∷ 0 ∷ 1 ∷ 0 ∷ 0 ∷ 0 ∷ 0 ∷ 0 ∷ 9 ∷ 12 ∷ 13 ∷ 107 ∷ 109 ∷ 111 ∷ 112 ∷ 121 ∷ []) 144)
    -- levels of sublayers 0 and 1, and a sub-profile
    ∷ case (read (0 ∷ 0x71 ∷ 0x10 ∷ 0x18 ∷ 0 ∷ 2 ∷ 0x33 ∷ 0 ∷ 0x60 ∷ 0x23 ∷ 0x10 ∷ 1 ∷ 0x80 ∷ 0 ∷ 0 ∷ 3 ∷ 1 ∷ 0x40 ∷ [])) (vps_record (1 ∷ 1 ∷ 3 ∷ 1 ∷ 1 ∷ 1 ∷ 2 ∷ 0 ∷ 0 ∷ 0 ∷ 1 ∷ 0 ∷ 0 ∷ 1 ∷ 1 ∷ 3 ∷ 1 ∷ 0 ∷ 51 ∷ 0 ∷ 0 ∷ 0 ∷ 0 ∷ 1 ∷ 1 ∷ 0 ∷ 16 ∷ 35 ∷ 1 ∷ 2147483649 ∷ 1 ∷ 0 ∷ 0 ∷ 0 ∷ 0 ∷ 0 ∷ 9 ∷ 12 ∷ 13 ∷ 30 ∷ 32 ∷ 34 ∷ 35 ∷ 44 ∷ []) 120)
    -- 32 zeros for a code
    ∷ case (read (0 ∷ 0x71 ∷ 0x10 ∷ 0x40 ∷ 0 ∷ 0x48 ∷ 0 ∷ 2 ∷ 0x33 ∷ 0 ∷ 0 ∷ 3 ∷ 0 ∷ 0 ∷ 3 ∷ 0 ∷ 0 ∷ 3 ∷ [])) (no 14)
    -- two DPB slots for one multi-layer set
    ∷ case (read (0 ∷ 0x71 ∷ 0x10 ∷ 0x40 ∷ 0 ∷ 0x48 ∷ 0 ∷ 2 ∷ 0x33 ∷ 0 ∷ 0 ∷ 0x40 ∷ [])) (no 15)
    -- a row of layer 0 alone: a DPB slot and no multi-layer set
    ∷ case (read (0 ∷ 0x71 ∷ 0x10 ∷ 0x80 ∷ 0 ∷ 0x48 ∷ 0x43 ∷ 0 ∷ 0x40 ∷ 0 ∷ 2 ∷ 0x33 ∷ 0 ∷ 0 ∷ 0x80 ∷ [])) (no 15)
    -- a DPB slot's max tid over the sublayers
    ∷ case (read (0 ∷ 0x71 ∷ 0x10 ∷ 0x50 ∷ 0 ∷ 0x24 ∷ 0 ∷ 0x40 ∷ 2 ∷ 0x33 ∷ 0 ∷ 0x40 ∷ 0x23 ∷ 0 ∷ 0xd8 ∷ [])) (no 16)
    -- buffering 16, and then 32 zeros
    ∷ case (read (0 ∷ 0x71 ∷ 0x10 ∷ 0x40 ∷ 0 ∷ 0x48 ∷ 0 ∷ 2 ∷ 0x33 ∷ 0 ∷ 0 ∷ 0x84 ∷ 0x40 ∷ 0 ∷ 0 ∷ 3 ∷ 0 ∷ 0 ∷ 3 ∷ [])) (no 17)
    -- reorder over buffering, and then 32 zeros
    ∷ case (read (0 ∷ 0x71 ∷ 0x10 ∷ 0x40 ∷ 0 ∷ 0x48 ∷ 0 ∷ 2 ∷ 0x33 ∷ 0 ∷ 0 ∷ 0xd0 ∷ 0 ∷ 0 ∷ 3 ∷ 0 ∷ 0 ∷ 3 ∷ [])) (no 18)
    -- depth 9, and then 32 zeros
    ∷ case (read (0 ∷ 0x71 ∷ 0x10 ∷ 0xc0 ∷ 0 ∷ 0x48 ∷ 0x44 ∷ 0x19 ∷ 0 ∷ 0x10 ∷ 2 ∷ 0x33 ∷ 0 ∷ 0 ∷ 0x33 ∷ 0 ∷ 0xa5 ∷ 0x5f ∷ 0xe0 ∷ 0xa0 ∷ 0 ∷ 0 ∷ 3 ∷ 0 ∷ 0 ∷ 3 ∷ [])) (no 19)
    -- a code that ends among its zeros
    ∷ case (read (0 ∷ 0x71 ∷ 0x10 ∷ 0x40 ∷ 0 ∷ 0x48 ∷ 0 ∷ 2 ∷ 0x33 ∷ 0 ∷ 0 ∷ 0xfc ∷ 0 ∷ [])) (no 35)
    -- a DPB index of 2 for two slots
    ∷ case (read (0 ∷ 0x71 ∷ 0x10 ∷ 0xc0 ∷ 0 ∷ 0x48 ∷ 0x44 ∷ 0x19 ∷ 0 ∷ 0x10 ∷ 2 ∷ 0x33 ∷ 0 ∷ 0 ∷ 0x33 ∷ 0 ∷ 0xa5 ∷ 0x5f ∷ 0xe5 ∷ 0xa9 ∷ 0x4e ∷ 0x64 ∷ [])) (no 20)
    -- no units in a tick
    ∷ case (read (0 ∷ 0x71 ∷ 0x10 ∷ 0x40 ∷ 0 ∷ 0x48 ∷ 0 ∷ 2 ∷ 0x33 ∷ 0 ∷ 0 ∷ 0xfc ∷ 0xc0 ∷ 0 ∷ 0 ∷ 3 ∷ 0 ∷ 0 ∷ 3 ∷ 0 ∷ 0 ∷ 0x0c ∷ 0x80 ∷ [])) (no 21)
    -- schedule count 32, and then 32 zeros
    ∷ case (read (0 ∷ 0x71 ∷ 0x10 ∷ 0x40 ∷ 0 ∷ 0x48 ∷ 0 ∷ 2 ∷ 0x33 ∷ 0 ∷ 0 ∷ 0xfc ∷ 0xc0 ∷ 0 ∷ 0 ∷ 3 ∷ 0 ∷ 0x40 ∷ 0 ∷ 0 ∷ 0x0c ∷ 0xa0 ∷ 0 ∷ 0x10 ∷ 0x80 ∷ 0 ∷ 0 ∷ 3 ∷ 0 ∷ 0 ∷ 3 ∷ [])) (no 22)
    -- two timing entries for one multi-layer set
    ∷ case (read (0 ∷ 0x71 ∷ 0x10 ∷ 0x40 ∷ 0 ∷ 0x48 ∷ 0 ∷ 2 ∷ 0x33 ∷ 0 ∷ 0 ∷ 0xfc ∷ 0xc0 ∷ 0 ∷ 0 ∷ 3 ∷ 0 ∷ 0x40 ∷ 0 ∷ 0 ∷ 0x0c ∷ 0x84 ∷ [])) (no 23)
    -- a timing entry's max tid over the sublayers
    ∷ case (read (0 ∷ 0x71 ∷ 0x10 ∷ 0x50 ∷ 0 ∷ 0x24 ∷ 0 ∷ 0x40 ∷ 2 ∷ 0x33 ∷ 0 ∷ 0x40 ∷ 0x23 ∷ 0 ∷ 0xcb ∷ 0x70 ∷ 0x85 ∷ 0x66 ∷ 0 ∷ 0 ∷ 3 ∷ 0 ∷ 2 ∷ 0 ∷ 0 ∷ 3 ∷ 0 ∷ 0x64 ∷ 0x6c ∷ [])) (no 24)
    -- elemental duration 2,048, and then 32 zeros
    ∷ case (read (0 ∷ 0x71 ∷ 0x10 ∷ 0x40 ∷ 0 ∷ 0x48 ∷ 0 ∷ 2 ∷ 0x33 ∷ 0 ∷ 0 ∷ 0xfc ∷ 0xc0 ∷ 0 ∷ 0 ∷ 3 ∷ 0 ∷ 0x40 ∷ 0 ∷ 0 ∷ 0x0c ∷ 0xa0 ∷ 3 ∷ 0x80 ∷ 8 ∷ 1 ∷ 0 ∷ 0 ∷ 3 ∷ 0 ∷ 0 ∷ 3 ∷ [])) (no 25)
    -- a timing index of 2 for two entries
    ∷ case (read (0 ∷ 0x71 ∷ 0x10 ∷ 0xc0 ∷ 0 ∷ 0x48 ∷ 0x44 ∷ 0x19 ∷ 0 ∷ 0x10 ∷ 2 ∷ 0x33 ∷ 0 ∷ 0 ∷ 0x33 ∷ 0 ∷ 0xa5 ∷ 0x5f ∷ 0xe6 ∷ 0xa5 ∷ 0x39 ∷ 0xc0 ∷ 0 ∷ 0 ∷ 3 ∷ 0 ∷ 0x40 ∷ 0 ∷ 0 ∷ 0x0c ∷ 0x84 ∷ 0x0e ∷ 0x90 ∷ [])) (no 26)
    -- nothing left for the depth
    ∷ case (read (0 ∷ 0x71 ∷ 0x10 ∷ 0x40 ∷ 0 ∷ 0x48 ∷ 0 ∷ 2 ∷ 0x33 ∷ 0 ∷ 0 ∷ 0xfc ∷ [])) (no 35)
    -- the extension flag as the RBSP's last bit, behind the indices 0, 1, 1
    ∷ case (read (0 ∷ 0x71 ∷ 0x10 ∷ 0x84 ∷ 0 ∷ 0x42 ∷ 0x80 ∷ 0x80 ∷ 2 ∷ 0x33 ∷ 0 ∷ 0 ∷ 0x33 ∷ 0 ∷ 0xa5 ∷ [])) (no 27)
    -- nothing but zeros behind the extension flag, in its byte and in a further one
    ∷ case (read (unit 0x80)) (no 28)
    ∷ case (read (unit 0x80 ++ (0 ∷ []))) (no 28)
    -- one one-bit behind the flag, the stop bit
    ∷ case (read (unit 0xc0)) (vps_record (record_u 1 (0 ∷ []) 38) 64)
    -- the extension bit 0 alone, and bits that end in 00
    ∷ case (read (unit 0xa0)) (vps_record (record_u 1 (1 ∷ 0 ∷ []) 39) 64)
    ∷ case (read (unit 0xc8)) (vps_record (record_u 1 (3 ∷ 1 ∷ 0 ∷ 0 ∷ []) 41) 64)
    -- ones, and whole zero bytes behind them: the last one is the stop bit
    ∷ case (read (unit 0xff ++ (0 ∷ 0 ∷ []))) (vps_record (record_u 1 (6 ∷ 1 ∷ 1 ∷ 1 ∷ 1 ∷ 1 ∷ 1 ∷ []) 44) 64)
    -- a one and zeros, up to the stop bit in the next byte
    ∷ case (read (unit 0xc0 ++ (0x80 ∷ []))) (vps_record (record_u 1 (7 ∷ 1 ∷ 0 ∷ 0 ∷ 0 ∷ 0 ∷ 0 ∷ 0 ∷ []) 45) 72)
    -- an extension to the end of the RBSP
    ∷ case (read (0 ∷ 0x71 ∷ 0x10 ∷ 0 ∷ 0 ∷ 3 ∷ 2 ∷ 0x33 ∷ 0 ∷ 0 ∷ 0xc0 ∷ 0xff ∷ [])) (vps_record (1 ∷ 1 ∷ 0 ∷ 1 ∷ 1 ∷ 1 ∷ 2 ∷ 0 ∷ 1 ∷ 0 ∷ 1 ∷ 0 ∷ 0 ∷ 1 ∷ 1 ∷ 0 ∷ 1 ∷ 0 ∷ 51 ∷ 0 ∷ 0 ∷ 0 ∷ 0 ∷ 0 ∷ 1 ∷ 0 ∷ 0 ∷ 0 ∷ 0 ∷ 14 ∷ 1 ∷ 0 ∷ 0 ∷ 0 ∷ 0 ∷ 0 ∷ 0 ∷ 1 ∷ 1 ∷ 1 ∷ 1 ∷ 1 ∷ 1 ∷ 1 ∷ 9 ∷ 12 ∷ 13 ∷ 24 ∷ 26 ∷ 28 ∷ 29 ∷ 52 ∷ []) 72)
    -- other header bytes of a VPS
    ∷ case (read (255 ∷ 0x77 ∷ 0x10 ∷ 0 ∷ 0 ∷ 3 ∷ 2 ∷ 0x33 ∷ 0 ∷ 0 ∷ 0x40 ∷ [])) (vps_record (1 ∷ 1 ∷ 0 ∷ 1 ∷ 1 ∷ 1 ∷ 2 ∷ 0 ∷ 0 ∷ 0 ∷ 1 ∷ 0 ∷ 0 ∷ 1 ∷ 1 ∷ 0 ∷ 1 ∷ 0 ∷ 51 ∷ 0 ∷ 0 ∷ 0 ∷ 0 ∷ 0 ∷ 1 ∷ 0 ∷ 0 ∷ 0 ∷ 0 ∷ 0 ∷ 9 ∷ 12 ∷ 13 ∷ 24 ∷ 26 ∷ 28 ∷ 29 ∷ 38 ∷ []) 64)
    -- mode 0: layer 1 on layer 0
    ∷ case (read (0 ∷ 0x71 ∷ 0x10 ∷ 0x40 ∷ 0 ∷ 0x48 ∷ 0 ∷ 2 ∷ 0x33 ∷ 0 ∷ 0 ∷ 0xfc ∷ 0x90 ∷ [])) (vps_record (2 ∷ 1 ∷ 0 ∷ 1 ∷ 0 ∷ 0 ∷ 0 ∷ 0 ∷ 0 ∷ 0 ∷ 1 ∷ 0 ∷ 1 ∷ 0 ∷ 0 ∷ 1 ∷ 1 ∷ 0 ∷ 1 ∷ 1 ∷ 0 ∷ 1 ∷ 0 ∷ 51 ∷ 0 ∷ 0 ∷ 0 ∷ 0 ∷ 0 ∷ 2 ∷ 0 ∷ 0 ∷ 1 ∷ 0 ∷ 0 ∷ 0 ∷ 0 ∷ 1 ∷ 0 ∷ 0 ∷ 0 ∷ 0 ∷ 0 ∷ 0 ∷ 0 ∷ 9 ∷ 17 ∷ 18 ∷ 29 ∷ 32 ∷ 43 ∷ 44 ∷ 53 ∷ []) 88)
    -- a reference's max tid of 7
    ∷ case (read (0 ∷ 0x71 ∷ 0x10 ∷ 0x40 ∷ 0 ∷ 0x5f ∷ 0 ∷ 0 ∷ 3 ∷ 2 ∷ 0x33 ∷ 0 ∷ 0 ∷ 0xfc ∷ 0x90 ∷ [])) (vps_record (2 ∷ 1 ∷ 0 ∷ 1 ∷ 0 ∷ 0 ∷ 0 ∷ 0 ∷ 0 ∷ 0 ∷ 1 ∷ 0 ∷ 1 ∷ 0 ∷ 1 ∷ 1 ∷ 7 ∷ 0 ∷ 1 ∷ 1 ∷ 0 ∷ 1 ∷ 0 ∷ 51 ∷ 0 ∷ 0 ∷ 0 ∷ 0 ∷ 0 ∷ 2 ∷ 0 ∷ 0 ∷ 1 ∷ 0 ∷ 0 ∷ 0 ∷ 0 ∷ 1 ∷ 0 ∷ 0 ∷ 0 ∷ 0 ∷ 0 ∷ 0 ∷ 0 ∷ 9 ∷ 17 ∷ 18 ∷ 29 ∷ 32 ∷ 43 ∷ 44 ∷ 53 ∷ []) 96)
    -- mode 1: three layers, each on the one below
    ∷ case (read (0 ∷ 0x71 ∷ 0x10 ∷ 0x80 ∷ 0 ∷ 0x48 ∷ 0x42 ∷ 0x80 ∷ 0 ∷ 2 ∷ 0x33 ∷ 0 ∷ 0 ∷ 0xfc ∷ 0xe4 ∷ 0x80 ∷ [])) (vps_record (3 ∷ 1 ∷ 0 ∷ 1 ∷ 0 ∷ 0 ∷ 1 ∷ 0 ∷ 0 ∷ 0 ∷ 1 ∷ 0 ∷ 1 ∷ 0 ∷ 0 ∷ 1 ∷ 1 ∷ 2 ∷ 0 ∷ 0 ∷ 0 ∷ 1 ∷ 1 ∷ 1 ∷ 0 ∷ 1 ∷ 1 ∷ 0 ∷ 1 ∷ 0 ∷ 51 ∷ 0 ∷ 0 ∷ 0 ∷ 0 ∷ 0 ∷ 3 ∷ 0 ∷ 0 ∷ 0 ∷ 1 ∷ 0 ∷ 0 ∷ 0 ∷ 0 ∷ 2 ∷ 0 ∷ 0 ∷ 0 ∷ 0 ∷ 0 ∷ 0 ∷ 0 ∷ 0 ∷ 0 ∷ 0 ∷ 0 ∷ 0 ∷ 9 ∷ 24 ∷ 25 ∷ 36 ∷ 40 ∷ 56 ∷ 57 ∷ 66 ∷ []) 112)
    -- mode 2: rows 001, 100, 110
    ∷ case (read (0 ∷ 0x71 ∷ 0x10 ∷ 0x80 ∷ 0 ∷ 0x48 ∷ 0x43 ∷ 1 ∷ 0x19 ∷ 0x80 ∷ 0 ∷ 2 ∷ 0x33 ∷ 0 ∷ 0 ∷ 0xfc ∷ 0xe4 ∷ 0x80 ∷ [])) (vps_record (3 ∷ 1 ∷ 0 ∷ 1 ∷ 0 ∷ 0 ∷ 2 ∷ 0 ∷ 0 ∷ 0 ∷ 1 ∷ 0 ∷ 1 ∷ 0 ∷ 0 ∷ 1 ∷ 1 ∷ 2 ∷ 0 ∷ 0 ∷ 0 ∷ 1 ∷ 1 ∷ 1 ∷ 3 ∷ 0 ∷ 0 ∷ 1 ∷ 1 ∷ 0 ∷ 0 ∷ 1 ∷ 1 ∷ 0 ∷ 1 ∷ 1 ∷ 0 ∷ 1 ∷ 0 ∷ 51 ∷ 0 ∷ 0 ∷ 0 ∷ 0 ∷ 0 ∷ 4 ∷ 0 ∷ 0 ∷ 0 ∷ 0 ∷ 1 ∷ 0 ∷ 0 ∷ 0 ∷ 0 ∷ 2 ∷ 0 ∷ 0 ∷ 0 ∷ 0 ∷ 0 ∷ 0 ∷ 0 ∷ 0 ∷ 0 ∷ 0 ∷ 0 ∷ 0 ∷ 9 ∷ 24 ∷ 34 ∷ 45 ∷ 50 ∷ 66 ∷ 67 ∷ 76 ∷ []) 128)
    -- mode 2 inferred
    ∷ case (read (0 ∷ 0x71 ∷ 0x10 ∷ 0x44 ∷ 0 ∷ 0x40 ∷ 0x18 ∷ 0 ∷ 2 ∷ 0x33 ∷ 0 ∷ 0 ∷ 0xfc ∷ 0x90 ∷ [])) (vps_record (2 ∷ 1 ∷ 0 ∷ 1 ∷ 1 ∷ 0 ∷ 2 ∷ 0 ∷ 0 ∷ 0 ∷ 1 ∷ 0 ∷ 1 ∷ 1 ∷ 0 ∷ 1 ∷ 1 ∷ 1 ∷ 1 ∷ 1 ∷ 0 ∷ 1 ∷ 0 ∷ 51 ∷ 0 ∷ 0 ∷ 0 ∷ 0 ∷ 0 ∷ 2 ∷ 0 ∷ 0 ∷ 1 ∷ 0 ∷ 0 ∷ 0 ∷ 0 ∷ 1 ∷ 0 ∷ 0 ∷ 0 ∷ 0 ∷ 0 ∷ 0 ∷ 0 ∷ 9 ∷ 15 ∷ 18 ∷ 29 ∷ 32 ∷ 43 ∷ 44 ∷ 53 ∷ []) 96)
    -- each layer a set, with a PTL for each
    ∷ case (read (0 ∷ 0x71 ∷ 0x10 ∷ 0x44 ∷ 0 ∷ 0x60 ∷ 0x20 ∷ 2 ∷ 0x33 ∷ 0 ∷ 0 ∷ 0x33 ∷ 0 ∷ 0x40 ∷ [])) (vps_record (2 ∷ 1 ∷ 0 ∷ 1 ∷ 1 ∷ 1 ∷ 2 ∷ 0 ∷ 0 ∷ 0 ∷ 1 ∷ 0 ∷ 1 ∷ 1 ∷ 0 ∷ 0 ∷ 2 ∷ 1 ∷ 0 ∷ 1 ∷ 0 ∷ 51 ∷ 0 ∷ 0 ∷ 0 ∷ 0 ∷ 0 ∷ 0 ∷ 0 ∷ 51 ∷ 0 ∷ 0 ∷ 2 ∷ 0 ∷ 1 ∷ 0 ∷ 0 ∷ 0 ∷ 0 ∷ 9 ∷ 15 ∷ 16 ∷ 32 ∷ 35 ∷ 37 ∷ 38 ∷ 47 ∷ []) 96)
    -- coded max tids, buffers and timing by sublayer
    ∷ case (read (0 ∷ 0x71 ∷ 0x10 ∷ 0x50 ∷ 0 ∷ 0x24 ∷ 0 ∷ 0x40 ∷ 2 ∷ 0x33 ∷ 0 ∷ 0x40 ∷ 0x23 ∷ 0 ∷ 0xcb ∷ 0x70 ∷ 0x85 ∷ 0x66 ∷ 0 ∷ 0 ∷ 3 ∷ 0 ∷ 2 ∷ 0 ∷ 0 ∷ 3 ∷ 0 ∷ 0x64 ∷ 0x64 ∷ 0x80 ∷ 8 ∷ 0 ∷ 0x40 ∷ [])) (vps_record (2 ∷ 1 ∷ 2 ∷ 0 ∷ 0 ∷ 0 ∷ 0 ∷ 1 ∷ 0 ∷ 0 ∷ 1 ∷ 0 ∷ 1 ∷ 0 ∷ 0 ∷ 1 ∷ 3 ∷ 0 ∷ 1 ∷ 1 ∷ 2 ∷ 1 ∷ 0 ∷ 51 ∷ 0 ∷ 0 ∷ 0 ∷ 0 ∷ 1 ∷ 0 ∷ 35 ∷ 0 ∷ 2 ∷ 0 ∷ 0 ∷ 1 ∷ 1 ∷ 2 ∷ 2 ∷ 0 ∷ 15 ∷ 0 ∷ 1 ∷ 1 ∷ 0 ∷ 0 ∷ 0 ∷ 0 ∷ 0 ∷ 1 ∷ 1 ∷ 50 ∷ 0 ∷ 0 ∷ 0 ∷ 0 ∷ 0 ∷ 0 ∷ 0 ∷ 0 ∷ 0 ∷ 1 ∷ 1 ∷ 1 ∷ 0 ∷ 0 ∷ 0 ∷ 0 ∷ 1 ∷ 1 ∷ 2047 ∷ 0 ∷ 0 ∷ 0 ∷ 9 ∷ 17 ∷ 18 ∷ 32 ∷ 35 ∷ 49 ∷ 73 ∷ 82 ∷ []) 232)
    -- two PTLs, slots and entries, with coded indices
    ∷ case (read (0 ∷ 0x71 ∷ 0x10 ∷ 0xc0 ∷ 0 ∷ 0x48 ∷ 0x44 ∷ 0x19 ∷ 0 ∷ 0x10 ∷ 2 ∷ 0x33 ∷ 0 ∷ 0 ∷ 0x33 ∷ 0 ∷ 0xa5 ∷ 0x5f ∷ 0xe6 ∷ 0xa5 ∷ 0x39 ∷ 0xc0 ∷ 0 ∷ 0 ∷ 3 ∷ 0 ∷ 0x40 ∷ 0 ∷ 0 ∷ 0x0c ∷ 0x84 ∷ 0x0a ∷ 0x90 ∷ [])) (vps_record (4 ∷ 1 ∷ 0 ∷ 1 ∷ 0 ∷ 0 ∷ 0 ∷ 0 ∷ 0 ∷ 0 ∷ 1 ∷ 0 ∷ 1 ∷ 0 ∷ 0 ∷ 1 ∷ 1 ∷ 2 ∷ 0 ∷ 0 ∷ 1 ∷ 1 ∷ 0 ∷ 1 ∷ 3 ∷ 0 ∷ 0 ∷ 1 ∷ 1 ∷ 0 ∷ 1 ∷ 0 ∷ 1 ∷ 0 ∷ 2 ∷ 1 ∷ 0 ∷ 1 ∷ 0 ∷ 51 ∷ 0 ∷ 0 ∷ 0 ∷ 0 ∷ 0 ∷ 0 ∷ 0 ∷ 51 ∷ 0 ∷ 0 ∷ 4 ∷ 0 ∷ 1 ∷ 1 ∷ 0 ∷ 2 ∷ 0 ∷ 0 ∷ 0 ∷ 0 ∷ 0 ∷ 0 ∷ 0 ∷ 0 ∷ 3 ∷ 0 ∷ 0 ∷ 0 ∷ 0 ∷ 0 ∷ 1 ∷ 0 ∷ 0 ∷ 0 ∷ 1 ∷ 2 ∷ 0 ∷ 0 ∷ 0 ∷ 0 ∷ 1 ∷ 1 ∷ 50 ∷ 0 ∷ 0 ∷ 0 ∷ 0 ∷ 0 ∷ 0 ∷ 0 ∷ 0 ∷ 0 ∷ 0 ∷ 2 ∷ 0 ∷ 0 ∷ 0 ∷ 0 ∷ 0 ∷ 0 ∷ 0 ∷ 0 ∷ 0 ∷ 0 ∷ 1 ∷ 0 ∷ 1 ∷ 0 ∷ 9 ∷ 33 ∷ 34 ∷ 50 ∷ 55 ∷ 80 ∷ 107 ∷ 116 ∷ []) 240)
    -- NAL and VCL with DU, two schedules each
    ∷ case (read (0 ∷ 0x71 ∷ 0x10 ∷ 0x40 ∷ 0 ∷ 0x48 ∷ 0 ∷ 2 ∷ 0x33 ∷ 0 ∷ 0 ∷ 0xfc ∷ 0xc0 ∷ 0 ∷ 0 ∷ 3 ∷ 0 ∷ 0x40 ∷ 0 ∷ 0 ∷ 0x0c ∷ 0xb4 ∷ 0 ∷ 0 ∷ 0x14 ∷ 0x4c ∷ 0x85 ∷ 0xb6 ∷ 0x42 ∷ 0xd3 ∷ 0x21 ∷ 0x6d ∷ 0x90 ∷ 0xb4 ∷ [])) (vps_record (2 ∷ 1 ∷ 0 ∷ 1 ∷ 0 ∷ 0 ∷ 0 ∷ 0 ∷ 0 ∷ 0 ∷ 1 ∷ 0 ∷ 1 ∷ 0 ∷ 0 ∷ 1 ∷ 1 ∷ 0 ∷ 1 ∷ 1 ∷ 0 ∷ 1 ∷ 0 ∷ 51 ∷ 0 ∷ 0 ∷ 0 ∷ 0 ∷ 0 ∷ 2 ∷ 0 ∷ 0 ∷ 1 ∷ 0 ∷ 0 ∷ 0 ∷ 0 ∷ 1 ∷ 0 ∷ 0 ∷ 0 ∷ 0 ∷ 0 ∷ 1 ∷ 1 ∷ 50 ∷ 1 ∷ 1 ∷ 0 ∷ 1 ∷ 0 ∷ 0 ∷ 0 ∷ 0 ∷ 1 ∷ 0 ∷ 1 ∷ 0 ∷ 0 ∷ 0 ∷ 0 ∷ 0 ∷ 1 ∷ 2 ∷ 3 ∷ 4 ∷ 1 ∷ 2 ∷ 2 ∷ 3 ∷ 4 ∷ 1 ∷ 1 ∷ 2 ∷ 3 ∷ 4 ∷ 1 ∷ 2 ∷ 2 ∷ 3 ∷ 4 ∷ 1 ∷ 0 ∷ 0 ∷ 9 ∷ 17 ∷ 18 ∷ 29 ∷ 32 ∷ 43 ∷ 83 ∷ 92 ∷ []) 248)
    -- NAL with one schedule and low delay
    ∷ case (read (0 ∷ 0x71 ∷ 0x10 ∷ 0x40 ∷ 0 ∷ 0x48 ∷ 0 ∷ 2 ∷ 0x33 ∷ 0 ∷ 0 ∷ 0xfc ∷ 0xc0 ∷ 0 ∷ 0 ∷ 3 ∷ 0 ∷ 0x40 ∷ 0 ∷ 0 ∷ 0x0c ∷ 0xa0 ∷ 3 ∷ 0x29 ∷ 0xd0 ∷ [])) (vps_record (2 ∷ 1 ∷ 0 ∷ 1 ∷ 0 ∷ 0 ∷ 0 ∷ 0 ∷ 0 ∷ 0 ∷ 1 ∷ 0 ∷ 1 ∷ 0 ∷ 0 ∷ 1 ∷ 1 ∷ 0 ∷ 1 ∷ 1 ∷ 0 ∷ 1 ∷ 0 ∷ 51 ∷ 0 ∷ 0 ∷ 0 ∷ 0 ∷ 0 ∷ 2 ∷ 0 ∷ 0 ∷ 1 ∷ 0 ∷ 0 ∷ 0 ∷ 0 ∷ 1 ∷ 0 ∷ 0 ∷ 0 ∷ 0 ∷ 0 ∷ 1 ∷ 1 ∷ 50 ∷ 1 ∷ 0 ∷ 0 ∷ 0 ∷ 0 ∷ 0 ∷ 0 ∷ 0 ∷ 0 ∷ 0 ∷ 1 ∷ 0 ∷ 0 ∷ 0 ∷ 0 ∷ 1 ∷ 1 ∷ 2 ∷ 1 ∷ 0 ∷ 0 ∷ 9 ∷ 17 ∷ 18 ∷ 29 ∷ 32 ∷ 43 ∷ 66 ∷ 75 ∷ []) 176)
    -- the record of coded max tids is written as that unit
    ∷ case (written (2 ∷ 1 ∷ 2 ∷ 0 ∷ 0 ∷ 0 ∷ 0 ∷ 1 ∷ 0 ∷ 0 ∷ 1 ∷ 0 ∷ 1 ∷ 0 ∷ 0 ∷ 1 ∷ 3 ∷ 0 ∷ 1 ∷ 1 ∷ 2 ∷ 1 ∷ 0 ∷ 51 ∷ 0 ∷ 0 ∷ 0 ∷ 0 ∷ 1 ∷ 0 ∷ 35 ∷ 0 ∷ 2 ∷ 0 ∷ 0 ∷ 1 ∷ 1 ∷ 2 ∷ 2 ∷ 0 ∷ 15 ∷ 0 ∷ 1 ∷ 1 ∷ 0 ∷ 0 ∷ 0 ∷ 0 ∷ 0 ∷ 1 ∷ 1 ∷ 50 ∷ 0 ∷ 0 ∷ 0 ∷ 0 ∷ 0 ∷ 0 ∷ 0 ∷ 0 ∷ 0 ∷ 1 ∷ 1 ∷ 1 ∷ 0 ∷ 0 ∷ 0 ∷ 0 ∷ 1 ∷ 1 ∷ 2047 ∷ 0 ∷ 0 ∷ 0 ∷ 9 ∷ 17 ∷ 18 ∷ 32 ∷ 35 ∷ 49 ∷ 73 ∷ 82 ∷ [])) (bytes (0 ∷ 0x71 ∷ 0x10 ∷ 0x50 ∷ 0 ∷ 0x24 ∷ 0 ∷ 0x40 ∷ 2 ∷ 0x33 ∷ 0 ∷ 0x40 ∷ 0x23 ∷ 0 ∷ 0xcb ∷ 0x70 ∷ 0x85 ∷ 0x66 ∷ 0 ∷ 0 ∷ 3 ∷ 0 ∷ 2 ∷ 0 ∷ 0 ∷ 3 ∷ 0 ∷ 0x64 ∷ 0x64 ∷ 0x80 ∷ 8 ∷ 0 ∷ 0x40 ∷ []))
    -- the record of coded indices is written as that unit
    ∷ case (written (4 ∷ 1 ∷ 0 ∷ 1 ∷ 0 ∷ 0 ∷ 0 ∷ 0 ∷ 0 ∷ 0 ∷ 1 ∷ 0 ∷ 1 ∷ 0 ∷ 0 ∷ 1 ∷ 1 ∷ 2 ∷ 0 ∷ 0 ∷ 1 ∷ 1 ∷ 0 ∷ 1 ∷ 3 ∷ 0 ∷ 0 ∷ 1 ∷ 1 ∷ 0 ∷ 1 ∷ 0 ∷ 1 ∷ 0 ∷ 2 ∷ 1 ∷ 0 ∷ 1 ∷ 0 ∷ 51 ∷ 0 ∷ 0 ∷ 0 ∷ 0 ∷ 0 ∷ 0 ∷ 0 ∷ 51 ∷ 0 ∷ 0 ∷ 4 ∷ 0 ∷ 1 ∷ 1 ∷ 0 ∷ 2 ∷ 0 ∷ 0 ∷ 0 ∷ 0 ∷ 0 ∷ 0 ∷ 0 ∷ 0 ∷ 3 ∷ 0 ∷ 0 ∷ 0 ∷ 0 ∷ 0 ∷ 1 ∷ 0 ∷ 0 ∷ 0 ∷ 1 ∷ 2 ∷ 0 ∷ 0 ∷ 0 ∷ 0 ∷ 1 ∷ 1 ∷ 50 ∷ 0 ∷ 0 ∷ 0 ∷ 0 ∷ 0 ∷ 0 ∷ 0 ∷ 0 ∷ 0 ∷ 0 ∷ 2 ∷ 0 ∷ 0 ∷ 0 ∷ 0 ∷ 0 ∷ 0 ∷ 0 ∷ 0 ∷ 0 ∷ 0 ∷ 1 ∷ 0 ∷ 1 ∷ 0 ∷ 9 ∷ 33 ∷ 34 ∷ 50 ∷ 55 ∷ 80 ∷ 107 ∷ 116 ∷ [])) (bytes (0 ∷ 0x71 ∷ 0x10 ∷ 0xc0 ∷ 0 ∷ 0x48 ∷ 0x44 ∷ 0x19 ∷ 0 ∷ 0x10 ∷ 2 ∷ 0x33 ∷ 0 ∷ 0 ∷ 0x33 ∷ 0 ∷ 0xa5 ∷ 0x5f ∷ 0xe6 ∷ 0xa5 ∷ 0x39 ∷ 0xc0 ∷ 0 ∷ 0 ∷ 3 ∷ 0 ∷ 0x40 ∷ 0 ∷ 0 ∷ 0x0c ∷ 0x84 ∷ 0x0a ∷ 0x90 ∷ []))
    -- not well formed: U with mode 0
    ∷ case (written (1 ∷ 1 ∷ 0 ∷ 1 ∷ 1 ∷ 1 ∷ 0 ∷ 0 ∷ 0 ∷ 0 ∷ 1 ∷ 0 ∷ 0 ∷ 1 ∷ 1 ∷ 0 ∷ 1 ∷ 0 ∷ 51 ∷ 0 ∷ 0 ∷ 0 ∷ 0 ∷ 0 ∷ 1 ∷ 0 ∷ 0 ∷ 0 ∷ 0 ∷ 0 ∷ 9 ∷ 12 ∷ 13 ∷ 24 ∷ 26 ∷ 28 ∷ 29 ∷ 38 ∷ [])) (no 31)
    -- an independent layer's max-tid-ref flag 1
    ∷ case (written (1 ∷ 1 ∷ 0 ∷ 1 ∷ 1 ∷ 1 ∷ 2 ∷ 0 ∷ 0 ∷ 0 ∷ 1 ∷ 1 ∷ 0 ∷ 1 ∷ 1 ∷ 0 ∷ 1 ∷ 0 ∷ 51 ∷ 0 ∷ 0 ∷ 0 ∷ 0 ∷ 0 ∷ 1 ∷ 0 ∷ 0 ∷ 0 ∷ 0 ∷ 0 ∷ 9 ∷ 12 ∷ 13 ∷ 24 ∷ 26 ∷ 28 ∷ 29 ∷ 38 ∷ [])) (no 31)
    -- a gci length without constraints
    ∷ case (written (1 ∷ 1 ∷ 0 ∷ 1 ∷ 1 ∷ 1 ∷ 2 ∷ 0 ∷ 0 ∷ 0 ∷ 1 ∷ 0 ∷ 0 ∷ 1 ∷ 1 ∷ 0 ∷ 1 ∷ 0 ∷ 51 ∷ 0 ∷ 0 ∷ 0 ∷ 5 ∷ 0 ∷ 1 ∷ 0 ∷ 0 ∷ 0 ∷ 0 ∷ 0 ∷ 9 ∷ 12 ∷ 13 ∷ 24 ∷ 26 ∷ 28 ∷ 29 ∷ 38 ∷ [])) (no 31)
    -- constraints of 78 bits that say 77
    ∷ case (written (1 ∷ 1 ∷ 0 ∷ 1 ∷ 1 ∷ 1 ∷ 2 ∷ 0 ∷ 0 ∷ 0 ∷ 1 ∷ 0 ∷ 0 ∷ 1 ∷ 1 ∷ 0 ∷ 1 ∷ 0 ∷ 51 ∷ 0 ∷ 0 ∷ 1 ∷ 78 ∷ 1 ∷ 0 ∷ 0 ∷ 0 ∷ 0 ∷ 0 ∷ 0 ∷ 0 ∷ 1 ∷ 0 ∷ 0 ∷ 0 ∷ 0 ∷ 0 ∷ 0 ∷ 0 ∷ 1 ∷ 0 ∷ 0 ∷ 0 ∷ 0 ∷ 0 ∷ 0 ∷ 0 ∷ 1 ∷ 0 ∷ 0 ∷ 0 ∷ 0 ∷ 0 ∷ 0 ∷ 0 ∷ 1 ∷ 0 ∷ 0 ∷ 0 ∷ 0 ∷ 0 ∷ 0 ∷ 0 ∷ 1 ∷ 0 ∷ 0 ∷ 0 ∷ 0 ∷ 0 ∷ 0 ∷ 0 ∷ 1 ∷ 0 ∷ 0 ∷ 0 ∷ 0 ∷ 0 ∷ 0 ∷ 0 ∷ 1 ∷ 0 ∷ 0 ∷ 0 ∷ 0 ∷ 0 ∷ 0 ∷ 0 ∷ 1 ∷ 0 ∷ 0 ∷ 0 ∷ 0 ∷ 0 ∷ 0 ∷ 0 ∷ 0 ∷ 0 ∷ 0 ∷ 0 ∷ 0 ∷ 1 ∷ 0 ∷ 1 ∷ 0 ∷ 0 ∷ 0 ∷ 0 ∷ 0 ∷ 9 ∷ 12 ∷ 13 ∷ 102 ∷ 104 ∷ 106 ∷ 107 ∷ 116 ∷ [])) (no 31)
    -- id 0
    ∷ case (written (1 ∷ 0 ∷ 0 ∷ 1 ∷ 1 ∷ 1 ∷ 2 ∷ 0 ∷ 0 ∷ 0 ∷ 1 ∷ 0 ∷ 0 ∷ 1 ∷ 1 ∷ 0 ∷ 1 ∷ 0 ∷ 51 ∷ 0 ∷ 0 ∷ 0 ∷ 0 ∷ 0 ∷ 1 ∷ 0 ∷ 0 ∷ 0 ∷ 0 ∷ 0 ∷ 9 ∷ 12 ∷ 13 ∷ 24 ∷ 26 ∷ 28 ∷ 29 ∷ 38 ∷ [])) (no 31)
    -- no direct reference
    ∷ case (written (2 ∷ 1 ∷ 0 ∷ 1 ∷ 0 ∷ 0 ∷ 0 ∷ 0 ∷ 0 ∷ 0 ∷ 1 ∷ 0 ∷ 1 ∷ 0 ∷ 0 ∷ 0 ∷ 1 ∷ 0 ∷ 1 ∷ 1 ∷ 0 ∷ 1 ∷ 0 ∷ 51 ∷ 0 ∷ 0 ∷ 0 ∷ 0 ∷ 0 ∷ 2 ∷ 0 ∷ 0 ∷ 1 ∷ 0 ∷ 0 ∷ 0 ∷ 0 ∷ 1 ∷ 0 ∷ 0 ∷ 0 ∷ 0 ∷ 0 ∷ 0 ∷ 0 ∷ 9 ∷ 17 ∷ 18 ∷ 29 ∷ 32 ∷ 43 ∷ 44 ∷ 53 ∷ [])) (no 31)
    -- buffering 16
    ∷ case (written (2 ∷ 1 ∷ 0 ∷ 1 ∷ 0 ∷ 0 ∷ 0 ∷ 0 ∷ 0 ∷ 0 ∷ 1 ∷ 0 ∷ 1 ∷ 0 ∷ 0 ∷ 1 ∷ 1 ∷ 0 ∷ 1 ∷ 1 ∷ 0 ∷ 1 ∷ 0 ∷ 51 ∷ 0 ∷ 0 ∷ 0 ∷ 0 ∷ 0 ∷ 2 ∷ 0 ∷ 0 ∷ 1 ∷ 0 ∷ 16 ∷ 0 ∷ 0 ∷ 1 ∷ 0 ∷ 0 ∷ 0 ∷ 0 ∷ 0 ∷ 0 ∷ 0 ∷ 9 ∷ 17 ∷ 18 ∷ 29 ∷ 32 ∷ 43 ∷ 44 ∷ 53 ∷ [])) (no 31)
    -- extension bits under flag 0
    ∷ case (written (record_u 0 (1 ∷ 0 ∷ []) 39)) (no 31)
    -- an extension bit of 2
    ∷ case (written (record_u 1 (2 ∷ 1 ∷ 2 ∷ []) 40)) (no 31)
    -- a wrong total
    ∷ case (written (1 ∷ 1 ∷ 0 ∷ 1 ∷ 1 ∷ 1 ∷ 2 ∷ 0 ∷ 0 ∷ 0 ∷ 1 ∷ 0 ∷ 0 ∷ 1 ∷ 1 ∷ 0 ∷ 1 ∷ 0 ∷ 51 ∷ 0 ∷ 0 ∷ 0 ∷ 0 ∷ 0 ∷ 1 ∷ 0 ∷ 0 ∷ 0 ∷ 0 ∷ 0 ∷ 9 ∷ 12 ∷ 13 ∷ 24 ∷ 26 ∷ 28 ∷ 29 ∷ 39 ∷ [])) (no 31)
    -- a number more
    ∷ case (written (1 ∷ 1 ∷ 0 ∷ 1 ∷ 1 ∷ 1 ∷ 2 ∷ 0 ∷ 0 ∷ 0 ∷ 1 ∷ 0 ∷ 0 ∷ 1 ∷ 1 ∷ 0 ∷ 1 ∷ 0 ∷ 51 ∷ 0 ∷ 0 ∷ 0 ∷ 0 ∷ 0 ∷ 1 ∷ 0 ∷ 0 ∷ 0 ∷ 0 ∷ 0 ∷ 9 ∷ 12 ∷ 13 ∷ 24 ∷ 26 ∷ 28 ∷ 29 ∷ 38 ∷ 0 ∷ [])) (no 31)
    ∷ []

pub replies : List Case → List Reply
replies [] = []
replies (c ∷ t) = reply c.question ∷ replies t

pub answers : List Case → List Reply
answers [] = []
answers (c ∷ t) = c.answer ∷ answers t

pub cases_hold : replies table ≡ answers table
unfolding opened chain taking reading writing reply unit record_u table replies answers
cases_hold = refl
