-- Worked pages and lines: U, each mode, 64 layers, and the last of 257 sets.
use Rattle.std.specs.Prelude.{ℕ, zero, suc, ◌≡◌, refl, List, [], ◌∷◌, ◌++◌, true, get_or, replicate}
use Rattle.texts.specs.Bytes.{bytes}
use Rattle.text_numbers.specs.Decimal.{decimal_in}
use Rattle.text_numbers.specs.Aligned.{right_aligned}
use Rattle.vps_definition.specs.Writing.{well_formed}
use Rattle.vps_definition.specs.Views.{refs_of, sets_of}
use Rattle.vps_definition.specs.Open.{opened}
use Rattle.vps_definition.specs.Cases.{record_u}
use Rattle.layer_page.specs.Page.{place, places, columns, line, set_line, set_lines, page_of}

-- the line of set k of a record
abbrev line_of : List ℕ → ℕ → List ℕ
line_of r k = set_line (get_or r 0 0) (refs_of r) (sets_of r) k

-- what stands behind the last layer's place
abbrev blanks : ℕ → List ℕ
blanks n = replicate n 32 ++ bytes "\n"

-- a list so many times
abbrev repeated : ℕ → List ℕ → List ℕ
repeated zero x = []
repeated (suc n) x = x ++ repeated n x

-- n layers, each independent, from layer i on
abbrev independent : (i n : ℕ) → List ℕ
independent i zero = []
independent i (suc n) = i ∷ 1 ∷ 0 ∷ independent (suc i) n

-- one slot of profile, tier and level, and one of picture buffers; an entry of five
abbrev ptls : List ℕ
ptls = 1 ∷ 1 ∷ 0 ∷ 1 ∷ 0 ∷ 51 ∷ 0 ∷ 1 ∷ 0 ∷ 0 ∷ 0 ∷ []

abbrev dpb_slot : List ℕ
dpb_slot = 1 ∷ 0 ∷ 4 ∷ 2 ∷ 0 ∷ []

abbrev dpb_entry : List ℕ
dpb_entry = 1920 ∷ 1080 ∷ 1 ∷ 2 ∷ 0 ∷ []

-- three layers, each on the one below
abbrev chain : List ℕ
chain = 0 ∷ 1 ∷ 0 ∷ 1 ∷ 0 ∷ 0 ∷ 1 ∷ 1 ∷ 2 ∷ 0 ∷ 0 ∷ 0 ∷ 1 ∷ 1 ∷ 1 ∷ []

-- ── U ─────────────────────────────────────────────────────────────────
-- one layer, which is a set
pub page_u : page_of (record_u 0 (0 ∷ []) 38) ≡ bytes "  0  1 #" ++ blanks 63
unfolding opened record_u page_of set_lines set_line line columns places place right_aligned decimal_in bytes
page_u = refl

-- ── Each mode ─────────────────────────────────────────────────────────
-- each layer a set: three independent layers
pub each_layer : List ℕ
each_layer = (3 ∷ 1 ∷ 0 ∷ 1 ∷ 1 ∷ 1 ∷ 2 ∷ 0 ∷ 0 ∷ []) ++ independent 0 3 ++ (0 ∷ []) ++ ptls ++ (3 ∷ 0 ∷ 0 ∷ 0 ∷ []) ++ (0 ∷ 0 ∷ []) ++ (0 ∷ []) ++ (0 ∷ []) ++ (9 ∷ 18 ∷ 19 ∷ 30 ∷ 34 ∷ 36 ∷ 37 ∷ 46 ∷ [])

pub page_each_layer : (well_formed each_layer ≡ true) × (page_of each_layer ≡ bytes "  0  1 #.." ++ blanks 61 ++ bytes "  1  1 .#." ++ blanks 61 ++ bytes "  2  1 ..#" ++ blanks 61)
unfolding opened each_layer page_of set_lines set_line line columns places place right_aligned decimal_in bytes
page_each_layer = (refl, refl)

-- mode 0, as in samples/three_layers.vps: layers 0 to k
pub up_to : List ℕ
up_to = (3 ∷ 1 ∷ 0 ∷ 1 ∷ 0 ∷ 0 ∷ 0 ∷ 0 ∷ 0 ∷ []) ++ chain ++ (0 ∷ []) ++ ptls ++ (3 ∷ 0 ∷ 0 ∷ 0 ∷ []) ++ dpb_slot ++ (2 ∷ []) ++ dpb_entry ++ dpb_entry ++ (0 ∷ []) ++ (0 ∷ []) ++ (9 ∷ 24 ∷ 25 ∷ 36 ∷ 40 ∷ 56 ∷ 57 ∷ 66 ∷ [])

pub page_up_to : (well_formed up_to ≡ true) × (page_of up_to ≡ bytes "  0  1 #.." ++ blanks 61 ++ bytes "  1  2 ##." ++ blanks 61 ++ bytes "  2  3 ###" ++ blanks 61)
unfolding opened up_to page_of set_lines set_line line columns places place right_aligned decimal_in bytes
page_up_to = (refl, refl)

-- mode 2: set 0 is layer 0; row 0 0 1 has layer 2, layer 1 to which that refers, and layer 0 two steps away; row 1 0 0 has layer 0 alone
pub by_rows : List ℕ
by_rows = (3 ∷ 1 ∷ 0 ∷ 1 ∷ 0 ∷ 0 ∷ 2 ∷ 0 ∷ 0 ∷ []) ++ chain ++ (2 ∷ 0 ∷ 0 ∷ 1 ∷ 1 ∷ 0 ∷ 0 ∷ []) ++ ptls ++ (3 ∷ 0 ∷ 0 ∷ 0 ∷ []) ++ dpb_slot ++ (1 ∷ []) ++ dpb_entry ++ (0 ∷ []) ++ (0 ∷ []) ++ (9 ∷ 24 ∷ 31 ∷ 42 ∷ 46 ∷ 57 ∷ 58 ∷ 67 ∷ [])

pub page_by_rows : (well_formed by_rows ≡ true) × (page_of by_rows ≡ bytes "  0  1 #.." ++ blanks 61 ++ bytes "  1  3 ###" ++ blanks 61 ++ bytes "  2  1 #.." ++ blanks 61)
unfolding opened by_rows page_of set_lines set_line line columns places place right_aligned decimal_in bytes
page_by_rows = (refl, refl)

-- ── The most layers, and the most sets ────────────────────────────────
-- 64 layers in mode 0
pub sixty_four : List ℕ
sixty_four = (64 ∷ 1 ∷ 0 ∷ 1 ∷ 0 ∷ 0 ∷ 0 ∷ 0 ∷ 0 ∷ []) ++ independent 0 64 ++ (0 ∷ []) ++ ptls ++ (64 ∷ repeated 64 (0 ∷ [])) ++ dpb_slot ++ (63 ∷ repeated 63 dpb_entry) ++ (0 ∷ []) ++ (0 ∷ []) ++ (9 ∷ 201 ∷ 202 ∷ 213 ∷ 278 ∷ 599 ∷ 600 ∷ 609 ∷ [])

pub lines_sixty_four : (well_formed sixty_four ≡ true) × (line_of sixty_four 0 ≡ bytes "  0  1 #" ++ replicate 63 46 ++ blanks 0) × (line_of sixty_four 63 ≡ bytes " 63 64 " ++ replicate 64 35 ++ blanks 0)
unfolding opened sixty_four set_line line columns places place right_aligned decimal_in bytes
lines_sixty_four = (refl, refl, refl)

-- 256 rows of two layers, of which the second refers to the first
pub many_rows : List ℕ
many_rows = (2 ∷ 1 ∷ 0 ∷ 1 ∷ 0 ∷ 0 ∷ 2 ∷ 0 ∷ 0 ∷ []) ++ (0 ∷ 1 ∷ 0 ∷ 1 ∷ 0 ∷ 0 ∷ 1 ∷ 1 ∷ []) ++ (256 ∷ repeated 255 (1 ∷ 0 ∷ [])) ++ (0 ∷ 1 ∷ []) ++ ptls ++ (257 ∷ repeated 257 (0 ∷ [])) ++ dpb_slot ++ (1 ∷ []) ++ dpb_entry ++ (0 ∷ []) ++ (0 ∷ []) ++ (9 ∷ 17 ∷ 530 ∷ 541 ∷ 799 ∷ 810 ∷ 811 ∷ 820 ∷ [])

pub lines_many_rows : (well_formed many_rows ≡ true) × (line_of many_rows 9 ≡ bytes "  9  1 #." ++ blanks 62) × (line_of many_rows 256 ≡ bytes "256  2 ##" ++ blanks 62)
unfolding opened many_rows set_line line columns places place right_aligned decimal_in bytes
lines_many_rows = (refl, refl, refl)
