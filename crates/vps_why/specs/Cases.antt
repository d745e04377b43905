-- What vps-why prints, computed.
use Rattle.std.specs.Prelude.{ℕ, ◌≡◌, refl, List, [], ◌∷◌, map}
use Rattle.texts.specs.Bytes.{bytes}
use Rattle.text_numbers.specs.Decimal.{decimal_in}
use Rattle.sentences.specs.Laws as Sentences
use Rattle.vps_definition.specs.Open.{opened}
use Rattle.vps_why.specs.Why.{refused_line, line, why}

-- the units of samples/: one layer, three layers, timing, extension, damaged, and with a cut code
pub samples : List (List ℕ)
samples =
    (0 ∷ 0x71 ∷ 0x10 ∷ 0 ∷ 0 ∷ 3 ∷ 2 ∷ 0x33 ∷ 0 ∷ 0 ∷ 0x40 ∷ [])
    ∷ (0 ∷ 0x71 ∷ 0x10 ∷ 0x80 ∷ 0 ∷ 0x48 ∷ 0x42 ∷ 0 ∷ 0 ∷ 3 ∷ 2 ∷ 0x33 ∷ 0x40 ∷ 0 ∷ 0x95 ∷ 0xc0 ∷ 0x0f ∷ 2 ∷ 0 ∷ 0x43 ∷ 0x95 ∷ 0x80 ∷ 0x1e ∷ 4 ∷ 0 ∷ 0x87 ∷ 0x2b ∷ 0x20 ∷ [])
    ∷ (0 ∷ 0x71 ∷ 0x10 ∷ 0x40 ∷ 0 ∷ 0x48 ∷ 0 ∷ 2 ∷ 0x33 ∷ 0 ∷ 0 ∷ 0xfc ∷ 0xc0 ∷ 0 ∷ 0 ∷ 0xfa ∷ 0x40 ∷ 0 ∷ 0x3a ∷ 0x98 ∷ 0x20 ∷ 1 ∷ 0x42 ∷ 0x16 ∷ 0x52 ∷ 0xd0 ∷ [])
    ∷ (0 ∷ 0x71 ∷ 0x10 ∷ 0 ∷ 0 ∷ 3 ∷ 2 ∷ 0x33 ∷ 0 ∷ 0 ∷ 0xdc ∷ [])
    ∷ (0 ∷ 0x71 ∷ 0x10 ∷ 0x80 ∷ 0 ∷ 0x48 ∷ 0x42 ∷ 0 ∷ 0 ∷ 3 ∷ 2 ∷ 0x33 ∷ 0x40 ∷ 0 ∷ 0x95 ∷ 0xc0 ∷ 0x0f ∷ 2 ∷ 0 ∷ 0x43 ∷ 0x95 ∷ 0x80 ∷ 0x1e ∷ 4 ∷ [])
    ∷ (0 ∷ 0x71 ∷ 0x10 ∷ 0x80 ∷ 0 ∷ 0x48 ∷ 0x42 ∷ 0 ∷ 0 ∷ 3 ∷ 2 ∷ 0x33 ∷ 0x40 ∷ 0 ∷ 0x95 ∷ 0xc0 ∷ 0x0f ∷ 2 ∷ 0 ∷ 0x43 ∷ 0x95 ∷ 0x80 ∷ 0x1e ∷ 4 ∷ 0 ∷ 0x87 ∷ [])
    ∷ []

pub sample_lines : map why samples ≡ map bytes ("accepted\n" ∷ "accepted\n" ∷ "accepted\n" ∷ "accepted\n" ∷ "35 code bits missing\n" ∷ "35 code bits missing\n" ∷ [])
unfolding opened Sentences.opened decimal_in refused_line line why samples
sample_lines = refl

-- a lone byte, another type, a header alone, a header and id 1, id 0 before too many sublayers, these under id 1, U with id 0, U with
-- another last byte, and two layers: a code of 32 zeros, nothing left for a code, and buffering 16 before a code that is cut
pub units : List (List ℕ)
units =
    (0 ∷ [])
    ∷ (0 ∷ 0x79 ∷ [])
    ∷ (0 ∷ 0x71 ∷ [])
    ∷ (0 ∷ 0x71 ∷ 0x10 ∷ [])
    ∷ (0 ∷ 0x71 ∷ 0 ∷ 0x38 ∷ [])
    ∷ (0 ∷ 0x71 ∷ 0x10 ∷ 0x38 ∷ [])
    ∷ (0 ∷ 0x71 ∷ 0 ∷ 0 ∷ 3 ∷ 0 ∷ 2 ∷ 0x33 ∷ 0 ∷ 0 ∷ 0x40 ∷ [])
    ∷ (0 ∷ 0x71 ∷ 0x10 ∷ 0 ∷ 0 ∷ 3 ∷ 2 ∷ 0x33 ∷ 0 ∷ 0 ∷ 0 ∷ [])
    ∷ (0 ∷ 0x71 ∷ 0x10 ∷ 0 ∷ 0 ∷ 3 ∷ 2 ∷ 0x33 ∷ 0 ∷ 0 ∷ 0x41 ∷ [])
    ∷ (0 ∷ 0x71 ∷ 0x10 ∷ 0x40 ∷ 0 ∷ 0x48 ∷ 0 ∷ 2 ∷ 0x33 ∷ 0 ∷ 0 ∷ 3 ∷ 0 ∷ 0 ∷ 3 ∷ 0 ∷ 0 ∷ 3 ∷ [])
    ∷ (0 ∷ 0x71 ∷ 0x10 ∷ 0x40 ∷ 0 ∷ 0x48 ∷ 0 ∷ 2 ∷ 0x33 ∷ 0 ∷ 0 ∷ 0xfc ∷ [])
    ∷ (0 ∷ 0x71 ∷ 0x10 ∷ 0x40 ∷ 0 ∷ 0x48 ∷ 0 ∷ 2 ∷ 0x33 ∷ 0 ∷ 0 ∷ 0x84 ∷ 0x40 ∷ [])
    ∷ []

pub unit_lines : map why units ≡ map bytes ("1 header unit too-short\n" ∷ "2 header type wrong\n" ∷ "34 layers set-id zero\n" ∷ "27 end stop-bit missing\n" ∷ "34 layers set-id zero\n" ∷ "5 layers sublayers too-many\n" ∷ "34 layers set-id zero\n" ∷ "28 end stop-bit zero\n" ∷ "29 end padding not-zero\n" ∷ "14 code zeros too-many\n" ∷ "35 code bits missing\n" ∷ "17 DPB buffering over-15\n" ∷ [])
unfolding opened Sentences.opened decimal_in refused_line line why units
unit_lines = refl
