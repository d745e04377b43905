-- The bits that two RBSPs are read from, computed: each field and alignment of the table, the extension and the trailing bits.
use Rattle.std.specs.Prelude.{ℕ, ◌≡◌, refl, List, [], ◌∷◌}
use Rattle.vps_definition.specs.Syntax.{Span, span, spans}
use Rattle.vps_definition.specs.Reading.{closed_spans, rbsp_spans_under, rbsp_spans}
use Rattle.vps_definition.specs.Open.{opened}

-- the RBSP of the unit U, with another last byte
abbrev pub rbsp_with : (last : ℕ) → List ℕ
rbsp_with last = 16 ∷ 0 ∷ 0 ∷ 2 ∷ 51 ∷ 0 ∷ 0 ∷ last ∷ []

-- spans one behind the other, by the places at which they end
abbrev pub spans_to : (from : ℕ) → List ℕ → List Span
spans_to from [] = []
spans_to from (to ∷ ends) = span from to ∷ spans_to to ends

-- id, layers, sublayers, the layer's id; alignment, profile, tier, level, frame-only, multilayer, gci flag, two alignments, sub-profiles;
-- the extension flag, no extension bits, the trailing bits
pub spans_of_u : rbsp_spans (rbsp_with 64) ≡ spans_to 0 (4 ∷ 10 ∷ 13 ∷ 19 ∷ 24 ∷ 31 ∷ 32 ∷ 40 ∷ 41 ∷ 42 ∷ 43 ∷ 48 ∷ 48 ∷ 56 ∷ 57 ∷ 57 ∷ 64 ∷ [])
unfolding opened spans closed_spans rbsp_spans_under
spans_of_u = refl

-- with E0 as the last byte: one extension bit
pub spans_with_extension : rbsp_spans (rbsp_with 224) ≡ spans_to 0 (4 ∷ 10 ∷ 13 ∷ 19 ∷ 24 ∷ 31 ∷ 32 ∷ 40 ∷ 41 ∷ 42 ∷ 43 ∷ 48 ∷ 48 ∷ 56 ∷ 57 ∷ 58 ∷ 64 ∷ [])
unfolding opened spans closed_spans rbsp_spans_under
spans_with_extension = refl
