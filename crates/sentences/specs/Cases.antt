-- Sentences and numbers, computed.
use Rattle.std.specs.Prelude.{◌≡◌, refl, [], ◌∷◌, map}
use Rattle.texts.specs.Bytes.{bytes}
use Rattle.sentences.specs.Sentences.{sentence_of, number_of}
use Rattle.sentences.specs.Laws.{opened}

-- the first number, numbers of some places, and those that reading never gives
sentences : map sentence_of (1 ∷ 6 ∷ 14 ∷ 22 ∷ 27 ∷ 31 ∷ 32 ∷ 33 ∷ 34 ∷ 35 ∷ [])
    ≡ map bytes ("header unit too-short" ∷ "layers ids not-rising" ∷ "code zeros too-many" ∷ "timing schedule-count over-31" ∷ "end stop-bit missing" ∷ "writer record malformed" ∷ "writer buffer too-short" ∷ "rates item missing" ∷ "layers set-id zero" ∷ "code bits missing" ∷ [])
unfolding opened
sentences = refl

-- 0 and a number past the table
empty : map sentence_of (0 ∷ 1000 ∷ []) ≡ [] ∷ [] ∷ []
unfolding opened
empty = refl

-- a sentence; its beginnings; two blanks for one; a blank behind, in front and for a hyphen; another letter; a word too many, and none
numbers : map (λ s. number_of (bytes s)) ("layers ids not-rising" ∷ "layers ids not-risin" ∷ "layers ids " ∷ "layers ids" ∷ "layers  ids not-rising" ∷ "layers ids not-rising " ∷ " layers ids not-rising" ∷ "layers ids not rising" ∷ "Layers ids not-rising" ∷ "layers ids not-rising zero" ∷ "" ∷ [])
    ≡ 6 ∷ 0 ∷ 0 ∷ 0 ∷ 0 ∷ 0 ∷ 0 ∷ 0 ∷ 0 ∷ 0 ∷ 0 ∷ []
unfolding opened
numbers = refl
