-- Only the bits used count: what agrees with an accepted reading without extension on them is read alike.
use Rattle.std.specs.Prelude.{ℕ, ◌≡◌, refl, List, length, get_or}
use Rattle.std.proofs.Common.{ap, ◌∙◌, arith}
use Rattle.std.proofs.Math.ListN.{get_or-append}
use Rattle.vps_definition.specs.Syntax.{Token}
use Rattle.vps_definition.specs.Record.{record_of}
use Rattle.vps_definition.specs.Reading.{bits_at, extension_bits}
use Rattle.vps_laws.specs.Accepted.{record_parts}

-- ── RBSPs ─────────────────────────────────────────────────────────────
pub no_extension : (s : List ℕ) (at : ℕ) → extension_bits 0 s at ≡ 0
unfolding extension_bits
no_extension s at = refl

pub no_bits : (s s' : List ℕ) (at : ℕ) → bits_at s at 0 ≡ bits_at s' at 0
unfolding bits_at
no_bits s s' at = refl

pub record_flag : (general : List ℕ) (t : List Token) (e : List ℕ) → length general ≡ 9 → get_or (record_of general t e) 8 0 ≡ get_or general 8 0
record_flag general t e l = ap (λ (x : List ℕ). get_or x 8 0) (record_parts general t e) ∙ get_or-append general _ 0 8 (omega arith)
