-- What taking an RBSP says: its bytes, or that they are too many.
use Rattle.std.specs.Prelude.{ℕ, ◌≡◌, ◌<◌, List, length, Result, MatchResult}
use Rattle.refusals.specs.declared.refusal.Refusal.{Refusal}
use Rattle.refusals.specs.declared.refusal.Refusal.TheVariants.{RbspTooLong}
use Rattle.vps_definition.specs.Reading.{most_rbsp_bytes}
use Rattle.read_extension.specs.declared.rbsp.Rbsp.{Rbsp}
use denote.Ref.{Bor}

abbrev pub IsWithin : Bor (List ℕ) → Result Rbsp Refusal → Type 0
IsWithin bytes x = MatchResult x (λ r. r.bytes ≡ bytes) (λ e. (e ≡ RbspTooLong) × (most_rbsp_bytes < length bytes.now))
