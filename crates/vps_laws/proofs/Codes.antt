-- Readings by a given rule of codes, for comparing a rule with the one of before. By the definition's own rule they are the definition's.
use Rattle.std.specs.Prelude.{ℕ, ◌≡◌, List}
use Rattle.std.proofs.Common.{ap}
use Rattle.bits.specs.Code.{code_at}
use Rattle.vps_definition.specs.Rules.{Rules}
use Rattle.vps_definition.specs.Vps.{vps_under}
use Rattle.vps_definition.specs.Reading.{closed, read_rbsp_under}
use Rattle.vps_laws.specs.Codes.{run_with_lem, read_rbsp_with}

pub rbsp_with_lem : (rules : Rules) (s : List ℕ) → read_rbsp_under rules s ≡ read_rbsp_with code_at rules s
unfolding read_rbsp_under read_rbsp_with
rbsp_with_lem rules s = ap (closed s) (run_with_lem (vps_under rules) s 0)
