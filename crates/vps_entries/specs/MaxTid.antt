-- What DPB slots and timing entries begin with.
use Rattle.std.specs.Prelude.{ℕ, ◌≡◌, leb, eqb}
use Rattle.std.proofs.Common.{sym, ◌∙◌}
use Rattle.vps_definition.specs.Syntax.{Syntax, ◌>>=◌}
use Rattle.vps_definition.specs.Syntax.Syntax.{done}
use Rattle.vps_definition.specs.Words.{u_if, check, repeat}
use Rattle.vps_definition.specs.DpbParameters.{sublayers, per_sublayer}
use Rattle.vps_laws.specs.Loops.{bind_assoc}

-- the max tid, coded unless all have the default
unfoldable pub max_tid : (default_max_tid_flag max_sublayers_minus1 refusal : ℕ) → Syntax ℕ
max_tid default_max_tid_flag max_sublayers_minus1 refusal = do
  t ← u_if (eqb default_max_tid_flag 0) 3 max_sublayers_minus1
  c ← check (leb t max_sublayers_minus1) refusal
  done t

-- an entry is its max tid, and then so many sublayers
pub per_sublayer_is : (default_max_tid_flag max_sublayers_minus1 refusal flag : ℕ) (body : Syntax (Unit {0}))
    → per_sublayer default_max_tid_flag max_sublayers_minus1 refusal flag body
    ≡ max_tid default_max_tid_flag max_sublayers_minus1 refusal >>= λ t. repeat (sublayers flag t) body
unfolding per_sublayer max_tid ◌>>=◌
per_sublayer_is d m q flag body =
    sym (bind_assoc (u_if (eqb d 0) 3 m) (λ t. check (leb t m) q >>= λ c. done t) (λ t. repeat (sublayers flag t) body)
    ∙ (λ i. u_if (eqb d 0) 3 m >>= λ t. bind_assoc (check (leb t m) q) (λ c. done t) (λ t. repeat (sublayers flag t) body) i))
