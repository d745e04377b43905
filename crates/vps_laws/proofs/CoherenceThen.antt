-- Coherence, table by table: each late field stands in the record where it is looked for.
use Rattle.std.specs.Prelude.{ℕ, Bool}
use Rattle.vps_definition.specs.Words.{general_if}
use Rattle.vps_laws.specs.Coherence.{Coh, local_done, local_test, Stands}
use Rattle.vps_laws.proofs.Coherence.{coh_general}

pub coh_general_if : (b : Bool) (i w v : ℕ) → Coh (Stands i) (general_if b i w v)
unfolding general_if
coh_general_if b i w v = local_test b (coh_general i w) local_done
