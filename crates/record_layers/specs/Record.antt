-- The masks of a well-formed record are those of its references as they were read.
use Rattle.std.specs.Prelude.{ℕ, ◌≤◌, ◌≡◌, List, true, length, get_or, drop}
use Rattle.std.proofs.Common.{sym, subst, arith}
use Rattle.vps_definition.specs.Rules.{today}
use Rattle.vps_definition.specs.OutputLayerSets.{refers_by}
use Rattle.vps_definition.specs.Writing.{well_formed}
use Rattle.vps_definition.specs.Layout.{flags_from}
use Rattle.vps_definition.specs.Views.{refs_of}
use Rattle.vps_laws.proofs.Views.{well_formed_viewed}
use Rattle.layer_sets.specs.Closed.{Closed}
use Rattle.record_layers.specs.Turns.{stored, Stored}

pub record_masks : (r before after : List ℕ) → well_formed r ≡ true → 64 ≤ length before → Stored (flags_from (get_or r 0 0) 0 (drop 9 r)) (get_or r 0 0) before after
    → Closed (refers_by (refs_of r)) after (get_or r 0 0)
record_masks r before after w l S =
    let seen = (well_formed_viewed today r w).1.seen in
    let n : stored (get_or r 0 0) (length before) ≡ get_or r 0 0 = omega (arith, l, seen.few) in
    subst (λ (f : List (List ℕ)). Closed (refers_by f) after (get_or r 0 0)) (sym seen.refs_numbered) (subst (Closed (refers_by (flags_from (get_or r 0 0) 0 (drop 9 r))) after) n S.masks)
