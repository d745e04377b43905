-- What a slot's sublayers keep, and that its max tid leaves a row for each of them.
use Rattle.std.specs.Prelude.{ℕ, ◌+◌, ◌*◌, ◌≤◌, ◌≡◌, refl, Bool, true, false, cond, leb, eqb}
use Rattle.std.proofs.Common.{ap, ◌∙◌, arith, leb-true, length-append}
use Rattle.std.proofs.Math.ListN.{length}
use Rattle.vps_definition.specs.Syntax.{◌>>=◌, numbers}
use Rattle.vps_definition.specs.Words.{ue, check, nothing, repeat}
use Rattle.vps_definition.specs.DpbParameters.{dpb_sublayer, sublayers}
use Rattle.vps_laws.specs.Keeps.{Keeps, keeps_so, keeps_check, keeps_code, keeps_test, keeps_refuse, keeps_done, numbers_append}
use Rattle.vps_laws.proofs.Keeps.{keeps_repeat, keeps_bind, returns_bind}
use Rattle.vps_entries.specs.MaxTid.{max_tid}
use Rattle.vps_dpb.specs.Grid.{rows, rows_all}

-- three numbers each
three : Keeps (λ a t. length (numbers t) ≡ 3) dpb_sublayer
unfolding dpb_sublayer ue check nothing ◌>>=◌ numbers
three = keeps_code (λ v. keeps_test _ (λ e. keeps_code (λ w. keeps_test _ (λ f. keeps_code (λ x. keeps_done refl)) (λ f. keeps_refuse))) (λ e. keeps_refuse))

pub threes : (n : ℕ) → Keeps (λ a t. length (numbers t) ≡ 3 * n) (repeat n dpb_sublayer)
unfolding numbers
threes n = keeps_repeat (λ n t. length (numbers t) ≡ 3 * n) n refl (λ j t l h. keeps_so three (λ a u g. ap length (numbers_append t u) ∙ omega (arith, length-append (numbers t) (numbers u))))

-- a slot's max tid passed the check
pub tid_below : (default_max_tid_flag max_sublayers_minus1 refusal : ℕ) → Keeps (λ a t. a ≤ max_sublayers_minus1) (max_tid default_max_tid_flag max_sublayers_minus1 refusal)
unfolding max_tid
tid_below d m q = returns_bind _ (λ a. keeps_bind (keeps_check (leb a m) q) (λ x t h. keeps_done (leb-true a m h.1)))

-- so the grid has a row for each of its sublayers
pub rows_enough : (flag tid : ℕ) → tid ≤ 6 → rows (sublayers flag tid) ≡ sublayers flag tid
rows_enough flag tid l = rows_all (sublayers flag tid) (go (eqb flag 0))
  where
    go : (b : Bool) → cond b 1 (tid + 1) ≤ 7
    go true = omega arith
    go false = omega arith
