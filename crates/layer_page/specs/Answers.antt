-- What a call says of a page, and what the output holds then.
use Rattle.std.specs.Prelude.{ℕ, ◌*◌, ◌≤◌, ◌<◌, ◌≡◌, refl, List, true, false, length, get_or, leb}
use Rattle.std.proofs.Common.{sym, ap, arith, le-leb}
use Rattle.std.proofs.lemmas.Bool.{lt-leb}
use Rattle.refusals.specs.Answer.{Answer}
use Rattle.refusals.specs.Answer.Answer.{success, refusal}
use Rattle.refusals.specs.Number.{not_well_formed, output_too_short}
use Rattle.refusals.specs.Lent.{lent, output_after}
use Rattle.texts.specs.Text.{Puts, puts_whole}
use Rattle.vps_definition.specs.OutputLayerSets.{total_num_olss}
use Rattle.vps_definition.specs.Writing.{well_formed}
use Rattle.vps_definition.specs.Views.{refs_of, sets_of}
use Rattle.vps_writer.specs.Write.{write_of, output_of}
use Rattle.record_sets.specs.Few.{few_layers, few_sets}
use Rattle.layer_page.specs.Page.{page_of, layer_page}
use Rattle.layer_page.specs.Lines.{lines_length}

-- a page has 72 bytes a set
pub page_length : (r : List ℕ) → well_formed r ≡ true → length (page_of r) ≡ 72 * total_num_olss (get_or r 0 0) (sets_of r)
unfolding page_of
page_length r w = lines_length (get_or r 0 0) (few_layers r w).1 (refs_of r) (sets_of r) (total_num_olss (get_or r 0 0) (sets_of r)) (omega (arith, few_sets r w))

-- at the most 257 lines
pub page_most : (r : List ℕ) → well_formed r ≡ true → length (page_of r) ≤ 18504
page_most r w = omega (arith, page_length r w, few_sets r w)

-- an answer, and the output then
pub record Says (r out : List ℕ) (answer : Answer ℕ) (out' : List ℕ) : Type 0 where
  pub answered : answer ≡ write_of out (layer_page r)
  pub left : out' ≡ output_of out (layer_page r)

module _ (r out : List ℕ) where
  pub says_ill_formed : well_formed r ≡ false → Says r out (refusal not_well_formed) out
  unfolding layer_page write_of output_of
  says_ill_formed w = record { answered = rw w refl; left = rw w refl }

  module _ (w : well_formed r ≡ true) {count : ℕ} (e : count ≡ total_num_olss (get_or r 0 0) (sets_of r)) where
    long : length (page_of r) ≡ count * 72
    long = omega (arith, page_length r w, e)

    pub says_too_short : length out < count * 72 → Says r out (refusal output_too_short) out
    unfolding layer_page write_of output_of lent output_after
    says_too_short l =
        let b : leb (length (page_of r)) (length out) ≡ false = lt-leb (length (page_of r)) (length out) (omega (arith, l, long)) in
        record { answered = rw (w, write_of, lent, b) refl; left = rw (w, output_of, output_after, b) refl }

    pub says_whole : {next : ℕ} {out' : List ℕ} → count * 72 ≤ length out → Puts (page_of r) 0 next out out' → Says r out (success (count * 72)) out'
    unfolding layer_page write_of output_of lent output_after
    says_whole l p =
        let h : length (page_of r) ≤ length out = omega (arith, l, long) in
        let b : leb (length (page_of r)) (length out) ≡ true = le-leb (length (page_of r)) (length out) h in
        record { answered = rw (w, write_of, lent, b) (ap success (sym long)); left = rw (w, output_of, output_after, b) (puts_whole p h).1 }
