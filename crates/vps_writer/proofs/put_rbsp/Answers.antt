-- The table, and then the end.
use Rattle.std.specs.Prelude.{ℕ, ◌≡◌, ◌<◌, List, [], ◌∷◌, ◌++◌, length, get_or}
use Rattle.std.proofs.Common.{ap, sym, ◌∙◌, arith, rules}
use Rattle.vps_writer.specs.Write.{Begun, table_bad, table_ends, same_numbers}
use Rattle.vps_writer.proofs.put_rbsp.Goals as goal

pub returns-in_err-whole : goal.returns-in_err-whole
returns-in_err-whole c =
    let N = c.new-writing.ensures in
    let B : Begun c.args.rec.now c.args.out.now c.new-writing.result = record { rec = N.rec; tenth = N.c; ready = N.ready (omega arith) } in
    let T = table_bad B c.in_err-whole.ensures in
    search (rules, T)

pub returns : goal.returns
returns c =
    let N = c.new-writing.ensures in
    let B : Begun c.args.rec.now c.args.out.now c.new-writing.result = record { rec = N.rec; tenth = N.c; ready = N.ready (omega arith) } in
    let w = c.in_ok-whole.whole in
    let nine : length w.general ≡ 9 = search (rules, c.of.type_inv) in
    let seven : length w.starts ≡ 7 = search (rules, c.of.type_inv) in
    let each : (i : ℕ) → i < 9 → get_or c.map-general.result i 0 ≡ get_or w.general i 0 = λ i l. let m = c.map-general.ensures.items.at i 0 0 l in search (rules, m) in
    let same : c.map-general.result ≡ w.general = same_numbers _ _ (c.map-general.ensures.items.long ∙ sym nine) (λ i l. each i (omega (arith, l, nine))) in
    let listed = ap (λ (l : List ℕ). l ++ (length c.args.rec.now ∷ [])) c.copy_from_slice.ensures.after in
    let F = table_ends B c.write_end.result _ c.in_ok-whole.ensures nine seven same listed c.write_end.ensures.ends in
    search (rules, F)
