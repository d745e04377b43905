-- `put_record` meets its contract: each line is one more of those that are put, and the names are those of the definition.
use Rattle.std.proofs.Common.{ℕ, ◌≡◌, List, [], ◌++◌, get_or, Bor, take, sym, ap, ◌∙◌, arith}
use Rattle.std.proofs.Math.ListN.{get_or-map}
use Rattle.texts.specs.Adds.{adds_same, adds_none, adds_then}
use Rattle.vps_show.specs.Shown.{newline, spaced, names, lines, lines_none, lines_more, lines_are}
use Rattle.vps_show.proofs.shown.put_record.Goals as goal

pub loop-k-init : goal.loop-k-init
loop-k-init c = adds_same (sym (lines_none _)) (adds_none _)

pub loop-k-preserved : goal.loop-k-preserved
loop-k-preserved c =
    let put = rw (← get_or-map (λ (w : Bor (List ℕ)). w.now)) at c.put_line.ensures in
    let line = adds_same (ap (λ (x : List ℕ). get_or names c.loop-k.k [] ++ spaced x ++ newline) c.section.ensures) put in
    adds_same (lines_more names _ _ (omega arith)) (adds_then c.loop-k.invariant line)

pub returns : goal.returns
returns c = let all : c.loop-k.k ≡ 9 = omega arith in adds_same (ap (λ (k : ℕ). lines (take k names) c.args.«record».now 0) all ∙ lines_are _) c.loop-k.invariant
