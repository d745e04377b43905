-- `add` meets its contract: in each turn, what is stored with what adding makes of the rest is the whole.
use Rattle.std.proofs.Common.{◌≡◌, refl, sym, ap, ◌∙◌, ne_eqb, eqb, rules, arith}
use Rattle.std.proofs.lemmas.Bool.{false≢true}
use Rattle.std.proofs.Math.ListN.{length-set}
use Rattle.std.specs.Prelude.{[], not}
use Rattle.stuffing.proofs.Steps.{adding_start, adding_large, adding_small, adding_last, adding_done, adding_counted, large_room, small_room, last_room}
use Rattle.stuffing.proofs.add.Goals as goal
use Rattle.stuffing.proofs.add.Goals.{then-this-ne0, else-this-ne0, then-this-ne0-2, else-this-ne0-2, then-this-ne0-3+then-more-eq1, else-this-ne0-3, else-this-ne0-3-via-then-this-ne0-3+else-more-eq1, else-this-ne0-3-via-else-this-ne0-3}

pub loop-b-init : goal.loop-b-init
loop-b-init g c = record { counted = adding_start _ []; stored = λ s. adding_start _ _; byte = search rules }

pub bounds-out-n : goal.bounds-out-n
bounds-out-n g c = large_room c.loop-b.before c.loop-b.last (c.loop-b.invariant.stored c.if-this-ne0.true) c.loop-b-test.true (c.requires (ap not (ne_eqb _ _ c.if-this-ne0.true)))

pub loop-b-preserved-then-b-gt3 : goal.loop-b-preserved-then-b-gt3
loop-b-preserved-then-b-gt3 g c = record {
  counted = adding_large c.loop-b.before c.loop-b.last c.loop-b.invariant.counted c.loop-b-test.true c.if-b-gt3.true refl;
  stored = λ s. adding_large c.loop-b.before c.loop-b.last (c.loop-b.invariant.stored s) c.loop-b-test.true c.if-b-gt3.true (elim c.if-this-ne0.branch [ then-this-ne0 w ↦ w.out-is | else-this-ne0 w ↦ absurd (s w.if-this-ne0.false) ]);
  byte = search rules;
}

pub bounds-out-n-then-this-ne0-2 : goal.bounds-out-n-then-this-ne0-2
bounds-out-n-then-this-ne0-2 g c = large_room c.loop-b.before c.loop-b.last (c.loop-b.invariant.stored c.if-this-ne0-2.true) c.loop-b-test.true (c.requires (ap not (ne_eqb _ _ c.if-this-ne0-2.true)))

pub bounds-out-n-then-this-ne0-2-2 : goal.bounds-out-n-then-this-ne0-2-2
bounds-out-n-then-this-ne0-2-2 g c = rw length-set (small_room c.loop-b.before c.loop-b.last (c.loop-b.invariant.stored c.if-this-ne0-2.true) c.loop-b-test.true _ c.if-b-gt3.false c.more_before-more.ensures.more (c.requires (ap not (ne_eqb _ _ c.if-this-ne0-2.true))))

pub loop-b-preserved : goal.loop-b-preserved
loop-b-preserved g c = record {
  counted = adding_small c.loop-b.before c.loop-b.last c.loop-b.invariant.counted c.loop-b-test.true _ c.if-b-gt3.false c.more_before-more.ensures.more refl refl;
  stored = λ s. adding_small c.loop-b.before c.loop-b.last (c.loop-b.invariant.stored s) c.loop-b-test.true _ c.if-b-gt3.false c.more_before-more.ensures.more refl (elim c.if-this-ne0-2.branch [ then-this-ne0-2 w ↦ w.out-is | else-this-ne0-2 w ↦ absurd (s w.if-this-ne0-2.false) ]);
  byte = omega (arith, c.if-b-gt3.false);
}

pub bounds-out-n-then-more-eq1 : goal.bounds-out-n-then-more-eq1
bounds-out-n-then-more-eq1 g c = last_room c.loop-b.before c.loop-b.last (c.loop-b.invariant.stored c.if-this-ne0-3.true) c.loop-b-test.false _ c.more_before-more-2.ensures.more c.if-more-eq1.true (c.requires (ap not (ne_eqb _ _ c.if-this-ne0-3.true)))

pub returns-clause-counted : goal.returns-clause-counted
returns-clause-counted g c = adding_counted c.loop-b.before c.loop-b.last c.loop-b.invariant.counted c.loop-b-test.false _ c.more_before-more-2.ensures.more

pub returns-clause-stored : goal.returns-clause-stored
returns-clause-stored g c t =
    let s : g.row.STORES ≡ 0 → ⊥ = λ e. false≢true (sym (ap (λ k. not (eqb k 0)) e) ∙ t) in
    elim c.if-this-ne0-3.branch [
      | then-this-ne0-3+then-more-eq1 w ↦ adding_last c.loop-b.before c.loop-b.last (c.loop-b.invariant.stored s) c.loop-b-test.false _ c.more_before-more-2.ensures.more w.if-more-eq1.true w.out-is
      | else-this-ne0-3 w ↦ w.out-is ∙ adding_done c.loop-b.before c.loop-b.last (c.loop-b.invariant.stored s) c.loop-b-test.false _ c.more_before-more-2.ensures.more
          (elim w.else-this-ne0-3.branch [
            | else-this-ne0-3-via-then-this-ne0-3+else-more-eq1 v ↦ v.if-more-eq1.false
            | else-this-ne0-3-via-else-this-ne0-3 v ↦ absurd (s v.if-this-ne0-3.false)
          ])
    ]
