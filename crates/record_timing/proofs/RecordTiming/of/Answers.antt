-- A list that is not well formed first, then the flag.
use Rattle.std.proofs.Common.{sym, ◌∙◌, refl, arith, eq-eqb, ne_eqb}
use Rattle.vps_definition.specs.Layout.{timing_flag}
use Rattle.record_timing.specs.Timing.{has_timing, lacks}
use Rattle.record_timing.specs.Few.{flag_read}
use Rattle.record_timing.proofs.RecordTiming.of.Goals as goal

pub returns-then-not-is_well_formed-clause-there : goal.returns-then-not-is_well_formed-clause-there
unfolding has_timing
returns-then-not-is_well_formed-clause-there c = rw (sym c.is_well_formed.ensures ∙ c.if-not-is_well_formed.true) refl

pub returns-then-not-is_well_formed-clause-refused : goal.returns-then-not-is_well_formed-clause-refused
unfolding lacks
returns-then-not-is_well_formed-clause-refused c = rw (sym c.is_well_formed.ensures ∙ c.if-not-is_well_formed.true) refl

pub returns-then-number_at-ne1-clause-there : goal.returns-then-number_at-ne1-clause-there
unfolding has_timing
returns-then-number_at-ne1-clause-there c =
    rw (
      sym c.is_well_formed.ensures ∙ c.if-not-is_well_formed.false,
      ne_eqb (timing_flag c.args.«record».now) 1 (λ e. omega (arith, e, flag_read _ c.start_of-start.ensures c.number_at.ensures, c.if-number_at-ne1.true)),
    ) refl

pub returns-then-number_at-ne1-clause-refused : goal.returns-then-number_at-ne1-clause-refused
unfolding lacks
returns-then-number_at-ne1-clause-refused c = rw (sym c.is_well_formed.ensures ∙ c.if-not-is_well_formed.false) refl

pub invariant_of-result : goal.invariant_of-result
invariant_of-result c = record {
  formed = sym c.is_well_formed.ensures ∙ c.if-not-is_well_formed.false;
  timed = omega (arith, flag_read _ c.start_of-start.ensures c.number_at.ensures, c.if-number_at-ne1.false);
}

pub returns-clause-there : goal.returns-clause-there
unfolding has_timing
returns-clause-there c =
    rw (
      sym c.is_well_formed.ensures ∙ c.if-not-is_well_formed.false,
      eq-eqb (timing_flag c.args.«record».now) 1 (omega (arith, flag_read _ c.start_of-start.ensures c.number_at.ensures, c.if-number_at-ne1.false)),
    ) refl
