-- 0 and 1 name a list, and no other number does.
use Rattle.std.proofs.Common.{sym, ap, refl, rules, ne_eqb}
use Rattle.vps_c.specs.Figures.{kind_of}
use Rattle.vps_c.proofs.kind_of.Goals as goal

pub returns-in-0 : goal.returns-in-0
unfolding kind_of
returns-in-0 c = sym (ap kind_of c.in-0.is)

pub returns-in-1 : goal.returns-in-1
unfolding kind_of
returns-in-1 c = sym (ap kind_of c.in-1.is)

pub returns-in_default : goal.returns-in_default
unfolding kind_of
returns-in_default c = search (rules, c.in_default)
