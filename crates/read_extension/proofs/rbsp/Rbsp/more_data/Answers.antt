-- The place's comparison with that of the last one-bit.
use Rattle.read_extension.proofs.Last.{more_by_place}
use Rattle.read_extension.proofs.rbsp.Rbsp.more_data.Goals as goal

pub returns-in-Some : goal.returns-in-Some
returns-in-Some c = more_by_place _ c.args.self.last c.in-Some.is c.args.at

pub returns-in-None : goal.returns-in-None
returns-in-None c = more_by_place _ c.args.self.last c.in-None.is c.args.at
