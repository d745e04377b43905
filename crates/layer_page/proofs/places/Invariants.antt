use Rattle.std.proofs.Common.{◌≡◌, take}
use Rattle.layer_sets.specs.Masks.{bit_of}
use Rattle.layer_page.specs.Page.{places}
use Rattle.layer_page.proofs.places.Given as goal

abbrev pub invariant-loop-j : goal.invariant-loop-j
invariant-loop-j l = take l.j l.there-items ≡ places l.fn.n (bit_of l.fn.mask) l.j
