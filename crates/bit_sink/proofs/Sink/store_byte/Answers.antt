-- A byte with its 03, and one without.
use mathlib.Core.Path.{refl, sym, ◌∙◌}
use Rattle.std.proofs.Common.{rules}
use Rattle.bit_sink.proofs.Steps.{byte_guarded, byte_plain}
use Rattle.bit_sink.proofs.Sink.store_byte.Goals as goal

pub returns-then-is_guarded : goal.returns-then-is_guarded
returns-then-is_guarded c = record {
  output = record { same = refl; long = search rules };
  bits = refl;
  pending = refl;
  stuffed = λ l. byte_guarded (sym c.is_guarded.ensures ∙ c.if-is_guarded.true) c.store.ensures c.store-then-is_guarded.ensures c.zeros_behind-self.ensures;
}

pub returns : goal.returns
returns c = record {
  output = record { same = refl; long = search rules };
  bits = refl;
  pending = refl;
  stuffed = λ l. byte_plain (sym c.is_guarded.ensures ∙ c.if-is_guarded.false) c.store-2.ensures c.zeros_behind-self-2.ensures;
}
