use Rattle.std.proofs.Common.{◌≡◌, ◌++◌}
use Rattle.shared_uses.specs.Drawing.{AreApart}
use Rattle.shared_uses.proofs.tickets.apart.Given as goal

abbrev pub invariant-loop-hand : goal.invariant-loop-hand
invariant-loop-hand l = record {
  apart : AreApart (λ hand. hand.caller) l.yielded l.callers.items l.drawn.items;
  all : l.yielded ++ l.hand-iterator.rest.items ≡ l.initial.hand-iterator.rest.items;
}
