use Rattle.std.proofs.Common.{◌≡◌, ◌++◌, map, length}
use Rattle.two_deques.proofs.decks.Decks.into_stealers.Given as goal

abbrev pub invariant-loop-nodes : goal.invariant-loop-nodes
invariant-loop-nodes l = record {
  core : map (λ s. s.core) l.all.items ++ l.nodes-iterator.a.rest.items ≡ l.fn.self.core.items;
  batch : map (λ s. s.batch) l.all.items ++ l.nodes-iterator.b.rest.items ≡ l.fn.self.batch.items;
  same : length l.nodes-iterator.a.rest.items ≡ length l.nodes-iterator.b.rest.items;
}
