use Rattle.std.proofs.Common.{◌≡◌, ◌++◌, drop, true}
use Rattle.std.specs.List.{list_all}
use Rattle.seq_objects.specs.Serial.{of_set, after_all}
use Rattle.batched_tree.specs.Calls.{is_of_tree}
use Rattle.batched_tree.specs.Replies.{replies_within}
use Rattle.batched_tree.proofs.serve.serve_piece.Given as goal

abbrev pub invariant-loop-call : goal.invariant-loop-call
invariant-loop-call l = record {
  told : l.replies.items ++ replies_within l.beyond (of_set l.forest.keys) (drop l.call-index l.call-items) ≡ replies_within l.fn.piece.beyond (of_set l.fn.piece.forest.keys) l.fn.piece.calls.items;
  keys : (after_all (of_set l.forest.keys) (drop l.call-index l.call-items)).set ≡ (after_all (of_set l.fn.piece.forest.keys) l.fn.piece.calls.items).set;
  of_tree : list_all (λ call. is_of_tree call.op) (drop l.call-index l.call-items) ≡ true;
}
