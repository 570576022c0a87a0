use Rattle.std.proofs.Common.{◌≡◌, ◌++◌, drop, length}
use Rattle.bulk_calls.specs.Bulk.{operations}
use Rattle.bulk_calls.specs.Singles.{singles, chopped}
use Rattle.bulk_calls.proofs.end.replies_of.Given as goal

abbrev pub invariant-loop-call : goal.invariant-loop-call
invariant-loop-call l = record {
  replies : l.replies.items ++ chopped (operations (drop l.call-index l.calls)) l.left ≡ chopped (operations l.calls) l.answers;
  enough : length l.left ≡ length (singles (operations (drop l.call-index l.calls)));
}
