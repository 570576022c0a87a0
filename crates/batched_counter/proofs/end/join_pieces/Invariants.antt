use Rattle.std.proofs.Common.{◌≡◌, ◌++◌, drop}
use Rattle.batched_counter.specs.Code.End.{CanJoin, all_replies, number_after}
use Rattle.batched_counter.proofs.end.join_pieces.Given as goal

abbrev pub invariant-loop-out : goal.invariant-loop-out
invariant-loop-out l = record {
  told : l.replies.items ++ all_replies l.base (drop l.out-index l.outs) ≡ all_replies l.number l.outs;
  number : number_after l.base (drop l.out-index l.outs) ≡ number_after l.number l.outs;
  fits : CanJoin l.base (drop l.out-index l.outs);
}
