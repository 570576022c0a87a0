use Rattle.std.proofs.Common.{◌≡◌, ◌++◌, drop}
use Rattle.keyed_pieces.specs.Ranges.{merged}
use Rattle.keyed_pieces.specs.Dealing.{queued, HaveReplies}
use Rattle.keyed_pieces.proofs.dealing.merge.Given as goal

abbrev pub invariant-loop-group : goal.invariant-loop-group
invariant-loop-group g l = record {
  have : HaveReplies (drop l.group-index l.groups) (queued l.replies.items);
  all : (none : _) → l.all.items ++ merged none (drop l.group-index l.groups) (queued l.replies.items) ≡ merged none l.groups (queued l.fn.replies.items);
}
