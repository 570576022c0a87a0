use Rattle.std.proofs.Common.{◌≡◌, map, take}
use Rattle.shared_collections.specs.Code.Fifos.{own_reply}
use Rattle.shared_collections.proofs.fifo.own_replies.Given as goal

abbrev pub invariant-loop-reply : goal.invariant-loop-reply
invariant-loop-reply l = l.all.items ≡ map own_reply (take l.reply-index l.replies)
