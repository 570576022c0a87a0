use Rattle.std.proofs.Common.{subst}
use Rattle.rank_nodes.specs.Maps.{rank_of}
use Rattle.shared_calls.specs.Callers.{IsServed}
use Rattle.shared_calls.specs.Views.{number_of, made, seen}
use Rattle.shared_collections.specs.declared.ranked.RankedOp.TheVariants.{Rank}
use Rattle.shared_collections.specs.Maps.{ranked_map}
use Rattle.shared_collections.proofs.Replies.{served_reply}
use Rattle.shared_collections.proofs.shared_map.SharedMap.rank.Goals as goal

pub count_in-requires : goal.count_in-requires
count_in-requires g c =
    let from = served_reply ranked_map (number_of c.args.caller.now) (made c.args.caller.now) (seen c.args.caller.now) (Rank c.args.key) c.in-Ok.reply (made c.call.new.caller) (seen c.call.new.caller) c.in-Ok.ensures.served in
    (rank_of c.args.key from.0, from.1)

pub returns-in-Ok-clause-served : goal.returns-in-Ok-clause-served
returns-in-Ok-clause-served g c =
    subst (λ reply. IsServed ranked_map (number_of c.args.caller.now) (made c.args.caller.now) (seen c.args.caller.now) (Rank c.args.key) reply (made c.call.new.caller) (seen c.call.new.caller))
    c.count_in.ensures c.in-Ok.ensures.served
