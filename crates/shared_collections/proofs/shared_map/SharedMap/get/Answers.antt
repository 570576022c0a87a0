use Rattle.std.proofs.Common.{subst}
use Rattle.rank_nodes.specs.Maps.{value_at}
use Rattle.shared_calls.specs.Callers.{IsServed}
use Rattle.shared_calls.specs.Views.{number_of, made, seen}
use Rattle.shared_collections.specs.declared.ranked.RankedOp.TheVariants.{Get}
use Rattle.shared_collections.specs.Maps.{ranked_map}
use Rattle.shared_collections.proofs.Replies.{served_reply}
use Rattle.shared_collections.proofs.shared_map.SharedMap.get.Goals as goal

pub value_in-requires : goal.value_in-requires
value_in-requires g c =
    let from = served_reply ranked_map (number_of c.args.caller.now) (made c.args.caller.now) (seen c.args.caller.now) (Get c.args.key) c.in-Ok.reply (made c.call.new.caller) (seen c.call.new.caller) c.in-Ok.ensures.served in
    (value_at c.args.key from.0, from.1)

pub returns-in-Ok-clause-served : goal.returns-in-Ok-clause-served
returns-in-Ok-clause-served g c =
    subst (λ reply. IsServed ranked_map (number_of c.args.caller.now) (made c.args.caller.now) (seen c.args.caller.now) (Get c.args.key) reply (made c.call.new.caller) (seen c.call.new.caller))
    c.value_in.ensures c.in-Ok.ensures.served
