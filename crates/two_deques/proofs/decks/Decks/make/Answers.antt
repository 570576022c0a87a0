use Rattle.std.proofs.Common.{List, sym, subst, arith}
use Rattle.std.proofs.lemmas.Grind.{common_steps}
use Rattle.std.proofs.lemmas.List.Elements.{All-push}
use Rattle.std.specs.List.{All}
use Rattle.two_deques.specs.declared.pair.Rooms.{Rooms}
use Rattle.two_deques.specs.declared.pair.DeckPair.{DeckPair}
use Rattle.two_deques.specs.Pairs.{IsNewPair}
use Rattle.two_deques.proofs.decks.Decks.make.Goals as goal

pub loop-preserved : goal.loop-preserved
loop-preserved c =
    let rooms : Rooms = record { core = c.args.core_room; batch = c.args.batch_room } in record {
      count = grind (arith, common_steps, c.in_ok-push.ensures.items, c.loop.invariant.count);
      new = subst (λ (l : List DeckPair). All (IsNewPair rooms) l) (sym c.in_ok-push.ensures.items)
          (All-push (IsNewPair rooms) c.loop.pairs.items c.in_ok-make.field-0 c.loop.invariant.new c.in_ok-make.ensures);
    }
