use Rattle.std.proofs.Common.{◌≡◌, ◌∷◌, ◌++◌, [], ◌∙◌, List, length, map, ap, sym, subst, arith}
use Rattle.std.proofs.lemmas.Grind.{common_steps}
use Rattle.std.proofs.lemmas.List.{map-append}
use Rattle.std.specs.List.{All}
use Rattle.two_deques.specs.declared.pair.DeckPair.{DeckPair}
use Rattle.two_deques.specs.Pairs.{IsNewPair}
use Rattle.two_deques.specs.Code.Opening.{AreMade}
use Rattle.two_deques.proofs.EndsLemmas.Making.{one_more_of}
use Rattle.two_deques.proofs.EndsLemmas.Dealing.{at_hand}
use Rattle.two_deques.proofs.decks.opening.apart.Goals as goal

pub loop-pair-preserved : goal.loop-pair-preserved
loop-pair-preserved c =
    let i = c.loop-pair.invariant in
    let pair = c.in-Some.pair in
    let seen = c.loop-pair.yielded in
    let whole : c.args.pairs.items ≡ seen ++ pair ∷ c.next.new.self.rest.items =
    grind (arith, common_steps, c.in-Some.ensures.steps, i.all, c.into_iter-pair-iterator.ensures.into_iter_gives) in
    let new : IsNewPair c.args.rooms pair = at_hand (IsNewPair c.args.rooms) seen c.next.new.self.rest.items pair
    (subst (λ (l : List DeckPair). All (IsNewPair c.args.rooms) l) whole c.requires.pairs) in record {
      core = one_more_of seen pair _ _ _ _ _ _ _ i.core c.in_ok-push.ensures.items c.in_ok-push-3.ensures.items new.0;
      batch = one_more_of seen pair _ _ _ _ _ _ _ i.batch c.in_ok-push-2.ensures.items c.in_ok-push-4.ensures.items new.1;
      core_are = c.in_ok-push.ensures.items ∙ ap (λ l. l ++ pair.stealers.core ∷ []) i.core_are
          ∙ sym (map-append (λ (p : DeckPair). p.stealers.core) seen (pair ∷ []));
      batch_are = c.in_ok-push-2.ensures.items ∙ ap (λ l. l ++ pair.stealers.batch ∷ []) i.batch_are
          ∙ sym (map-append (λ (p : DeckPair). p.stealers.batch) seen (pair ∷ []));
      all = grind (arith, common_steps, c.in-Some.ensures.steps, i.all);
    }

pub returns-clause-decks : goal.returns-clause-decks
returns-clause-decks c =
    let i = c.loop-pair.invariant in
    let all : c.loop-pair.yielded ≡ c.args.pairs.items =
    grind (arith, common_steps, c.in-None.ensures.steps, i.all, c.into_iter-pair-iterator.ensures.into_iter_gives) in (
      i.core_are ∙ ap (λ l. map (λ (p : DeckPair). p.stealers.core) l) all,
      i.batch_are ∙ ap (λ l. map (λ (p : DeckPair). p.stealers.batch) l) all,
    )

pub returns-clause-core : goal.returns-clause-core
returns-clause-core c =
    let i = c.loop-pair.invariant in
    let all : c.loop-pair.yielded ≡ c.args.pairs.items =
    grind (arith, common_steps, c.in-None.ensures.steps, i.all, c.into_iter-pair-iterator.ensures.into_iter_gives) in
    subst (λ (l : List DeckPair). AreMade 0 (length l) c.args.rooms.core c.loop-pair.core.items c.loop-pair.core_ends.items) all i.core

pub returns-clause-batch : goal.returns-clause-batch
returns-clause-batch c =
    let i = c.loop-pair.invariant in
    let all : c.loop-pair.yielded ≡ c.args.pairs.items =
    grind (arith, common_steps, c.in-None.ensures.steps, i.all, c.into_iter-pair-iterator.ensures.into_iter_gives) in
    subst (λ (l : List DeckPair). AreMade 0 (length l) c.args.rooms.batch c.loop-pair.batch.items c.loop-pair.batch_ends.items) all i.batch
