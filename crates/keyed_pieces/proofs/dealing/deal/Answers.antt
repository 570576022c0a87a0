use Rattle.std.proofs.Common.{◌≡◌, ◌<◌, [], ◌∷◌, ◌++◌, length, length-set, drop, get_or, set, ◌∙◌, ap, sym, arith}
use Rattle.std.proofs.lemmas.List.{map-set, get_or-map, drop_more}
use Rattle.std.proofs.lemmas.Grind.{common_steps}
use Rattle.keyed_pieces.specs.Dealing.{lists}
use Rattle.keyed_pieces.proofs.DealLemmas.{all_dealt, all_at}
use Rattle.keyed_pieces.proofs.dealing.deal.Goals as goal

pub loop-at-preserved : goal.loop-at-preserved
loop-at-preserved g c =
    let groups = c.args.groups.now in
    let items = c.args.items.now in
    let at = c.loop-at.at in
    let all = c.loop-at.all.items in
    let group = get_or groups at 0 in
    let item = c.index-items-at.result in
    let i = c.loop-at.invariant in
    let less : at < length items = c.loop-at-test.true in
    let less' : at < length groups = omega (arith, less, c.requires.same) in
    let below : group < length all = rw i.count (all_at (λ g. g < c.args.count) groups at c.requires.below less') in
    let own : c.index_mut.result.now.items ≡ get_or (lists all) group [] = ap (λ v. v.items) c.index_mut.ensures.value ∙ sym (get_or-map (λ v. v.items) all group c.index_mut.result.now [] below) in
    let pushed : lists (set all group c.push.new.self) ≡ set (lists all) group (get_or (lists all) group [] ++ item ∷ []) = map-set (λ v. v.items) all group c.push.new.self ∙ ap (set (lists all) group) (c.in_ok-push.ensures.items ∙ ap (λ xs. xs ++ item ∷ []) own) in
    let there : get_or items at item ≡ item = sym c.index-items-at.is in
    record {
      dealt = rw pushed (rw (drop_more groups at 0 less', drop_more items at item less, there) at i.dealt);
      count = length-set all group c.push.new.self ∙ i.count;
    }

pub returns : goal.returns
returns g c =
    let groups = c.args.groups.now in
    let none : drop c.loop-at.at groups ≡ [] = grind (arith, common_steps, c.loop-at-test.false, c.requires.same) in
    (rw none at c.loop-at.invariant.dealt) ∙ all_dealt c.args.count groups c.args.items.now c.requires.below c.requires.same
