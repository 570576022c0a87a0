use Rattle.std.proofs.Common.{◌≡◌, ℕ, List, Vec, Global, length, slice_index_or, sym, ap, ◌∙◌, subst, arith}
use Rattle.std.specs.Prelude.{flat_map}
use Rattle.std.proofs.lemmas.List.{length-map}
use Rattle.shared_calls.specs.Logs.{state_after}
use Rattle.shared_calls.specs.Closing.{AreCallersOf, AreAllCalls}
use Rattle.shared_structures.specs.Sets.{set}
use Rattle.shared_uses.specs.Inserting.{IsDistinctCount}
use Rattle.shared_uses.proofs.Inserts.{Done, AllDone, all_done, are_callers, count_is, caller_at, none_at, either}
use Rattle.shared_uses.proofs.keys.count_distinct.Goals as goal

pub insert_each-requires-clause-ready : goal.insert_each-requires-clause-ready
insert_each-requires-clause-ready g c κs within i x less is =
    let news = c.in_ok-set.ensures.callers in
    let all = c.in_ok-all.all.items in
    let callers = c.in_ok-all.ensures.callers in
    let long = sym (length-map all (λ y. y.caller)) ∙ (ap (λ l. length l) callers ∙ news.count) in
    let new = news.each i x.caller (omega (arith, less, long)) (subst (λ l. x.caller ≡ slice_index_or l i x.caller) callers (caller_at (λ y. y.caller) all i x is)) in record {
      caller = (new.0, new.1);
      new = (new.4, new.2);
      none = none_at all c.in_ok-all.ensures.none i x less is;
    }

pub close-requires : goal.close-requires
close-requires g c =
    let s = c.in_ok-set.set.shared in
    let olds = c.in_ok-all.all.items in
    let all = c.insert_each.new.all.items in
    let long = sym (length-map olds (λ x. x.caller)) ∙ (ap (λ l. length l) c.in_ok-all.ensures.callers ∙ (c.in_ok-set.ensures.callers.count ∙ sym c.in_ok-set.ensures.all)) in
    let done = all_done s (λ x. x.caller) 0 olds all c.insert_each.ensures.count c.in_ok-callers.ensures.whole (λ i x y less old new.
    let did = c.insert_each.ensures.done i x y less old new in
    subst (λ (n : ℕ). Done s (λ z. z.caller) n x.keys.items y) (omega arith) (did.caller.0, did.caller.1, did.inserted)) in record {
      callers = subst (λ l. AreCallersOf s l) c.in_ok-callers.ensures.callers (are_callers s (λ x. x.caller) _ all done (c.insert_each.ensures.count ∙ long));
    }

pub returns : goal.returns
returns g c =
    let s = c.in_ok-set.set.shared in
    let olds = c.in_ok-all.all.items in
    let all = c.insert_each.new.all.items in
    let done = all_done s (λ x. x.caller) 0 olds all c.insert_each.ensures.count c.in_ok-callers.ensures.whole (λ i x y less old new.
    let did = c.insert_each.ensures.done i x y less old new in
    subst (λ (n : ℕ). Done s (λ z. z.caller) n x.keys.items y) (omega arith) (did.caller.0, did.caller.1, did.inserted)) in
    let lists : List (Vec ℕ Global) = c.args.keys.items in
    let own = subst (λ (l : List (Vec ℕ Global)). AllDone s (λ x. x.caller) 0 l all) c.in_ok-all.ensures.keys done in
    let log = either (λ l. AreAllCalls set c.in_ok-callers.callers.items l) (λ given l. given ≡ state_after set l) c.close.result c.close.ensures.kept c.close.ensures.lost in
    let calls = subst (λ l. AreAllCalls set l log.0) (sym c.in_ok-callers.ensures.callers) log.1 in
    subst (λ (n : ℕ). IsDistinctCount (flat_map (λ (v : Vec ℕ Global). v.items) lists) n) c.in_ok-callers.ensures.new (count_is s (λ x. x.caller) lists all log.0 own calls)
