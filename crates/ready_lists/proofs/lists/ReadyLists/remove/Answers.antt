use Rattle.std.proofs.Common.{ℕ, ◌≡◌, ◌≢◌, ◌∙◌, List, [], length, arith, sym, subst}
use Rattle.core_model.specs.State.{put}
use Rattle.core_model.specs.Lists.{times, without}
use Rattle.ready_lists.specs.Ends.{IsAtEnd}
use Rattle.ready_lists.specs.Places.{at}
use Rattle.ready_lists.proofs.ListLemmas.Ends.{removed_one, removed_none, removed_all, none_so_far}
use Rattle.ready_lists.proofs.lists.ReadyLists.remove.Goals as goal

pub returns-then-remove_from-clause-lists : goal.returns-then-remove_from-clause-lists
returns-then-remove_from-clause-lists c =
    c.remove_from.ensures.lists ∙ removed_one (at c.args.self.now []) c.args.worker c.args.node
    (λ v other. c.requires.at_end.alone c.args.worker v other (c.remove_from.ensures.found c.if-remove_from.true))

pub loop-other-init : goal.loop-other-init
loop-other-init c = record {
  len = c.remove_from.ensures.len;
  same = c.remove_from.ensures.lists ∙ removed_none (at c.args.self.now []) c.args.worker c.args.node (c.remove_from.ensures.absent c.if-remove_from.false);
  none = λ v below. absurd (omega (arith, below));
}

pub remove_from-requires-in-loop-other-clause-at_end : goal.remove_from-requires-in-loop-other-clause-at_end
remove_from-requires-in-loop-other-clause-at_end c =
    subst (λ (f : ℕ → List ℕ). IsAtEnd c.args.node (f c.loop-other.other)) (sym c.loop-other.invariant.same) (c.requires.at_end.at_ends c.loop-other.other)

pub returns-then-remove_from-2-clause-lists : goal.returns-then-remove_from-2-clause-lists
returns-then-remove_from-2-clause-lists c =
    let there = subst (λ (f : ℕ → List ℕ). times c.args.node (f c.loop-other.other) ≢ 0) c.loop-other.invariant.same (c.remove_from-in-loop-other.ensures.found c.if-remove_from-2.true) in
    let lists = subst (λ (f : ℕ → List ℕ). at c.remove_from-in-loop-other.new.self [] ≡ put f c.loop-other.other (without c.args.node (f c.loop-other.other))) c.loop-other.invariant.same
    c.remove_from-in-loop-other.ensures.lists in
    lists ∙ removed_one (at c.args.self.now []) c.loop-other.other c.args.node (λ v other. c.requires.at_end.alone c.loop-other.other v other there)

pub loop-other-preserved : goal.loop-other-preserved
loop-other-preserved c =
    let absent = subst (λ (f : ℕ → List ℕ). times c.args.node (f c.loop-other.other) ≡ 0) c.loop-other.invariant.same (c.remove_from-in-loop-other.ensures.absent c.if-remove_from-2.false) in
    let lists = subst (λ (f : ℕ → List ℕ). at c.remove_from-in-loop-other.new.self [] ≡ put f c.loop-other.other (without c.args.node (f c.loop-other.other))) c.loop-other.invariant.same
    c.remove_from-in-loop-other.ensures.lists in record {
      len = c.remove_from-in-loop-other.ensures.len ∙ c.loop-other.invariant.len;
      same = lists ∙ removed_none (at c.args.self.now []) c.loop-other.other c.args.node absent;
      none = none_so_far (at c.args.self.now []) c.args.node c.loop-other.other c.loop-other.invariant.none absent;
    }

pub returns-clause-lists : goal.returns-clause-lists
returns-clause-lists c =
    let all : length c.self.inside.lists.items ≡ length c.args.self.now = rw (← c.self.view_is) at c.remove_from.ensures.len in
    let past = c.loop-other-test.false in
    c.loop-other.invariant.same ∙ removed_all c.args.self.now c.args.node
    (λ v below. c.loop-other.invariant.none v (omega (arith, below, all, past, c.len-other-end.ensures)))
