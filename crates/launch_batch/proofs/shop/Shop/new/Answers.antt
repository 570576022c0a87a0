use Rattle.std.proofs.Common.{ap, sym, subst, arith}
use Rattle.launch_batch.specs.declared.structures.Structures.{Structures}
use Rattle.launch_batch.proofs.Words.{Counter, Stack, Tree, Queue, of_counter, of_stack, of_set, of_bag, MatchesHistory}
use Rattle.launch_batch.proofs.BatchLemmas.Beginning.{none_kept}
use Rattle.launch_batch.proofs.shop.Shop.new.Goals as goal

pub invariant_of-result : goal.invariant_of-result
invariant_of-result c =
    let stored = c.in_ok-new.ensures.ok in
    record {
      counter = subst (λ row. MatchesHistory of_counter Counter row c.new-7.result) (sym (ap (λ (s : Structures). s.counter) stored)) (none_kept of_counter Counter c.new.result c.new-7.result c.new.ensures.called c.new.ensures.closed c.new-7.ensures);
      stack = subst (λ row. MatchesHistory (λ stack. of_stack stack.items) Stack row c.new-7.result) (sym (ap (λ (s : Structures). s.stack) stored)) (none_kept (λ stack. of_stack stack.items) Stack c.new-2.result c.new-7.result c.new-2.ensures.called c.new-2.ensures.closed c.new-7.ensures);
      tree = subst (λ row. MatchesHistory of_set Tree row c.new-7.result) (sym (ap (λ (s : Structures). s.tree) stored)) (none_kept of_set Tree c.new-3.result c.new-7.result c.new-3.ensures.called c.new-3.ensures.closed c.new-7.ensures);
      queue = subst (λ row. MatchesHistory of_bag Queue row c.new-7.result) (sym (ap (λ (s : Structures). s.queue) stored)) (none_kept of_bag Queue c.new-4.result c.new-7.result c.new-4.ensures.called c.new-4.ensures.closed c.new-7.ensures);
      room = λ number. rw c.new-7.ensures (omega arith);
    }
