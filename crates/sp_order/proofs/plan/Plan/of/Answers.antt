-- At each step, the lists extended by what is left on the stack are those of the job's tree.
use Rattle.std.proofs.Common.{Some, ◌≡◌, List, [], length, ap, sym, ◌∙◌, arith}
use Rattle.std.proofs.lemmas.List.{nil_from_length}
use Rattle.std.proofs.lemmas.List.Elements.{All-pop}
use Rattle.sp_order.specs.declared.plan.builder.Pending.{Pending}
use Rattle.sp_order.specs.Code.PlanBuilder.{lists_in, HasParentBelow, with_all}
use Rattle.sp_order.proofs.BuilderLemmas.Steps.{with_all-push}
use Rattle.sp_order.proofs.BuilderLemmas.Reads.{still_few, lists_of_kinds, lists_tell, some_unwrapped}
use Rattle.sp_order.proofs.plan.Plan.of.Goals as goal

pub visit-requires-clause-room : goal.visit-requires-clause-room
visit-requires-clause-room c =
    omega (arith, still_few c.loop-pending.stack.items (lists_in c.loop-pending.builder) _ c.loop-pending.invariant.listed c.loop-pending.invariant.most)

pub visit-requires-clause-leaf_room : goal.visit-requires-clause-leaf_room
visit-requires-clause-leaf_room c =
    omega (arith, still_few c.loop-pending.stack.items (lists_in c.loop-pending.builder) _ c.loop-pending.invariant.listed c.loop-pending.invariant.most)

pub visit-requires-clause-parents : goal.visit-requires-clause-parents
visit-requires-clause-parents c =
    (All-pop (λ p. HasParentBelow (length c.loop-pending.builder.kinds.items) p.after) c.loop-pending.stack.items c.pop.new.self.items c.pop.result c.pop.ensures.items c.loop-pending.invariant.parents).0

pub loop-pending-smaller : goal.loop-pending-smaller
loop-pending-smaller c =
    omega (arith, c.in_ok-visit.ensures.more, still_few c.loop-pending.stack.items (lists_in c.loop-pending.builder) _ c.loop-pending.invariant.listed c.loop-pending.invariant.most)

pub loop-pending-preserved : goal.loop-pending-preserved
loop-pending-preserved c = record {
  listed =
      c.in_ok-visit.ensures.listed ∙ sym (with_all-push c.pop.new.self.items c.in-Some.pending (lists_in c.loop-pending.builder))
      ∙ ap (λ (stack : List Pending). with_all stack (lists_in c.loop-pending.builder)) (sym c.in-Some.ensures.items) ∙ c.loop-pending.invariant.listed;
  parents = c.in_ok-visit.ensures.parents;
  most = c.loop-pending.invariant.most;
}

pub invariant_of-result : goal.invariant_of-result
invariant_of-result c =
    let none_left : c.loop-pending.stack.items ≡ [] = nil_from_length c.loop-pending.stack.items (sym c.loop-pending.stack.ok.0 ∙ c.in_default.ensures.cases.0) in
    lists_of_kinds (lists_in c.loop-pending.builder) _ (rw none_left at c.loop-pending.invariant.listed) c.loop-pending.invariant.most

pub returns : goal.returns
returns c =
    let none_left : c.loop-pending.stack.items ≡ [] = nil_from_length c.loop-pending.stack.items (sym c.loop-pending.stack.ok.0 ∙ c.in_default.ensures.cases.0) in
    ap Some (lists_tell (lists_in c.loop-pending.builder) _ (rw none_left at c.loop-pending.invariant.listed)) ∙ some_unwrapped c.args.job.now.shape c.requires
