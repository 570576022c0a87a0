use Rattle.std.proofs.Common.{◌≡◌, length, map}
use Rattle.batched_stack.specs.declared.piece.Served.{Served}
use Rattle.batched_stack.specs.Lists.{lists, rooms_in}
use Rattle.batched_stack.specs.Code.End.{with_outs}
use Rattle.batched_stack.proofs.end.put_back.Given as goal

-- putting back the remaining outs gives the result of putting back all
abbrev pub invariant-loop-out : goal.invariant-loop-out
invariant-loop-out l =
    let outs = l.initial.out-iterator.rest.items in
    let left = l.out-iterator.rest.items in
    record {
      sixteen : length l.stripes.items ≡ 16;
      popped_sixteen : length l.popped.items ≡ 16;
      lists : with_outs (λ (out : Served). out.stripe.items.items) (lists l.stripes.items) left ≡ with_outs (λ (out : Served). out.stripe.items.items) (lists l.initial.stripes.items) outs;
      rooms : with_outs (λ (out : Served). out.stripe.room) (rooms_in l.stripes.items) left ≡ with_outs (λ (out : Served). out.stripe.room) (rooms_in l.initial.stripes.items) outs;
      popped : with_outs (λ (out : Served). out.popped.items) (map (λ v. v.items) l.popped.items) left ≡ with_outs (λ (out : Served). out.popped.items) (map (λ v. v.items) l.initial.popped.items) outs;
    }
