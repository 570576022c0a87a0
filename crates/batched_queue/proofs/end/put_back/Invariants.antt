use Rattle.std.proofs.Common.{◌≡◌, length, map}
use Rattle.batched_queue.specs.declared.piece.Served.{Served}
use Rattle.batched_queue.specs.Code.Stripes.{lists}
use Rattle.batched_queue.specs.Code.Pieces.{with_outs}
use Rattle.batched_queue.proofs.end.put_back.Given as goal

-- putting back the outs that are left gives what putting back all gives
abbrev pub invariant-loop-out : goal.invariant-loop-out
invariant-loop-out l =
    let outs = l.initial.out-iterator.rest.items in
    let left = l.out-iterator.rest.items in
    record {
      sixteen : length l.stripes.items ≡ 16;
      taken_sixteen : length l.all.items ≡ 16;
      lists : with_outs (λ (out : Served). out.items.items) (lists l.stripes.items) left ≡ with_outs (λ (out : Served). out.items.items) (lists l.initial.stripes.items) outs;
      taken : with_outs (λ (out : Served). out.taken.items) (map (λ v. v.items) l.all.items) left ≡ with_outs (λ (out : Served). out.taken.items) (map (λ v. v.items) l.initial.all.items) outs;
    }
