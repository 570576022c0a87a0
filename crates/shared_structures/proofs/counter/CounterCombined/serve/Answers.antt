use Rattle.std.proofs.Common.{[], ◌++◌, take, append-nil, sym, ap, ◌∙◌, arith}
use Rattle.shared_calls.specs.Serial.{replies_to_all, after_all}
use Rattle.shared_calls.proofs.InOrder.{in_order}
use Rattle.shared_structures.specs.Counters.{counter}
use Rattle.shared_structures.proofs.Sums.{ended}
use Rattle.shared_structures.proofs.counter.CounterCombined.serve.Goals as goal

pub returns-clause-served : goal.returns-clause-served
returns-clause-served c =
    let i = c.loop-i.invariant in
    let n = c.loop-i.number in
    let sums = c.loop-i.sums.items in
    let ok = c.loop-i.sums.ok in
    let end = c.len-i-end.ensures in
    let test = c.loop-i-test.false in
    let long = i.long in
    let there = ended sums c.loop-i.i (omega (arith, ok, end, test, long)) in
    in_order counter c.args.self.number n c.args.ops.items sums
    (sym (append-nil sums) ∙ (ap (λ l. l ++ []) (sym there.0) ∙ (ap (λ l. take c.loop-i.i sums ++ replies_to_all counter n l) (sym there.1) ∙ i.sums)))
    (ap (λ l. after_all counter n l) (sym there.1) ∙ i.number)
