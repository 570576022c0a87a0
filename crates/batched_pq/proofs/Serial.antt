-- The calls of a batch, one after another: first the inserts, then the takes.
use Rattle.std.proofs.Common.{◌≡◌, ℕ, suc, ◌+◌, ◌-◌, ◌<◌, inl, inr, List, [], ◌∷◌, ◌++◌, length, None, refl, ap, arith}
use Rattle.std.specs.List.{AllByRecursion}
use Rattle.seq_objects.specs.declared.op.Op.{Op}
use Rattle.seq_objects.specs.declared.op.Op.TheVariants.{PqInsert, PqTake}
use Rattle.seq_objects.specs.declared.call.Call.{Call}
use Rattle.seq_objects.specs.declared.reply.Reply.TheVariants.{Unit as Done}
use Rattle.seq_objects.specs.Objects.{with_item, least, without_least, number_or_empty}
use Rattle.seq_objects.specs.BatchOrder.{ComesFirst}
use Rattle.seq_objects.specs.declared.kind.Kind.TheVariants.{Queue}
use Rattle.seq_objects.specs.Batches.{AreInBatchOrder, AreOf, kind_of}
use Rattle.seq_objects.specs.Serial.{of_bag, after_all, replies_to_all}
use Rattle.batched_pq.specs.Code.Bags.{with_items}
use Rattle.batched_pq.specs.Calls.{item_of, inserts_of, takes_of}
use Rattle.batched_pq.specs.Code.End.{take_replies, after_takes, insert_replies}

-- in batch order, no insert follows a take
not_before : (taken : ℕ) (op : Op) (worker worker' : ℕ) → kind_of op ≡ Queue
    → ComesFirst (PqTake taken) worker op worker' → item_of op ≡ None
not_before taken (PqInsert number a) worker worker' is first = absurd (elim first [ inl less ↦ omega (arith, less) | inr same ↦ omega (arith, same.0) ])
not_before taken (PqTake number) worker worker' is first = refl
not_before taken _ worker worker' is first = absurd cc

no_inserts : (taken worker : ℕ) (calls : List Call) → AreOf Queue calls
    → AllByRecursion (λ call. ComesFirst (PqTake taken) worker call.op call.worker) calls
    → inserts_of calls ≡ []
no_inserts taken worker [] is first = refl
no_inserts taken worker (call ∷ calls) is first = rw (not_before taken call.op worker call.worker is.0 first.0) (no_inserts taken worker calls is.1 first.1)

abbrev Replied : List ℕ → List Call → Type 0
Replied bag calls = replies_to_all (of_bag bag) calls ≡ insert_replies (length (inserts_of calls)) ++ take_replies (takes_of calls) (with_items (inserts_of calls) bag)

replied_step : (bag : List ℕ) (op : Op) (worker leaf : ℕ) (calls : List Call) → kind_of op ≡ Queue → AreOf Queue calls → AllByRecursion (λ call. ComesFirst op worker call.op call.worker) calls → ((bag' : List ℕ) → Replied bag' calls) → Replied bag (record { worker = worker; leaf = leaf; op = op } ∷ calls)
replied_step bag (PqInsert number a) worker leaf calls is all first ih =
    let same : 0 + takes_of calls ≡ takes_of calls = omega arith in
    rw same (ap (λ replies. Done ∷ replies) (ih (with_item a bag)))
replied_step bag (PqTake number) worker leaf calls is all first ih =
    let none = no_inserts number worker calls all first in
    let rest = rw none at (ih (without_least bag)) in
    let one : 1 + takes_of calls ≡ suc (takes_of calls) = omega arith in
    rw (none, one) (ap (λ replies. number_or_empty (least bag) ∷ replies) rest)
replied_step bag _ worker leaf calls is all first ih = absurd cc

pub serial_replies : (bag : List ℕ) (calls : List Call) → AreOf Queue calls → AreInBatchOrder calls
    → Replied bag calls
serial_replies bag [] is order = refl
serial_replies bag (call ∷ calls) is order = replied_step bag call.op call.worker call.leaf calls is.0 is.1 order.0 (λ bag'. serial_replies bag' calls is.1 order.1)

abbrev Served : List ℕ → List Call → Type 0
Served bag calls = after_all (of_bag bag) calls ≡ of_bag (after_takes (takes_of calls) (with_items (inserts_of calls) bag))

served_step : (bag : List ℕ) (op : Op) (worker leaf : ℕ) (calls : List Call) → kind_of op ≡ Queue → AreOf Queue calls → AllByRecursion (λ call. ComesFirst op worker call.op call.worker) calls → ((bag' : List ℕ) → Served bag' calls) → Served bag (record { worker = worker; leaf = leaf; op = op } ∷ calls)
served_step bag (PqInsert number a) worker leaf calls is all first ih =
    let same : 0 + takes_of calls ≡ takes_of calls = omega arith in
    rw same (ih (with_item a bag))
served_step bag (PqTake number) worker leaf calls is all first ih =
    let none = no_inserts number worker calls all first in
    let rest = rw none at (ih (without_least bag)) in
    let one : 1 + takes_of calls ≡ suc (takes_of calls) = omega arith in
    rw (none, one) rest
served_step bag _ worker leaf calls is all first ih = absurd cc

pub serial_after : (bag : List ℕ) (calls : List Call) → AreOf Queue calls → AreInBatchOrder calls
    → Served bag calls
serial_after bag [] is order = refl
serial_after bag (call ∷ calls) is order = served_step bag call.op call.worker call.leaf calls is.0 is.1 order.0 (λ bag'. serial_after bag' calls is.1 order.1)

-- one of the remaining takes
pub take_replied : (takes counter : ℕ) (bag : List ℕ) → counter < takes
    → take_replies (takes - counter) bag ≡ number_or_empty (least bag) ∷ take_replies (takes - (counter + 1)) (without_least bag)
take_replied takes counter bag more = let e : takes - counter ≡ suc (takes - (counter + 1)) = omega arith in rw e refl

pub take_served : (takes counter : ℕ) (bag : List ℕ) → counter < takes
    → after_takes (takes - counter) bag ≡ after_takes (takes - (counter + 1)) (without_least bag)
take_served takes counter bag more = let e : takes - counter ≡ suc (takes - (counter + 1)) = omega arith in rw e refl
