-- Entries, the serial service of their calls, and a bound on the counter.
use Rattle.std.proofs.Common.{ℕ, ◌≡◌, ◌==◌, ◌+◌, ◌*◌, ◌<◌, ◌≤◌, ◌^◌, List, [], ◌∷◌, length, refl, ap, arith}
use Rattle.launch_batch.proofs.Words.{AllByRecursion, Call, Objects, after, argument_of, number_of, Store, store_after, store_reply, store_after_all, store_replies, calls_at, after_all, Entry, IsLegalFrom, served, calls_in, replies_in, IsNarrow}
use Rattle.seq_objects.specs.declared.op.Op.{Op}
use Rattle.seq_objects.specs.declared.op.Op.TheVariants.{CounterAdd}
use Rattle.key_sets.proofs.Filters.{all_filter}
use Rattle.seq_objects.proofs.Numbers.{own_content}
use Rattle.launch_batch.proofs.MergeLemmas.Dealing.{few_pass}
use Rattle.batched_counter.specs.Sums.{total}
use Rattle.batched_counter.specs.Calls.{addend_of, addends}

-- entries whose replies are those of serving their calls are legal
pub legal_is : (store : Store) (entries : List Entry) → replies_in entries ≡ store_replies store (calls_in entries) → IsLegalFrom store entries
legal_is store [] h = tt
legal_is store (e ∷ entries) h =
    let same : e.reply ∷ replies_in entries ≡ store_reply store e.op ∷ store_replies (store_after store e.op) (calls_in entries) = h in
    (cc, legal_is (store_after store e.op) entries (cc))

pub served_is : (store : Store) (entries : List Entry) → served store entries ≡ store_after_all store (calls_in entries)
served_is store [] = refl
served_is store (e ∷ entries) = served_is (store_after store e.op) entries

-- an operation adds at most 2^32 to a counter
counter_step : (o : Objects) (op : Op) → argument_of op < 2 ^ 32 → (after o op).counter ≤ o.counter + 2 ^ 32
counter_step o (CounterAdd number a) small = omega (arith, small)
counter_step o _ small = omega arith

counter_most : (o : Objects) (calls : List Call) → AllByRecursion IsNarrow calls → (after_all o calls).counter ≤ o.counter + length calls * 2 ^ 32
counter_most o [] narrow = omega arith
counter_most o (call ∷ calls) narrow =
    let first = counter_step o call.op narrow.0.1 in
    let rest = counter_most (after o call.op) calls narrow.1 in
    omega (arith, first, rest)

pub counters_most : (store : Store) (calls : List Call) (number : ℕ) → AllByRecursion IsNarrow calls → (store_after_all store calls number).counter ≤ (store number).counter + length calls * 2 ^ 32
counters_most store calls number narrow =
    let after : (store_after_all store calls number).counter ≡ (after_all (store number) (calls_at number calls)).counter = ap (λ (o : Objects). o.counter) (own_content number store calls) in
    let most = counter_most (store number) (calls_at number calls) (all_filter IsNarrow (λ (call : Call). number_of call.op == number) calls narrow) in
    let few = few_pass (λ (call : Call). number_of call.op == number) calls in
    omega (arith, after, most, few)

-- an addend is at most 2^32
addend_small : (op : Op) → argument_of op < 2 ^ 32 → addend_of op ≤ 2 ^ 32
addend_small (CounterAdd number a) h = omega (arith, h)
addend_small _ h = omega arith

pub total_small : (calls : List Call) → AllByRecursion IsNarrow calls → total (addends calls) ≤ length calls * 2 ^ 32
total_small [] h = omega arith
total_small (call ∷ calls) h = omega (arith, addend_small call.op h.0.1, total_small calls h.1)
