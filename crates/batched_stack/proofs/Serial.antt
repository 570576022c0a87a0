-- The stack and the replies after serving calls one after another.
use Rattle.std.proofs.Common.{◌≡◌, ℕ, zero, suc, ◌+◌, ◌-◌, inl, inr, List, [], ◌∷◌, ◌++◌, length, take, replicate, refl, sym, ap, subst, ◌∙◌, append_assoc, append-nil, length-take-le, arith}
use Rattle.std.specs.List.{AllByRecursion}
use Rattle.std.proofs.lemmas.List.{take-take}
use Rattle.std.proofs.lemmas.Grind.{common_steps}
use Rattle.seq_objects.specs.declared.op.Op.{Op}
use Rattle.seq_objects.specs.declared.op.Op.TheVariants.{Push, Pop}
use Rattle.seq_objects.specs.declared.call.Call.{Call}
use Rattle.seq_objects.specs.declared.reply.Reply.{Reply}
use Rattle.seq_objects.specs.declared.reply.Reply.TheVariants as reply
use Rattle.seq_objects.specs.Objects.{top, without_top, number_or_empty}
use Rattle.seq_objects.specs.BatchOrder.{ComesFirst}
use Rattle.seq_objects.specs.declared.kind.Kind.TheVariants.{Stack}
use Rattle.seq_objects.specs.Batches.{AreInBatchOrder, AreOf, kind_of}
use Rattle.seq_objects.specs.Serial.{replies_to_all, after_all, of_stack}
use Rattle.batched_stack.specs.Calls.{pushes_of, pops_of}

-- the replies to a number of pops, and the items that they leave
abbrev pub pop_replies : List ℕ → ℕ → List Reply
pop_replies items zero = []
pop_replies items (suc pops) = number_or_empty (top items) ∷ pop_replies (without_top items) pops

abbrev pub popped_off : List ℕ → ℕ → List ℕ
popped_off items zero = items
popped_off items (suc pops) = popped_off (without_top items) pops

push_is_no_later : (popped : ℕ) (op : Op) (worker later : ℕ) (calls : List Call) → ComesFirst (Pop popped) worker op later → kind_of op ≡ Stack → pushes_of calls ≡ [] → pushes_of (record { worker = later; leaf = 0; op = op } ∷ calls) ≡ []
push_is_no_later popped (Push number item) worker later calls first is none = elim first [ inl less ↦ absurd (omega (arith, less)) | inr same ↦ absurd (omega (arith, same.0)) ]
push_is_no_later popped (Pop number) worker later calls first is none = none
push_is_no_later popped _ worker later calls first is none = absurd cc

-- no push comes after a pop
no_push_later : (popped worker : ℕ) (calls : List Call)
    → AllByRecursion (λ later. ComesFirst (Pop popped) worker later.op later.worker) calls
    → AreOf Stack calls → pushes_of calls ≡ []
no_push_later popped worker [] first is = refl
no_push_later popped worker (call ∷ calls) first is =
    push_is_no_later popped call.op worker call.worker calls first.0 is.0 (no_push_later popped worker calls first.1 is.1)

pop_reply : (items puts : List ℕ) (pops : ℕ) → puts ≡ []
    → number_or_empty (top items) ∷ (replicate (length puts) reply.Unit ++ pop_replies (without_top items ++ puts) pops) ≡ replicate (length puts) reply.Unit ++ pop_replies (items ++ puts) (1 + pops)
pop_reply items puts pops none =
    let on : 1 + pops ≡ suc pops = omega arith in
    rw on (subst (λ (q : List ℕ). number_or_empty (top items) ∷ (replicate (length q) reply.Unit ++ pop_replies (without_top items ++ q) pops) ≡ replicate (length q) reply.Unit ++ pop_replies (items ++ q) (suc pops)) (sym none) (rw (append-nil items, append-nil (without_top items)) refl))

pop_leaves : (items puts : List ℕ) (pops : ℕ) → puts ≡ []
    → popped_off (without_top items ++ puts) pops ≡ popped_off (items ++ puts) (1 + pops)
pop_leaves items puts pops none =
    let on : 1 + pops ≡ suc pops = omega arith in
    rw on (subst (λ (q : List ℕ). popped_off (without_top items ++ q) pops ≡ popped_off (items ++ q) (suc pops)) (sym none) (rw (append-nil items, append-nil (without_top items)) refl))

replies_step : (items : List ℕ) (op : Op) (worker leaf : ℕ) (calls : List Call) → kind_of op ≡ Stack → AllByRecursion (λ later. ComesFirst op worker later.op later.worker) calls → AreOf Stack calls → ((xs : List ℕ) → replies_to_all (of_stack xs) calls ≡ replicate (length (pushes_of calls)) reply.Unit ++ pop_replies (xs ++ pushes_of calls) (pops_of calls)) → replies_to_all (of_stack items) (record { worker = worker; leaf = leaf; op = op } ∷ calls) ≡ replicate (length (pushes_of (record { worker = worker; leaf = leaf; op = op } ∷ calls))) reply.Unit ++ pop_replies (items ++ pushes_of (record { worker = worker; leaf = leaf; op = op } ∷ calls)) (pops_of (record { worker = worker; leaf = leaf; op = op } ∷ calls))
replies_step items (Push number item) worker leaf calls is first of later = let none : 0 + pops_of calls ≡ pops_of calls = omega arith in rw none (ap (λ rs. reply.Unit ∷ rs) (later (items ++ item ∷ []) ∙ ap (λ xs. replicate (length (pushes_of calls)) reply.Unit ++ pop_replies xs (pops_of calls)) (append_assoc items (item ∷ []) (pushes_of calls))))
replies_step items (Pop number) worker leaf calls is first of later = ap (λ rs. number_or_empty (top items) ∷ rs) (later (without_top items)) ∙ pop_reply items (pushes_of calls) (pops_of calls) (no_push_later number worker calls first of)
replies_step items _ worker leaf calls is first of later = absurd cc

-- the replies to a batch: done for each push, and then those to the pops
pub serial_replies : (items : List ℕ) (calls : List Call) → AreOf Stack calls
    → AreInBatchOrder calls
    → replies_to_all (of_stack items) calls ≡ replicate (length (pushes_of calls)) reply.Unit ++ pop_replies (items ++ pushes_of calls) (pops_of calls)
serial_replies items [] of order = refl
serial_replies items (call ∷ calls) of order = replies_step items call.op call.worker call.leaf calls of.0 order.0 of.1 (λ xs. serial_replies xs calls of.1 order.1)

after_step : (items : List ℕ) (op : Op) (worker leaf : ℕ) (calls : List Call) → kind_of op ≡ Stack → AllByRecursion (λ later. ComesFirst op worker later.op later.worker) calls → AreOf Stack calls → ((xs : List ℕ) → after_all (of_stack xs) calls ≡ of_stack (popped_off (xs ++ pushes_of calls) (pops_of calls))) → after_all (of_stack items) (record { worker = worker; leaf = leaf; op = op } ∷ calls) ≡ of_stack (popped_off (items ++ pushes_of (record { worker = worker; leaf = leaf; op = op } ∷ calls)) (pops_of (record { worker = worker; leaf = leaf; op = op } ∷ calls)))
after_step items (Push number item) worker leaf calls is first of later = let none : 0 + pops_of calls ≡ pops_of calls = omega arith in rw none (later (items ++ item ∷ []) ∙ ap (λ xs. of_stack (popped_off xs (pops_of calls))) (append_assoc items (item ∷ []) (pushes_of calls)))
after_step items (Pop number) worker leaf calls is first of later = later (without_top items) ∙ ap of_stack (pop_leaves items (pushes_of calls) (pops_of calls) (no_push_later number worker calls first of))
after_step items _ worker leaf calls is first of later = absurd cc

serial_off : (items : List ℕ) (calls : List Call) → AreOf Stack calls → AreInBatchOrder calls
    → after_all (of_stack items) calls ≡ of_stack (popped_off (items ++ pushes_of calls) (pops_of calls))
serial_off items [] of order = ap of_stack (sym (append-nil items))
serial_off items (call ∷ calls) of order = after_step items call.op call.worker call.leaf calls of.0 order.0 of.1 (λ xs. serial_off xs calls of.1 order.1)

off_is : (items : List ℕ) (pops : ℕ) → popped_off items pops ≡ take (length items - pops) items
off_is items zero = grind (arith, common_steps)
off_is items (suc pops) =
    let long : length (without_top items) ≡ length items - 1 = length-take-le (length items - 1) items (omega arith) in
    let less : length items - 1 - pops ≡ length items - suc pops = omega arith in
    off_is (without_top items) pops ∙ rw long (take-take (length items - 1 - pops) (length items - 1) items (omega arith) ∙ ap (λ n. take n items) less)

-- a batch leaves the items and the pushed ones, less the last one for each pop
pub serial_after : (items : List ℕ) (calls : List Call) → AreOf Stack calls → AreInBatchOrder calls
    → after_all (of_stack items) calls ≡ of_stack (take (length (items ++ pushes_of calls) - pops_of calls) (items ++ pushes_of calls))
serial_after items calls of order = serial_off items calls of order ∙ ap of_stack (off_is (items ++ pushes_of calls) (pops_of calls))
