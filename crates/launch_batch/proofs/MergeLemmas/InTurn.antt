-- The replies to calls in batch order stand kind after kind.
use Rattle.std.proofs.Common.{ℕ, ◌≡◌, ◌<◌, ◌≤◌, inl, inr, Bool, true, false, cond, List, [], ◌∷◌, ◌++◌, length, refl, ap, sym, subst, arith}
use Rattle.launch_batch.proofs.Words.{AllByRecursion, Call, Reply, Store, store_replies, Kind, Counter, Stack, Tree, Queue, AreInBatchOrder, kind_of, same_kind, calls_of, replies_of, store_of_kind}
use Rattle.seq_objects.specs.declared.op.Op.{Op}
use Rattle.seq_objects.specs.BatchOrder.{ComesFirst}
use Rattle.seq_objects.proofs.Classes.{class_grows, turn_of, turn_grows}
use Rattle.seq_objects.proofs.Elements.{each_so}
use Rattle.seq_objects.proofs.Filters.{same_is}
use Rattle.object_rows.proofs.Closing.{length_told}
use Rattle.launch_batch.proofs.MergeLemmas.ByKind.{kind_replies}

-- no operation of an earlier kind comes after one of a later kind
never_after : (kind : Kind) (op : Op) (worker : ℕ) (later : Op) (of : ℕ) → turn_of kind < turn_of (kind_of op) → ComesFirst op worker later of → same_kind kind (kind_of later) ≡ false
never_after kind op worker later of below first = step (same_kind kind (kind_of later)) refl where
  step : (b : Bool) → same_kind kind (kind_of later) ≡ b → b ≡ false
  step false is = refl
  step true is =
      let up = turn_grows op later (class_grows op later worker of first) in
      let same = ap turn_of (same_is kind (kind_of later) is) in
      absurd (omega (arith, below, up, same))

none_of : (kind : Kind) (calls : List Call) (replies : List Reply) → AllByRecursion (λ call. same_kind kind (kind_of call.op) ≡ false) calls → replies_of kind calls replies ≡ []
none_of kind [] replies others = refl
none_of kind (call ∷ calls) [] others = refl
none_of kind (call ∷ calls) (reply ∷ replies) others = rw others.0 (none_of kind calls replies others.1)

-- replies to calls in batch order are those of each kind, kind after kind
pub in_turn : (calls : List Call) (replies : List Reply) → AreInBatchOrder calls → length replies ≡ length calls
    → replies ≡ replies_of Counter calls replies ++ replies_of Stack calls replies ++ replies_of Tree calls replies ++ replies_of Queue calls replies
in_turn [] [] order count = refl
in_turn [] (reply ∷ replies) order count = absurd (omega (arith, count))
in_turn (call ∷ calls) [] order count = absurd (omega (arith, count))
in_turn (call ∷ calls) (reply ∷ replies) order count =
    step (kind_of call.op) (replies_of Counter calls replies) (replies_of Stack calls replies) (replies_of Tree calls replies) (replies_of Queue calls replies)
    refl (none Counter) (none Stack) (none Tree) (in_turn calls replies order.1 (omega (arith, count))) where
      none : (kind : Kind) → turn_of kind < turn_of (kind_of call.op) → replies_of kind calls replies ≡ []
      none kind below = none_of kind calls replies
          (each_so (λ (c : Call). ComesFirst call.op call.worker c.op c.worker) (λ (c : Call). same_kind kind (kind_of c.op) ≡ false)
          (λ c first. never_after kind call.op call.worker c.op c.worker below first) calls order.0)

      step : (k : Kind) (counters stacks trees queues : List Reply) → kind_of call.op ≡ k
          → (turn_of Counter < turn_of (kind_of call.op) → counters ≡ []) → (turn_of Stack < turn_of (kind_of call.op) → stacks ≡ []) → (turn_of Tree < turn_of (kind_of call.op) → trees ≡ [])
          → replies ≡ counters ++ stacks ++ trees ++ queues
          → reply ∷ replies ≡ cond (same_kind Counter k) (reply ∷ counters) counters ++ cond (same_kind Stack k) (reply ∷ stacks) stacks
          ++ cond (same_kind Tree k) (reply ∷ trees) trees ++ cond (same_kind Queue k) (reply ∷ queues) queues
      step Counter counters stacks trees queues is no_counters no_stacks no_trees rest = ap (λ l. reply ∷ l) rest
      step Stack counters stacks trees queues is no_counters no_stacks no_trees rest =
          let c = no_counters (rw is (omega arith)) in
          rw c (ap (λ l. reply ∷ l) (rw c at rest))
      step Tree counters stacks trees queues is no_counters no_stacks no_trees rest =
          let c = no_counters (rw is (omega arith)) in
          let s = no_stacks (rw is (omega arith)) in
          rw (c, s) (ap (λ l. reply ∷ l) (rw (c, s) at rest))
      step Queue counters stacks trees queues is no_counters no_stacks no_trees rest =
          let c = no_counters (rw is (omega arith)) in
          let s = no_stacks (rw is (omega arith)) in
          let t = no_trees (rw is (omega arith)) in
          rw (c, s, t) (ap (λ l. reply ∷ l) (rw (c, s, t) at rest))

-- the replies of serving calls in batch order one after another are those that each kind gives to its own calls, kind
-- after kind
pub kinds_in_turn : (store : Store) (calls : List Call) → AreInBatchOrder calls
    → store_replies store calls ≡ store_replies (store_of_kind Counter store) (calls_of Counter calls) ++ store_replies (store_of_kind Stack store) (calls_of Stack calls)
    ++ store_replies (store_of_kind Tree store) (calls_of Tree calls) ++ store_replies (store_of_kind Queue store) (calls_of Queue calls)
kinds_in_turn store calls order =
    rw (sym (kind_replies Counter store calls), sym (kind_replies Stack store calls), sym (kind_replies Tree store calls), sym (kind_replies Queue store calls))
    (in_turn calls (store_replies store calls) order (length_told store calls))
