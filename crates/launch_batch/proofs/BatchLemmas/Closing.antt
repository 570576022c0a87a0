-- The structures, each of which has served its calls.
use Rattle.std.proofs.Common.{◌≡◌, List, [], ◌++◌, length, refl, ap, sym, subst, ◌∙◌, append-nil, arith}
use Rattle.launch_batch.proofs.Words.{Members, Call, Reply, Objects, Kind, Counter, Stack, Tree, Queue, calls_of, of_counter, of_stack, of_set, of_bag, AllMeet, BatchContext, Entry, PieceIn, counter_piece, stack_piece, tree_piece, queue_piece, part, Store, store_of_kind, served_book, HasRoom}
use Rattle.batched_counter.specs.Pieces.{IsContextOf as IsCounterContext, Meets as CounterMeets}
use Rattle.batched_stack.specs.Pieces.{IsContextOf as IsStackContext, Meets as StackMeets}
use Rattle.batched_tree.specs.Pieces.{IsContextOf as IsTreeContext, Meets as TreeMeets}
use Rattle.batched_pq.specs.Pieces.{IsContextOf as IsQueueContext, Meets as QueueMeets}
use Rattle.launch_batch.specs.declared.opened.Opened.{Opened}
use Rattle.launch_batch.specs.declared.outs.Outs.{Outs}
use Rattle.object_rows.specs.declared.row.Row.{Row}
use Rattle.object_rows.specs.Rows.{MembersMeet}
use Rattle.object_rows.specs.Contents.{store_of}
use Rattle.object_rows.specs.Contexts.{RowContext, IsRowContextOf, HasServed}
use Rattle.launch_batch.specs.declared.structures.Structures.{Structures}
use Rattle.launch_batch.specs.Contents.{ShopInvariant, AreOrdered}
use Rattle.object_rows.proofs.ListLemmas.{no_members}
use Rattle.launch_batch.specs.Contexts.{IsContextOf}
use Rattle.launch_batch.specs.Code.Outs.{rows_of, HaveMet}
use Rattle.launch_batch.specs.Code.Committing.{ServesOwn, own_replies, HaveServed}
use Rattle.launch_batch.proofs.BatchLemmas.Beginning.{served_for}

-- replies to calls that are served, put behind the earlier ones
pub served_behind : {T R : Type 0} (content : T → Objects) (row : Row T R) (before : Store) (calls : List Call) (told earlier replies : List Reply)
    → HasServed content row before calls told → replies ≡ earlier ++ told → ServesOwn content row before calls earlier replies
served_behind content row before calls told earlier replies h put = record {
  served = record { closed = h.closed; after = h.after; told = refl };
  behind = put ∙ ap (λ l. earlier ++ l) h.told;
}

-- without calls
pub none_behind : {T R : Type 0} (content : T → Objects) (row : Row T R) (calls : List Call) (replies : List Reply) → row.called.items ≡ [] → length calls ≡ 0
    → ServesOwn content row (store_of content row.closed) calls replies replies
none_behind content row calls replies closed none =
    let empty = no_members calls (λ some. omega (arith, some, none)) in
    rw empty (record { served = record { closed = closed; after = λ number. refl; told = refl }; behind = sym (append-nil replies) })

-- the structures of all kinds, each of which has served its own calls; the replies stand kind after kind
module _ (now : Structures) (book : List (List Entry)) (calls ordered : List Call) (given : AreOrdered book calls ordered) (room : HasRoom book) where
  pub all_served : (none one two three replies : List Reply) → none ≡ []
      → ServesOwn of_counter now.counter (store_of_kind Counter (served_book book)) (calls_of Counter ordered) none one
      → ServesOwn (λ stack. of_stack stack.items) now.stack (store_of_kind Stack (served_book book)) (calls_of Stack ordered) one two
      → ServesOwn of_set now.tree (store_of_kind Tree (served_book book)) (calls_of Tree ordered) two three
      → ServesOwn of_bag now.queue (store_of_kind Queue (served_book book)) (calls_of Queue ordered) three replies
      → HaveServed now book ordered replies calls
  all_served none one two three replies empty counter stack tree queue = record {
    given = given;
    room = room;
    counter = counter.served;
    stack = stack.served;
    tree = tree.served;
    queue = queue.served;
    told = queue.behind ∙ ap (λ l. l ++ own_replies Queue book ordered) (tree.behind ∙ ap (λ l. l ++ own_replies Tree book ordered) (stack.behind ∙ ap (λ l. l ++ own_replies Stack book ordered)
        (counter.behind ∙ ap (λ l. l ++ own_replies Counter book ordered) empty)));
  }

-- what the closing of a row promises
abbrev Closes : {T R In Out : Type 0} → Kind → (T → Objects) → (R → BatchContext T In → Type 0) → (In → Out → Type 0) → List Call → Row T R → Row T R → List (Members Out) → List Reply → List Reply → Type 0
Closes {T} {R} {In} {Out} kind content is_context_of meets calls was now outs earlier replies =
    (o : RowContext In) → IsRowContextOf content is_context_of was o → o.calls ≡ calls_of kind calls → AllMeet (MembersMeet meets) o.ins outs → ServesOwn content now o.before o.calls earlier replies

module _ (opened : Opened) (o : BatchContext (List (List Entry)) PieceIn) (r : IsContextOf opened o) (outs : Outs) (met : HaveMet o.ins outs) where
  pub have_served : (was now : Structures) (none one two three replies : List Reply) (all : List Call) → was ≡ opened.structures.value → all ≡ opened.calls.items → none ≡ []
      → Closes Counter of_counter IsCounterContext CounterMeets all was.counter now.counter (rows_of outs.counter) none one
      → Closes Stack (λ stack. of_stack stack.items) IsStackContext StackMeets all was.stack now.stack (rows_of outs.stack) one two
      → Closes Tree of_set IsTreeContext TreeMeets all was.tree now.tree (rows_of outs.tree) two three
      → Closes Queue of_bag IsQueueContext QueueMeets all was.queue now.queue (rows_of outs.queue) three replies
      → HaveServed now opened.history opened.calls.items replies o.calls
  have_served was now none one two three replies all same calls empty counter stack tree queue = subst (λ book. HaveServed now book opened.calls.items replies o.calls) (sym r.book)
      (all_served now o.before o.calls opened.calls.items r.given r.room none one two three replies empty
      (counter (part Counter counter_piece o.before opened.calls.items o.ins) (rw same r.counter) (ap (calls_of Counter) (sym calls)) met.counter)
      (stack (part Stack stack_piece o.before opened.calls.items o.ins) (rw same r.stack) (ap (calls_of Stack) (sym calls)) met.stack)
      (tree (part Tree tree_piece o.before opened.calls.items o.ins) (rw same r.tree) (ap (calls_of Tree) (sym calls)) met.tree)
      (queue (part Queue queue_piece o.before opened.calls.items o.ins) (rw same r.queue) (ap (calls_of Queue) (sym calls)) met.queue))

module _ (structures : Structures) (book : List (List Entry)) (calls ordered : List Call) (i : ShopInvariant structures book) (given : AreOrdered book calls ordered) where
  -- kind by kind
  pub have_served_own : (was now : Structures) (none one two three replies : List Reply) (all : List Call) → was ≡ structures → all ≡ ordered → none ≡ []
      → ServesOwn of_counter now.counter (store_of of_counter was.counter.closed) (calls_of Counter all) none one
      → ServesOwn (λ stack. of_stack stack.items) now.stack (store_of (λ stack. of_stack stack.items) was.stack.closed) (calls_of Stack all) one two
      → ServesOwn of_set now.tree (store_of of_set was.tree.closed) (calls_of Tree all) two three
      → ServesOwn of_bag now.queue (store_of of_bag was.queue.closed) (calls_of Queue all) three replies
      → HaveServed now book ordered replies calls
  have_served_own was now none one two three replies all same are empty counter stack tree queue =
      all_served now book calls ordered given i.room none one two three replies empty
      (served_for of_counter Counter structures.counter now.counter book (calls_of Counter ordered) none one i.counter (rw (same, are) at counter))
      (served_for (λ stack. of_stack stack.items) Stack structures.stack now.stack book (calls_of Stack ordered) one two i.stack (rw (same, are) at stack))
      (served_for of_set Tree structures.tree now.tree book (calls_of Tree ordered) two three i.tree (rw (same, are) at tree))
      (served_for of_bag Queue structures.queue now.queue book (calls_of Queue ordered) three replies i.queue (rw (same, are) at queue))
