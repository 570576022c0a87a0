-- The entries, the history and the structures at the end of a batch.
use Rattle.std.proofs.Common.{◌≡◌, List, [], ◌∷◌, ◌++◌, length, sym, ap, subst, ◌∙◌, arith}
use Rattle.launch_batch.proofs.Words.{AllByRecursion, Call, Reply, Objects, Store, opening_store, store_after_all, store_replies, Kind, Counter, Stack, Tree, Queue, AreInBatchOrder, alone, of_counter, of_stack, of_set, of_bag, Entry, flat, IsHistory, served, served_book, calls_in, replies_in, ArePermutations, IsServiceOf, MatchesHistory, IsNarrow}
use Rattle.object_rows.specs.declared.row.Row.{Row}
use Rattle.launch_batch.specs.declared.structures.Structures.{Structures}
use Rattle.launch_batch.specs.Contents.{ShopInvariant}
use Rattle.launch_batch.specs.Code.Committing.{HasServedOwn, HaveServed}
use Rattle.launch_batch.proofs.MergeLemmas.ByKind.{kind_content}
use Rattle.launch_batch.proofs.MergeLemmas.InTurn.{kinds_in_turn}
use Rattle.object_rows.proofs.Closing.{length_told}
use Rattle.launch_batch.proofs.BatchLemmas.Serial.{legal_is, served_is, counters_most}
use Rattle.launch_batch.proofs.BatchLemmas.Histories.{history_made, length_book, length_calls}
use Rattle.batch_history.proofs.BookLemmas.Books.{flat_append, served_append}

-- the structures of one kind contain what the history with the batch gives
kind_kept : {T R : Type 0} (content : T → Objects) (kind : Kind) (row : Row T R) (book : List (List Entry)) (ordered : List Call) (entries : List Entry)
    → served_book (book ++ entries ∷ []) ≡ store_after_all (served_book book) ordered → HasServedOwn content kind row book ordered → MatchesHistory content kind row (book ++ entries ∷ [])
kind_kept content kind row book ordered entries then served = record {
  closed = served.closed;
  contents = λ number. served.after number ∙ sym (kind_content kind (served_book book) ordered number) ∙ ap (λ store. alone kind (store number)) (sym then);
}

module _ (structures : Structures) (book : List (List Entry)) (ordered : List Call) (replies : List Reply) (given : List Call) (r : HaveServed structures book ordered replies given) where
  -- the replies, kind after kind, are those of serving the calls one after another
  replies_are : replies ≡ store_replies (served_book book) ordered
  replies_are = r.told ∙ sym (kinds_in_turn (served_book book) ordered r.given.order)

  pub as_many : length replies ≡ length ordered
  as_many = ap length replies_are ∙ length_told (served_book book) ordered

  module _ (entries : List Entry) (calls : calls_in entries ≡ ordered) where
    pub service : replies_in entries ≡ replies → IsServiceOf book given entries
    service told = record {
      same = subst (ArePermutations given) (sym calls) r.given.same;
      order = subst AreInBatchOrder (sym calls) r.given.order;
      replies = legal_is (served_book book) entries (told ∙ replies_are ∙ ap (store_replies (served_book book)) (sym calls));
    }

    -- so the history with this batch is a history
    pub history : IsHistory book → IsServiceOf book given entries → IsHistory (book ++ entries ∷ [])
    history h is = history_made book given entries r.given.may is h (subst (AllByRecursion IsNarrow) (sym calls) r.given.narrow)

    served_then : served_book (book ++ entries ∷ []) ≡ store_after_all (served_book book) ordered
    served_then =
        ap (served opening_store) (flat_append book entries)
        ∙ served_append opening_store (flat book) entries
        ∙ served_is (served_book book) entries
        ∙ ap (store_after_all (served_book book)) calls

    -- and the structures have the contents that it gives
    pub kept : ShopInvariant structures (book ++ entries ∷ [])
    kept = record {
      counter = kind_kept of_counter Counter structures.counter book ordered entries served_then r.counter;
      stack = kind_kept (λ stack. of_stack stack.items) Stack structures.stack book ordered entries served_then r.stack;
      tree = kind_kept of_set Tree structures.tree book ordered entries served_then r.tree;
      queue = kind_kept of_bag Queue structures.queue book ordered entries served_then r.queue;
      room = λ number.
          let now : (served_book (book ++ entries ∷ []) number).counter ≡ (store_after_all (served_book book) ordered number).counter = ap (λ (store : Store). (store number).counter) served_then in
          let most = counters_most (served_book book) ordered number r.given.narrow in
          let long = length_book book entries in
          let entries_long : length entries ≡ length ordered = sym (length_calls entries) ∙ ap length calls in
          let room = r.room number in
          omega (arith, now, most, long, entries_long, room);
    }
