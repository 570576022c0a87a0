-- The contents of a shop's structures, and the calls of a batch of it.
use Rattle.std.specs.Prelude.{ℕ, ◌≡◌, ◌<◌, ◌≤◌, ◌*◌, ◌^◌, List, [], length}
use Rattle.std.specs.List.{AllByRecursion}
use Rattle.seq_objects.specs.declared.call.Call.{Call}
use Rattle.seq_objects.specs.declared.kind.Kind.{Kind}
use Rattle.seq_objects.specs.declared.kind.Kind.TheVariants.{Counter, Stack, Tree, Queue}
use Rattle.seq_objects.specs.Batches.{AreInBatchOrder}
use Rattle.seq_objects.specs.Objects.{Objects, argument_of}
use Rattle.seq_objects.specs.Stores.{Store}
use Rattle.seq_objects.specs.Serial.{alone, of_counter, of_stack, of_set, of_bag}
use Rattle.object_rows.specs.declared.row.Row.{Row}
use Rattle.object_rows.specs.Contents.{store_of}
use Rattle.batch_history.specs.declared.batch.Entry.{Entry}
use Rattle.batch_history.specs.Book.{flat}
use Rattle.batch_history.specs.Serving.{served_book}
use Rattle.launch_batch.specs.declared.structures.Structures.{Structures}
use Rattle.launch_batch.specs.Calls.{MayServe, ArePermutations}

-- the objects of one kind alone; all others are as at the opening
abbrev pub store_of_kind : Kind → Store → Store
store_of_kind kind store = λ number. alone kind (store number)

-- the structures of one kind are closed, and contain what serving the history gives; a number without a structure
-- counts as one with the opening content
pub record MatchesHistory {T R : Type 0} (content : T → Objects) (kind : Kind) (row : Row T R)
    (history : List (List Entry)) : Type 0 where
  pub closed : row.called.items ≡ []
  pub contents : (number : ℕ) → store_of content row.closed number ≡ store_of_kind kind (served_book history) number

-- each counter is at most 2^32 for each entry of the history
abbrev pub HasRoom : List (List Entry) → Type 0
HasRoom history = (number : ℕ) → (served_book history number).counter ≤ length (flat history) * 2 ^ 32

-- the structures of each kind match the history, which leaves room in the counters
pub record ShopInvariant (structures : Structures) (history : List (List Entry)) : Type 0 where
  pub counter : MatchesHistory of_counter Counter structures.counter history
  pub stack : MatchesHistory (λ stack. of_stack stack.items) Stack structures.stack history
  pub tree : MatchesHistory of_set Tree structures.tree history
  pub queue : MatchesHistory of_bag Queue structures.queue history
  pub room : HasRoom history

-- the call's leaf and its operation's argument fit 32 bits
abbrev pub IsNarrow : Call → Type 0
IsNarrow call = (call.leaf < 2 ^ 32) × (argument_of call.op < 2 ^ 32)

-- `ordered` is `calls` in batch order, and `calls` may be served after the book
pub record AreOrdered (book : List (List Entry)) (calls ordered : List Call) : Type 0 where
  pub may : MayServe book calls
  pub same : ArePermutations calls ordered
  pub order : AreInBatchOrder ordered
  pub narrow : AllByRecursion IsNarrow ordered
