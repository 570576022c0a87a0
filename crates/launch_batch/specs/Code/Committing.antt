-- A batch that the structures have served.
use Rattle.std.specs.Prelude.{◌≡◌, List, ◌++◌}
use Rattle.seq_objects.specs.declared.call.Call.{Call}
use Rattle.seq_objects.specs.declared.reply.Reply.{Reply}
use Rattle.seq_objects.specs.Objects.{Objects}
use Rattle.seq_objects.specs.Stores.{Store, store_replies}
use Rattle.seq_objects.specs.declared.kind.Kind.{Kind}
use Rattle.seq_objects.specs.declared.kind.Kind.TheVariants.{Counter, Stack, Tree, Queue}
use Rattle.seq_objects.specs.Batches.{calls_of}
use Rattle.seq_objects.specs.Serial.{of_counter, of_stack, of_set, of_bag}
use Rattle.object_rows.specs.declared.row.Row.{Row}
use Rattle.object_rows.specs.Contexts.{HasServed}
use Rattle.batch_history.specs.declared.batch.Entry.{Entry}
use Rattle.batch_history.specs.Serving.{served_book}
use Rattle.launch_batch.specs.declared.structures.Structures.{Structures}
use Rattle.launch_batch.specs.Contents.{HasRoom, AreOrdered, store_of_kind}

-- the structures of one kind have served these calls, and the replies to them stand behind the earlier ones
pub record ServesOwn {T R : Type 0} (content : T → Objects) (row : Row T R) (before : Store) (calls : List Call)
    (earlier replies : List Reply) : Type 0 where
  pub served : HasServed content row before calls (store_replies before calls)
  pub behind : replies ≡ earlier ++ store_replies before calls

-- the replies of one kind's structures to their own calls, after the book
abbrev pub own_replies : Kind → List (List Entry) → List Call → List Reply
own_replies kind book ordered = store_replies (store_of_kind kind (served_book book)) (calls_of kind ordered)

-- the structures of one kind had the contents of the book, and have served their own calls
abbrev pub HasServedOwn : {T R : Type 0} → (T → Objects) → Kind → Row T R → List (List Entry) → List Call → Type 0
HasServedOwn content kind row book ordered =
    HasServed content row (store_of_kind kind (served_book book)) (calls_of kind ordered) (own_replies kind book ordered)

-- `ordered` is `calls` in batch order, and `calls` may be served after the book. The structures had the contents of the
-- book; those of each kind have served their own calls of `ordered`. The replies stand kind after kind.
pub record HaveServed (structures : Structures) (book : List (List Entry)) (ordered : List Call)
    (replies : List Reply) (calls : List Call) : Type 0 where
  pub given : AreOrdered book calls ordered
  pub room : HasRoom book
  pub counter : HasServedOwn of_counter Counter structures.counter book ordered
  pub stack : HasServedOwn (λ stack. of_stack stack.items) Stack structures.stack book ordered
  pub tree : HasServedOwn of_set Tree structures.tree book ordered
  pub queue : HasServedOwn of_bag Queue structures.queue book ordered
  pub told : replies ≡ own_replies Counter book ordered ++ own_replies Stack book ordered
      ++ own_replies Tree book ordered ++ own_replies Queue book ordered
