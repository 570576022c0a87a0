-- The context of a batch of the structures of one kind, and what they have served at its end.
use Rattle.std.specs.Prelude.{◌≡◌, ℕ, false, List, [], length, map}
use Rattle.key_sets.specs.Keys.{has}
use Rattle.seq_objects.specs.declared.call.Call.{Call}
use Rattle.seq_objects.specs.declared.reply.Reply.{Reply}
use Rattle.seq_objects.specs.Objects.{Objects}
use Rattle.seq_objects.specs.Stores.{Store, store_after_all, store_replies}
use Rattle.seq_objects.specs.Batches.{calls_at}
use Rattle.seq_objects.specs.Pieces.{AllMeet, BatchContext}
use Rattle.object_rows.specs.declared.members.Members.{Members}
use Rattle.object_rows.specs.declared.row.Called.{Called}
use Rattle.object_rows.specs.declared.row.Row.{Row}
use Rattle.object_rows.specs.Numbers.{numbers_of}
use Rattle.object_rows.specs.Rows.{members, in_rows}
use Rattle.object_rows.specs.Contents.{store_of}

-- the context of a batch: the contents before it, its calls, and the pieces of each place
abbrev pub RowContext : Type 0 → Type 0
RowContext In = BatchContext Store (Members In)

-- the open structure had the content of its number, and belongs to a batch of its number's calls with these pieces
pub record IsOpenFor {T R In : Type 0} (content : T → Objects) (is_context_of : R → BatchContext T In → Type 0)
    (store : Store) (calls : List Call) (called : Called R) (ins : List In) : Type 0 where
  pub before : T
  pub contains : content before ≡ store called.number
  pub count : called.count ≡ length ins
  pub context : is_context_of called.rest
      (record { before = before; calls = calls_at called.number calls; ins = ins })

-- The structures that the calls call are open, in the order of their numbers; the pieces of the context are theirs in
-- rows. All others are closed, and have the contents of the context.
pub record IsRowContextOf {T R In : Type 0} (content : T → Objects) (is_context_of : R → BatchContext T In → Type 0)
    (row : Row T R) (o : RowContext In) : Type 0 where
  pub lists : List (List In)
  pub opened : AllMeet (IsOpenFor content is_context_of o.before o.calls) row.called.items lists
  pub numbers : map (λ called. called.number) row.called.items ≡ numbers_of o.calls
  pub rows : members o.ins ≡ in_rows lists
  pub others : (number : ℕ) → has number (numbers_of o.calls) ≡ false
      → store_of content row.closed number ≡ o.before number

-- no structure is open; the contents are those after these calls, and these are the replies to them
pub record HasServed {T R : Type 0} (content : T → Objects) (row : Row T R) (before : Store) (calls : List Call)
    (replies : List Reply) : Type 0 where
  pub closed : row.called.items ≡ []
  pub after : (number : ℕ) → store_of content row.closed number ≡ store_after_all before calls number
  pub told : replies ≡ store_replies before calls
