-- Entries as calls, acts and replies, and the shared objects after serving them.
use Rattle.std.specs.Prelude.{List, [], ◌∷◌, map}
use Rattle.seq_objects.specs.Stores.{Store, opening_store, store_after}
use Rattle.seq_objects.specs.declared.act.Act.{Act}
use Rattle.seq_objects.specs.declared.act.Act.TheVariants as act
use Rattle.seq_objects.specs.declared.call.Call.{Call}
use Rattle.seq_objects.specs.declared.reply.Reply.{Reply}
use Rattle.batch_history.specs.declared.batch.Entry.{Entry}
use Rattle.batch_history.specs.Book.{flat}

-- the objects after these entries' operations, one after another
abbrev pub served : Store → List Entry → Store
served store [] = store
served store (entry ∷ entries) = served (store_after store entry.op) entries

-- the objects after all batches of a book, from the opening objects on
abbrev pub served_book : List (List Entry) → Store
served_book book = served opening_store (flat book)

-- the call of an entry
abbrev pub call_in : Entry → Call
call_in entry = record { worker = entry.worker; leaf = entry.leaf; op = entry.op }

-- the calls of entries
abbrev pub calls_in : List Entry → List Call
calls_in entries = map call_in entries

-- the acts of calling with the entries' operations
abbrev pub acts_in : List Entry → List Act
acts_in entries = map (λ entry. act.Call entry.op) entries

-- the replies of entries
abbrev pub replies_in : List Entry → List Reply
replies_in entries = map (λ entry. entry.reply) entries
