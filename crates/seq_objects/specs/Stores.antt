-- The serial objects of all numbers. What an object contains is found by its number, and there by its kind.
use Rattle.std.specs.Prelude.{ℕ, ◌==◌, ◌<◌, ◌≡◌, ◌⊎◌, if◌then◌else◌, List, [], ◌∷◌, ⊤}
use Rattle.seq_objects.specs.declared.op.Op.{Op}
use Rattle.seq_objects.specs.declared.op.Op.TheVariants.{CounterAdd, Push, TreeInsert, PqInsert}
use Rattle.seq_objects.specs.declared.call.Call.{Call}
use Rattle.seq_objects.specs.declared.reply.Reply.{Reply}
use Rattle.seq_objects.specs.Objects.{Objects, opening, after, reply_to, CanServe, number_of}

-- the objects of each number
abbrev pub Store : Type 0
Store = ℕ → Objects

-- the objects before any operation
abbrev pub opening_store : Store
opening_store = λ number. opening

-- the store with these objects for a number
abbrev pub with_objects : Store → ℕ → Objects → Store
with_objects store number objects = λ other. if other == number then objects else store other

-- an operation is served by the objects of its number, and all others stay
abbrev pub store_after : Store → Op → Store
store_after store op = with_objects store (number_of op) (after (store (number_of op)) op)

-- the reply of the objects of an operation's number
abbrev pub store_reply : Store → Op → Reply
store_reply store op = reply_to (store (number_of op)) op

-- the objects of its number can serve the operation
abbrev pub StoreCanServe : Store → Op → Type 0
StoreCanServe store op = CanServe (store (number_of op)) op

-- the store after calls, one after another
abbrev pub store_after_all : Store → List Call → Store
store_after_all store [] = store
store_after_all store (call ∷ calls) = store_after_all (store_after store call.op) calls

-- the replies, in the order of the calls
abbrev pub store_replies : Store → List Call → List Reply
store_replies store [] = []
store_replies store (call ∷ calls) = store_reply store call.op ∷ store_replies (store_after store call.op) calls

-- the replies at the indices of the calls of one number
abbrev pub replies_at : ℕ → List Call → List Reply → List Reply
replies_at number [] replies = []
replies_at number (call ∷ calls) [] = []
replies_at number (call ∷ calls) (reply ∷ replies) =
    if number_of call.op == number then reply ∷ replies_at number calls replies else replies_at number calls replies

-- The operation allocates nothing: it inserts nothing into a stack, a set or a bag. A counter add allocates only where
-- it is the first on a counter with a number above 0.
abbrev pub TakesNoMemory : Store → Op → Type 0
TakesNoMemory store (CounterAdd number addend) = (number ≡ 0) ⊎ (0 < (store number).counter)
TakesNoMemory store (Push number item) = ⊥
TakesNoMemory store (TreeInsert number key) = ⊥
TakesNoMemory store (PqInsert number item) = ⊥
TakesNoMemory store _ = ⊤
