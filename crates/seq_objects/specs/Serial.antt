-- Serving calls of one number one after another, and separating the kinds of objects from each other.
use Rattle.std.specs.Prelude.{ℕ, if◌then◌else◌, List, [], ◌∷◌}
use Rattle.seq_objects.specs.declared.call.Call.{Call}
use Rattle.seq_objects.specs.declared.reply.Reply.{Reply}
use Rattle.seq_objects.specs.Objects.{Objects, opening, after, reply_to}
use Rattle.seq_objects.specs.Verbs.{Counter, Stack, Tree, Queue}
use Rattle.seq_objects.specs.Batches.{Kind, kind_of, same_kind, calls_of}

-- the objects after the calls
abbrev pub after_all : Objects → List Call → Objects
after_all objects [] = objects
after_all objects (call ∷ calls) = after_all (after objects call.op) calls

-- the replies, in the order of the calls
abbrev pub replies_to_all : Objects → List Call → List Reply
replies_to_all objects [] = []
replies_to_all objects (call ∷ calls) = reply_to objects call.op ∷ replies_to_all (after objects call.op) calls

-- a counter alone: the other objects are as at the opening
abbrev pub of_counter : ℕ → Objects
of_counter number = record opening { counter = number }

-- a stack alone
abbrev pub of_stack : List ℕ → Objects
of_stack items = record opening { stack = items }

-- a set alone
abbrev pub of_set : List ℕ → Objects
of_set keys = record opening { set = keys }

-- a bag alone
abbrev pub of_bag : List ℕ → Objects
of_bag items = record opening { bag = items }

-- one of the objects alone; the others are as at the opening
abbrev pub alone : Kind → Objects → Objects
alone Counter objects = of_counter objects.counter
alone Stack objects = of_stack objects.stack
alone Tree objects = of_set objects.set
alone Queue objects = of_bag objects.bag

-- `objects` with this one object replaced by that of `others`
abbrev pub with_kind : Kind → Objects → Objects → Objects
with_kind Counter objects others = record objects { counter = others.counter }
with_kind Stack objects others = record objects { stack = others.stack }
with_kind Tree objects others = record objects { set = others.set }
with_kind Queue objects others = record objects { bag = others.bag }

-- the replies at the indices of the calls of one kind
abbrev pub replies_of : Kind → List Call → List Reply → List Reply
replies_of kind [] replies = []
replies_of kind (call ∷ calls) [] = []
replies_of kind (call ∷ calls) (reply ∷ replies) =
    if same_kind kind (kind_of call.op) then reply ∷ replies_of kind calls replies
    else replies_of kind calls replies

-- the objects after each has served its own calls alone
abbrev pub after_by_kind : Objects → List Call → Objects
after_by_kind objects calls = record {
  counter = (after_all (of_counter objects.counter) (calls_of Counter calls)).counter;
  stack = (after_all (of_stack objects.stack) (calls_of Stack calls)).stack;
  set = (after_all (of_set objects.set) (calls_of Tree calls)).set;
  bag = (after_all (of_bag objects.bag) (calls_of Queue calls)).bag;
}
