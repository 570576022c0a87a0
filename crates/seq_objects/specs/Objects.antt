-- The serial objects of one number: the sequential semantics of each operation, as its effect on the objects and its
-- reply. An operation is served by the objects of its number, so its number does not matter here.
use Rattle.std.specs.Prelude.{ℕ, ◌+◌, ◌-◌, ◌<◌, ◌^◌, Bool, true, false, not, nat_le, if◌then◌else◌, List, [], ◌∷◌, ◌++◌, length, take, drop, slice_get, Some, None, ⊤}
use Rattle.std.specs.declared.option.Option.{Option}
use Rattle.seq_objects.specs.declared.op.Op.{Op}
use Rattle.seq_objects.specs.declared.op.Op.TheVariants.{CounterAdd, Push, Pop, TreeInsert, TreeRemove, TreeFind, TreeNext, PqInsert, PqTake}
use Rattle.seq_objects.specs.declared.reply.Reply.{Reply}
use Rattle.seq_objects.specs.declared.reply.Reply.TheVariants as reply
-- sets of keys: membership, insertion, removal, and the least key strictly greater than a number
pub use Rattle.key_sets.specs.Keys.{has, with_key, without_key, least_above}
-- the number of an operation's object among those of its kind; the number that it carries, or 0 if it carries none
pub use Rattle.seq_objects.specs.Parts.{number_of, argument_of}

-- a counter; a stack, whose last item is the top; a strictly ascending set; an ascending bag, which may have repeats
pub record Objects : Type 0 where
  pub counter : ℕ
  pub stack : List ℕ
  pub set : List ℕ
  pub bag : List ℕ

-- the objects before any operation
abbrev pub opening : Objects
opening = record { counter = 0; stack = []; set = []; bag = [] }

-- the top of a stack, if there is one
abbrev pub top : List ℕ → Option ℕ
top stack = slice_get stack (length stack - 1)

-- a stack without its top
abbrev pub without_top : List ℕ → List ℕ
without_top stack = take (length stack - 1) stack

-- a bag with the item inserted before the first item that is not smaller
abbrev pub with_item : ℕ → List ℕ → List ℕ
with_item item [] = item ∷ []
with_item item (x ∷ bag) = if nat_le item x then item ∷ x ∷ bag else x ∷ with_item item bag

-- the least item of an ascending bag, which is its first, if there is one
abbrev pub least : List ℕ → Option ℕ
least bag = slice_get bag 0

-- an ascending bag without one copy of its least item
abbrev pub without_least : List ℕ → List ℕ
without_least bag = drop 1 bag

-- `Yes` for true, `No` for false
abbrev pub yes_or_no : Bool → Reply
yes_or_no true = reply.Yes
yes_or_no false = reply.No

-- `Number` of the number, or `Empty` if there is none
abbrev pub number_or_empty : Option ℕ → Reply
number_or_empty (Some number) = reply.Number number
number_or_empty None = reply.Empty

-- for each operation, the objects after it and its reply
abbrev pub serve : Objects → Op → Objects × Reply
serve objects (CounterAdd number addend) = (record objects { counter = objects.counter + addend }, reply.Number (objects.counter + addend))
serve objects (Push number item) = (record objects { stack = objects.stack ++ item ∷ [] }, reply.Unit)
serve objects (Pop number) = (record objects { stack = without_top objects.stack }, number_or_empty (top objects.stack))
serve objects (TreeInsert number key) = (record objects { set = with_key key objects.set }, yes_or_no (not (has key objects.set)))
serve objects (TreeRemove number key) = (record objects { set = without_key key objects.set }, yes_or_no (has key objects.set))
serve objects (TreeFind number key) = (objects, yes_or_no (has key objects.set))
serve objects (TreeNext number key) = (objects, number_or_empty (least_above key objects.set))
serve objects (PqInsert number item) = (record objects { bag = with_item item objects.bag }, reply.Unit)
serve objects (PqTake number) = (record objects { bag = without_least objects.bag }, number_or_empty (least objects.bag))

-- the objects after an operation
abbrev pub after : Objects → Op → Objects
after objects op = (serve objects op).0

-- the reply to an operation
abbrev pub reply_to : Objects → Op → Reply
reply_to objects op = (serve objects op).1

-- a counter add needs a sum that fits in 64 bits; every other operation can always be served
abbrev pub CanServe : Objects → Op → Type 0
CanServe objects (CounterAdd number addend) = objects.counter + addend < 2 ^ 64
CanServe objects _ = ⊤

-- the value of a leaf with this reply: the number, 1 for `Yes`, and 0 for every other reply
abbrev pub value_of : Reply → ℕ
value_of (reply.Number number) = number
value_of reply.Unit = 0
value_of reply.Empty = 0
value_of reply.Yes = 1
value_of reply.No = 0
