-- The parts of an operation: its verb, the number of its object among those of its kind, and the argument that it
-- carries. An operation is put together from them.
use Rattle.std.specs.Prelude.{ℕ, Bool}
use Rattle.seq_objects.specs.declared.op.Op.{Op}
use Rattle.seq_objects.specs.declared.op.Op.TheVariants.{CounterAdd, Push, Pop, TreeInsert, TreeRemove, TreeFind, TreeNext, PqInsert, PqTake}
use Rattle.seq_objects.specs.declared.verb.Verb.{Verb}
use Rattle.seq_objects.specs.declared.verb.Verb.TheVariants as verb
use Rattle.seq_objects.specs.Verbs.{Kind, kind_of_verb, takes_argument}

-- what the operation does
abbrev pub verb_of : Op → Verb
verb_of (CounterAdd number addend) = verb.CounterAdd
verb_of (Push number item) = verb.Push
verb_of (Pop number) = verb.Pop
verb_of (TreeInsert number key) = verb.TreeInsert
verb_of (TreeRemove number key) = verb.TreeRemove
verb_of (TreeFind number key) = verb.TreeFind
verb_of (TreeNext number key) = verb.TreeNext
verb_of (PqInsert number item) = verb.PqInsert
verb_of (PqTake number) = verb.PqTake

-- the number of an operation's object among those of its kind
abbrev pub number_of : Op → ℕ
number_of (CounterAdd number addend) = number
number_of (Push number item) = number
number_of (Pop number) = number
number_of (TreeInsert number key) = number
number_of (TreeRemove number key) = number
number_of (TreeFind number key) = number
number_of (TreeNext number key) = number
number_of (PqInsert number item) = number
number_of (PqTake number) = number

-- the number that an operation carries, or 0 if it carries none
abbrev pub argument_of : Op → ℕ
argument_of (CounterAdd number addend) = addend
argument_of (Push number item) = item
argument_of (Pop number) = 0
argument_of (TreeInsert number key) = key
argument_of (TreeRemove number key) = key
argument_of (TreeFind number key) = key
argument_of (TreeNext number key) = key
argument_of (PqInsert number item) = item
argument_of (PqTake number) = 0

-- the operation with these parts; a verb without argument carries none
abbrev pub op_of : Verb → ℕ → ℕ → Op
op_of verb.CounterAdd number argument = CounterAdd number argument
op_of verb.Push number argument = Push number argument
op_of verb.Pop number argument = Pop number
op_of verb.TreeInsert number argument = TreeInsert number argument
op_of verb.TreeRemove number argument = TreeRemove number argument
op_of verb.TreeFind number argument = TreeFind number argument
op_of verb.TreeNext number argument = TreeNext number argument
op_of verb.PqInsert number argument = PqInsert number argument
op_of verb.PqTake number argument = PqTake number

-- the kind of the object that an operation belongs to
abbrev pub kind_of : Op → Kind
kind_of op = kind_of_verb (verb_of op)

-- whether the operation takes an argument
abbrev pub has_argument : Op → Bool
has_argument op = takes_argument (verb_of op)

-- the operation on the object with this number of its kind
abbrev pub with_number : Op → ℕ → Op
with_number op number = op_of (verb_of op) number (argument_of op)

-- the operation with this number as its argument; an operation without an argument stays
abbrev pub with_argument : Op → ℕ → Op
with_argument op argument = op_of (verb_of op) (number_of op) argument
