-- The calls of the tree: their keys, and which batches can be served.
use Rattle.std.specs.Prelude.{ℕ, Bool, true, false, List, map}
use Rattle.key_sets.specs.Groups.{distinct}
use Rattle.seq_objects.specs.declared.op.Op.{Op}
use Rattle.seq_objects.specs.declared.op.Op.TheVariants.{TreeInsert, TreeRemove, TreeFind, TreeNext}
use Rattle.seq_objects.specs.declared.call.Call.{Call}
use Rattle.seq_objects.specs.Objects.{argument_of}
use Rattle.seq_objects.specs.declared.kind.Kind.TheVariants.{Tree}
use Rattle.seq_objects.specs.Batches.{AreOf}

-- whether the operation is one of the tree
abbrev pub is_of_tree : Op → Bool
is_of_tree (TreeInsert number key) = true
is_of_tree (TreeRemove number key) = true
is_of_tree (TreeFind number key) = true
is_of_tree (TreeNext number key) = true
is_of_tree _ = false

-- the argument of a call's operation, which is the key for a call of the tree
abbrev pub key_of : Call → ℕ
key_of call = argument_of call.op

-- the keys of the calls, in call order
abbrev pub keys_of : List Call → List ℕ
keys_of calls = map (λ call. key_of call) calls

-- the distinct keys of the calls, ascending
abbrev pub distinct_keys : List Call → List ℕ
distinct_keys calls = distinct (keys_of calls)

-- any batch of calls of the tree can be served
abbrev pub MayServe : List ℕ → List Call → Type 0
MayServe set calls = AreOf Tree calls
