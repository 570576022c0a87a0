-- The meaning of items: the shapes of their copies, and the acts, the sources and the objects of the leaves from left
-- to right.
use Rattle.std.specs.Prelude.{ℕ, zero, suc, ◌+◌, ◌*◌, Bool, true, not, if◌then◌else◌, List, [], ◌∷◌, ◌++◌, Option, Some, None, option_and_then, option_to_list}
use Rattle.job_names.specs.declared.name.Name.{Name}
use Rattle.job_names.specs.Names.{same_name}
use Rattle.seq_objects.specs.declared.act.Act.{Act}
use Rattle.seq_objects.specs.declared.act.Act.TheVariants.{Work, Call}
use Rattle.seq_objects.specs.declared.kind.Kind.{Kind}
use Rattle.seq_objects.specs.Parts.{op_of}
use Rattle.seq_objects.specs.Verbs.{kind_of_verb}
use Rattle.sp_order.specs.Precedence.{Tree, leaf, seq, par}
use Rattle.sp_order.specs.Jobs.{JobValue}
use Rattle.sp_order.specs.Objects.{with_numbers}
use Rattle.job_syntax.specs.declared.lexer.word.Word.{Word}
use Rattle.job_syntax.specs.declared.lexer.word.Word.TheVariants.{Number, Copies}
use Rattle.job_syntax.specs.Grammar.{Items, nothing, leaf_then, block_then, seq_block, par_block, for_loop, pfor_loop, BlockKind, Leaf, work, call, bound, is_loop, is_par}
use Rattle.job_syntax.specs.Blocks.{word_number, copies_of}
use Rattle.job_syntax.specs.Arguments.{name_used}
use Rattle.job_lang.specs.Counts.{count}
use Rattle.job_lang.specs.Joins.{join_of}
use Rattle.job_lang.specs.Objects.{NamedObject, numbers_of, names_of}

-- the value of an argument in copy `copy`; a name stands as 0, and the leaf's source gives its value
abbrev pub number_in : ℕ → Word → ℕ
number_in copy (Number (Some number)) = number
number_in copy (Copies (Some by)) = by.0 * copy + by.1
number_in copy _ = 0

-- the value of the argument of a call in copy `copy`, or 0 where it takes none
abbrev pub argument_in : ℕ → Option Word → ℕ
argument_in copy None = 0
argument_in copy (Some argument) = number_in copy argument

-- what a leaf does in copy `copy`, where each object has the number 0
abbrev pub act_of : ℕ → Leaf → Act
act_of copy (work argument) = Work (number_in copy argument)
act_of copy (call verb object argument) = Call (op_of verb 0 (argument_in copy argument))
act_of copy (bound name given) = act_of copy given

-- the lists of all copies, one after another, copy 0 first
abbrev pub each_copy : {X : Type 0} → ℕ → (ℕ → List X) → List X
each_copy zero in_copy = []
each_copy (suc copies) in_copy = each_copy copies in_copy ++ in_copy copies

-- what a block gives: what its body gives in copy `copy`, or, where the block is a loop, in each of its copies
abbrev pub in_block : {X : Type 0} → BlockKind → ℕ → (ℕ → List X) → List X
in_block seq_block copy inside = inside copy
in_block par_block copy inside = inside copy
in_block (for_loop copies) copy inside = each_copy (word_number copies) inside
in_block (pfor_loop copies) copy inside = each_copy (word_number copies) inside

-- The same where the body is told the number of its first leaf: `first`, or, in a loop whose copies have `size` leaves,
-- the number of the first leaf of each copy.
abbrev pub in_block_from : {X : Type 0} → BlockKind → (first size : ℕ) → (ℕ → List X) → List X
in_block_from kind first size inside = if is_loop kind then each_copy (copies_of kind) (λ k. inside (first + k * size)) else inside first

-- the acts of the leaves, from left to right, in copy `copy` of the innermost loop around the items
abbrev pub acts_in : ℕ → Items → List Act
acts_in copy nothing = []
acts_in copy (leaf_then l more) = act_of copy l ∷ acts_in copy more
acts_in copy (block_then kind body more) = in_block kind copy (λ k. acts_in k body) ++ acts_in copy more

-- what a rule gives for the leaves, from left to right, copy by copy
abbrev pub each_leaf : {X : Type 0} → (Leaf → X) → Items → List X
each_leaf rule nothing = []
each_leaf rule (leaf_then l more) = rule l ∷ each_leaf rule more
each_leaf rule (block_then kind body more) = in_block kind 0 (λ k. each_leaf rule body) ++ each_leaf rule more

-- the object of a kind with this name, if there is one
abbrev pub object_named : Kind → Option Name → Option NamedObject
object_named kind None = None
object_named kind (Some name) = Some (record { kind = kind; name = name })

-- the object that a leaf names, if it names one
abbrev pub object_of : Leaf → Option NamedObject
object_of (work argument) = None
object_of (call verb object argument) = object_named (kind_of_verb verb) object
object_of (bound name given) = object_of given

-- for each leaf, from left to right, the object that it names, if it names one
abbrev pub objects_in : Items → List (Option NamedObject)
objects_in items = each_leaf object_of items

-- the joined shape, as a list, which is empty where there are no shapes
abbrev pub join_list : (Tree → Tree → Tree) → List Tree → List Tree
join_list kind shapes = option_to_list (join_of kind shapes)

-- how a block of this kind joins its shapes
abbrev pub join_in : BlockKind → Tree → Tree → Tree
join_in seq_block = seq
join_in par_block = par
join_in (for_loop copies) = seq
join_in (pfor_loop copies) = par

-- the shapes of one copy of a block: a loop has those of its body joined in series
abbrev pub copy_shapes : BlockKind → List Tree → List Tree
copy_shapes kind shapes = if is_loop kind then join_list seq shapes else shapes

-- The shapes of the items; an item without leaves has none. A block joins the shapes of its items, in series or in
-- parallel. A loop joins its copies in this way, each of which is its items in series.
abbrev pub shapes_in : ℕ → Items → List Tree
shapes_in copy nothing = []
shapes_in copy (leaf_then _ more) = leaf ∷ shapes_in copy more
shapes_in copy (block_then kind body more) =
    join_list (join_in kind) (in_block kind copy (λ k. copy_shapes kind (shapes_in k body))) ++ shapes_in copy more

-- a name, and the number of the leaf whose reply it stands for
pub record Known : Type 0 where
  pub name : Name
  pub leaf : ℕ

-- the leaf that a name stands for, by the first that is known of the name
abbrev pub leaf_known : List Known → Name → Option ℕ
leaf_known [] name = None
leaf_known (known ∷ others) name = if same_name known.name name then Some known.leaf else leaf_known others name

-- the source of a leaf: the leaf that the name which it uses stands for
abbrev pub source_of : List Known → Leaf → Option ℕ
source_of known l = option_and_then (leaf_known known) (name_used l)

-- what a leaf with this number makes known
abbrev pub known_by : ℕ → Leaf → List Known
known_by number (bound name given) = record { name = name; leaf = number } ∷ []
known_by number _ = []

-- what is known behind items, whose leaves have the numbers from `first` on; the latest comes first
abbrev pub known_behind : ℕ → Items → List Known
known_behind first nothing = []
known_behind first (leaf_then l more) = known_behind (first + 1) more ++ known_by first l
known_behind first (block_then kind body more) =
    known_behind (first + copies_of kind * count body) more ++ (if is_loop kind then [] else known_behind first body)

-- what the next item of a block knows, where the item before it makes `new` known: in series, but not in parallel
abbrev pub known_next : Bool → List Known → List Known → List Known
known_next series new known = if series then new ++ known else known

-- The sources of the leaves, from left to right, whose numbers begin with `first`, where `known` is known at the front.
-- The flag says whether the items run in series, so that each knows those before it. Each copy of a loop knows what the
-- loop knows, and its own items.
abbrev pub sources_in : Bool → List Known → ℕ → Items → List (Option ℕ)
sources_in series known first nothing = []
sources_in series known first (leaf_then l more) =
    source_of known l ∷ sources_in series (known_next series (known_by first l) known) (first + 1) more
sources_in series known first (block_then kind body more) =
    in_block_from kind first (count body) (λ at. sources_in (not (is_par kind)) known at body)
    ++ sources_in series (known_next series (if is_loop kind then [] else known_behind first body) known) (first + copies_of kind * count body) more

-- The job of items outside every loop, which run in series. The objects that leaves name have the numbers 1, 2, and so
-- on, in the order of the first leaf that names each. A leaf that names none calls the object with the number 0.
abbrev pub job_of : Items → JobValue
job_of items = record {
  shape = join_of seq (shapes_in 0 items);
  acts = with_numbers (acts_in 0 items) (numbers_of (objects_in items));
  sources = sources_in true [] 0 items;
  names = names_of (objects_in items);
}
