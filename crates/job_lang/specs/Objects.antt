-- The objects that leaves name, and their numbers.
use Rattle.std.specs.Prelude.{ℕ, zero, suc, ◌+◌, List, [], ◌∷◌, ◌++◌, map, slice_index_or, Bool, ◌&&◌, if◌then◌else◌, Option, Some, None}
use Rattle.std.specs.List.{list_any, position_or_len}
use Rattle.job_names.specs.declared.name.Name.{Name}
use Rattle.job_names.specs.Names.{same_name, name_of, spelling}
use Rattle.seq_objects.specs.declared.act.Act.{Act}
use Rattle.seq_objects.specs.declared.act.Act.TheVariants.{Work, Call}
use Rattle.seq_objects.specs.declared.kind.Kind.{Kind}
use Rattle.seq_objects.specs.Verbs.{same_kind}
use Rattle.seq_objects.specs.Parts.{kind_of, number_of}

-- an object that a leaf names
pub record NamedObject : Type 0 where
  pub kind : Kind
  pub name : Name

abbrev pub same_object : NamedObject → NamedObject → Bool
same_object left right = same_kind left.kind right.kind && same_name left.name right.name

-- the objects, with one more behind them where it is not among them
abbrev pub with_object : List NamedObject → NamedObject → List NamedObject
with_object objects object = if list_any (same_object object) objects then objects else objects ++ object ∷ []

-- the objects, with those behind them that the leaves name, in the order of the first leaf that names each
abbrev pub named_behind : List NamedObject → List (Option NamedObject) → List NamedObject
named_behind objects [] = objects
named_behind objects (None ∷ leaves) = named_behind objects leaves
named_behind objects (Some object ∷ leaves) = named_behind (with_object objects object) leaves

-- the distinct objects that the leaves name, in the order of the first leaf that names each
abbrev pub named_by : List (Option NamedObject) → List NamedObject
named_by leaves = named_behind [] leaves

-- the number of the object that a leaf names: one more than its place among these; and 0 where it names none
abbrev pub number_among : List NamedObject → Option NamedObject → ℕ
number_among objects None = 0
number_among objects (Some object) = position_or_len (same_object object) objects + 1

-- the numbers of the objects that the leaves name
abbrev pub numbers_of : List (Option NamedObject) → List ℕ
numbers_of leaves = map (number_among (named_by leaves)) leaves

-- the names of the objects that the leaves name, by their numbers
abbrev pub names_of : List (Option NamedObject) → List (List ℕ)
names_of leaves = map (λ object. spelling object.name) (named_by leaves)

-- the object of a kind with this number, by the names of the numbers 1, 2, and so on; the number 0 has none
abbrev pub object_numbered : List (List ℕ) → Kind → ℕ → Option NamedObject
object_numbered names kind zero = None
object_numbered names kind (suc place) = Some (record { kind = kind; name = name_of (slice_index_or names place []) })

-- the object that an act calls, if it has a name
abbrev pub object_called : List (List ℕ) → Act → Option NamedObject
object_called names (Work steps) = None
object_called names (Call op) = object_numbered names (kind_of op) (number_of op)
