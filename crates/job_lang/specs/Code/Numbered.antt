-- How the code keeps the objects that leaves name, and their numbers.
use Rattle.std.specs.Prelude.{◌≡◌, ℕ, ◌-◌, ◌≤◌, List, [], ◌∷◌, ◌++◌, length, map, replicate, true, Option, Some, None}
use Rattle.std.specs.List.{AllByRecursion}
use Rattle.job_names.specs.declared.name.Name.{Name}
use Rattle.job_names.specs.Names.{is_spelled, name_of, spelling}
use Rattle.job_lang.specs.declared.expand.objects.Object.{Object}
use Rattle.job_lang.specs.declared.expand.objects.Objects.{Objects}
use Rattle.job_lang.specs.Objects.{NamedObject, with_object, named_by, number_among}

abbrev pub object_in : Object → NamedObject
object_in object = record { kind = object.kind; name = object.name }

-- the distinct objects
abbrev pub named_in : Objects → List NamedObject
named_in objects = map object_in objects.named.keys

-- their names
abbrev pub names_in : Objects → List (List ℕ)
names_in objects = map (λ object. spelling object.name) (named_in objects)

-- the numbers of this many leaves, with the zeros that are left out
abbrev pub numbers_in : Objects → ℕ → List ℕ
numbers_in objects count = objects.numbers.items ++ replicate (count - length objects.numbers.items) 0

-- the numbers that leaves get one after another, where `objects` are named before them
abbrev pub numbers_behind : List NamedObject → List (Option NamedObject) → List ℕ
numbers_behind objects [] = []
numbers_behind objects (None ∷ leaves) = 0 ∷ numbers_behind objects leaves
numbers_behind objects (Some object ∷ leaves) =
    number_among objects (Some object) ∷ numbers_behind (with_object objects object) leaves

-- The leaves so far name these objects.
pub record AreListed (objects : Objects) (leaves : List (Option NamedObject)) : Type 0 where
  pub named : named_in objects ≡ named_by leaves
  pub few : length objects.numbers.items ≤ length leaves
  pub numbers : numbers_in objects (length leaves) ≡ numbers_behind [] leaves

-- Where the old leaves, which are `count`, name some objects, the new ones name these and those behind them.
abbrev pub NamesBehind : ℕ → Objects → Objects → List (Option NamedObject) → Type 0
NamesBehind count old new behind =
    (leaves : List (Option NamedObject)) → length leaves ≡ count → AreListed old leaves → AreListed new (leaves ++ behind)

-- the name of a text that is spelled as a name
pub record IsSpelledName (name : Name) : Type 0 where
  pub spelled : is_spelled (spelling name) ≡ true
  pub made : name ≡ name_of (spelling name)

-- each object that a leaf names has such a name
abbrev pub IsSpelled : Option NamedObject → Type 0
IsSpelled None = Unit {0}
IsSpelled (Some object) = IsSpelledName object.name

abbrev pub AreSpelled : List (Option NamedObject) → Type 0
AreSpelled leaves = AllByRecursion IsSpelled leaves
