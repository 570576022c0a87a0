-- Objects that have a name, the marks by which lines name them, and the table that numbers them.
use Rattle.std.specs.Prelude.{◌≡◌, ℕ, ◌<◌, ◌≤◌, ◌⊎◌, Bool, true, false, ◌&&◌, ◌==◌, not, List, [], ◌∷◌, ◌++◌, length, map, Option, Some, IsSome, Contains}
use Rattle.decimals.specs.Runs.{BeginsOutside}
use denote.Enum.Bare.{sameb}
use Rattle.indexmap.specs.IndexMap.{get}
use Rattle.job_names.specs.Names.{AreSpelled, is_spelled, name_of, same_name, spelling}
use Rattle.job_names.specs.declared.name.Name.{Name}
use Rattle.seq_objects.specs.Parts.{kind_of, number_of}
use Rattle.seq_objects.specs.contracts.kind.Kind.{the_type}
use Rattle.seq_objects.specs.declared.kind.Kind.{Kind}
use Rattle.seq_objects.specs.Words.{name_words}
use Rattle.seq_objects.specs.declared.op.Op.{Op}
use Rattle.seq_objects.specs.declared.act.Act.TheVariants.{Call}
use Rattle.sp_order.specs.Jobs.{JobValue, IsJob}
use Rattle.sp_order.specs.Objects.{name_of_number}
use Rattle.report_reader.specs.declared.table.Table.{Table}

-- what may stand behind a kind word: nothing, or a colon and a name
abbrev pub is_mark : List ℕ → Bool
is_mark [] = true
is_mark (byte ∷ name) = byte == 58 && is_spelled name

-- whether a byte is no blank
abbrev pub is_no_blank : ℕ → Bool
is_no_blank byte = not (byte == 32)

-- the text is a mark, and then the rest, which begins with a blank or is empty
pub record IsMarkThen (text : List ℕ) (mark : List ℕ) (rest : List ℕ) : Type 0 where
  pub parts : mark ++ rest ≡ text
  pub marked : is_mark mark ≡ true
  pub ends : BeginsOutside is_no_blank rest

-- the names of a table's numbers
abbrev pub names_in : Table → List (List ℕ)
names_in table = map spelling table.names.items

-- whether two objects are of one kind and have one name
abbrev pub same_object : Kind × Name → Kind × Name → Bool
same_object left right = sameb the_type left.0 right.0 && same_name left.1 right.1

-- the number of the object of this kind with this name, if the table has it
abbrev pub number_in : Table → Kind → Name → Option ℕ
number_in table kind name = get same_object table.numbers (kind, name)

-- the number of the object of this kind with this mark, if the table has it; without a name it is 0
abbrev pub found : Table → Kind → List ℕ → Option ℕ
found table kind [] = Some 0
found table kind (byte ∷ name) = number_in table kind (name_of name)

-- the table has the object of this kind with this mark, or is one that grows
abbrev pub IsKnown : Table → Kind → List ℕ → Type 0
IsKnown table kind mark = (table.grows ≡ true) ⊎ IsSome (found table kind mark)

-- the mark of an operation's object
abbrev pub mark_of : List (List ℕ) → Op → List ℕ
mark_of names op = name_words names (number_of op)

-- the table has the object of an operation under its number
abbrev pub IsFound : Table → Op → Type 0
IsFound table op =
    (number_of op ≤ length (names_in table)) × (found table (kind_of op) (mark_of (names_in table) op) ≡ Some (number_of op))

-- the numbers of a table are those of its names, which are spelled
pub record IsKept (table : Table) : Type 0 where
  pub spelled : AreSpelled (names_in table)
  pub numbers : (kind : Kind) (name : List ℕ) (number : ℕ) → is_spelled name ≡ true → found table kind (58 ∷ name) ≡ Some number
      → (0 < number) × (number ≤ length (names_in table)) × (name_of_number (names_in table) number ≡ name)

-- A table keeps its numbers and names as it grows, and one that does not grow stays as it is.
pub record Extends (old new : Table) : Type 0 where
  pub grows : new.grows ≡ old.grows
  pub more : List (List ℕ)
  pub names : names_in new ≡ names_in old ++ more
  pub numbers : (kind : Kind) (mark : List ℕ) (number : ℕ) → found old kind mark ≡ Some number → found new kind mark ≡ Some number
  pub same : old.grows ≡ false → new ≡ old

-- the object of this kind with this name has this number in the new table, and all others have theirs of the old one
pub record Inserts (old new : Table) (kind : Kind) (name : Name) (number : ℕ) : Type 0 where
  pub names : new.names ≡ old.names
  pub grows : new.grows ≡ old.grows
  pub own : number_in new kind name ≡ Some number
  pub others : (k : Kind) (n : Name) → ((k ≡ kind) × (n ≡ name)) ⊎ (number_in new k n ≡ number_in old k n)

-- The table has the names of a job, it does not grow, and it has exactly the objects above number 0 that acts call.
pub record IsTableOf (job : JobValue) (table : Table) : Type 0 where
  pub job_is : IsJob job
  pub kept : IsKept table
  pub closed : table.grows ≡ false
  pub names : names_in table ≡ job.names
  pub called : (kind : Kind) (name : List ℕ) (number : ℕ) → is_spelled name ≡ true → found table kind (58 ∷ name) ≡ Some number
      → (by : Op) × Contains job.acts (Call by) × (number_of by ≡ number) × (kind_of by ≡ kind)
  pub all : (by : Op) → Contains job.acts (Call by) → 0 < number_of by → found table (kind_of by) (mark_of job.names by) ≡ Some (number_of by)
