-- The objects of a job's calls: for each call the number of its object among those of its kind, and the names of the
-- numbers above 0. The object with the number 0 has no name.
use Rattle.std.specs.Prelude.{◌≡◌, ◌≢◌, ℕ, ◌+◌, ◌-◌, ◌<◌, ◌≤◌, ◌⊎◌, List, [], ◌∷◌, Some, length, map, slice_get, slice_index_or, take}
use Rattle.std.specs.List.{AllByRecursion}
use Rattle.job_names.specs.Names.{AreSpelled}
use Rattle.seq_objects.specs.declared.op.Op.{Op}
use Rattle.seq_objects.specs.declared.act.Act.{Act}
use Rattle.seq_objects.specs.declared.act.Act.TheVariants.{Work, Call}
use Rattle.seq_objects.specs.Batches.{kind_of}
use Rattle.seq_objects.specs.Objects.{number_of}
-- the operation on the object with this number of its kind
pub use Rattle.seq_objects.specs.Parts.{with_number}

-- the number of the object that an act calls, and 0 for work
abbrev pub number_in : Act → ℕ
number_in (Work steps) = 0
number_in (Call op) = number_of op

-- all calls are of objects with the number 0
abbrev pub AreUnnamed : List Act → Type 0
AreUnnamed acts = AllByRecursion (λ act. number_in act ≡ 0) acts

-- the call on the object with this number; work stays
abbrev pub numbered : Act → ℕ → Act
numbered (Work steps) number = Work steps
numbered (Call op) number = Call (with_number op number)

-- the acts, each with the number at its place
abbrev pub with_numbers : List Act → List ℕ → List Act
with_numbers [] numbers = []
with_numbers (act ∷ acts) [] = act ∷ acts
with_numbers (act ∷ acts) (number ∷ numbers) = numbered act number ∷ with_numbers acts numbers

-- Where the numbers 1 to `used` are used before, those above 0 here and before are 1 to `count`, first used in that
-- order.
abbrev pub AreByFirstUse : ℕ → List ℕ → ℕ → Type 0
AreByFirstUse used [] count = used ≡ count
AreByFirstUse used (number ∷ numbers) count =
    ((number ≤ used) × AreByFirstUse used numbers count)
    ⊎ ((number ≡ used + 1) × AreByFirstUse (used + 1) numbers count)

-- The number is a call's, and all calls before the leaf have lower ones.
pub record IsFirstUsed (acts : List Act) (number : ℕ) : Type 0 where
  pub leaf : ℕ
  pub uses : slice_get (map (λ act. number_in act) acts) leaf ≡ Some number
  pub before : AllByRecursion (λ act. number_in act < number) (take leaf acts)

-- the name of a number above 0
abbrev pub name_of_number : List (List ℕ) → ℕ → List ℕ
name_of_number names number = slice_index_or names (number - 1) []

-- calls of one number above 0 are of one kind
abbrev pub AreOfOneKind : List Act → Type 0
AreOfOneKind acts =
    (u v : ℕ) (first second : Op) → slice_get acts u ≡ Some (Call first) → slice_get acts v ≡ Some (Call second)
    → 0 < number_of first → number_of first ≡ number_of second → kind_of first ≡ kind_of second

-- calls of one kind with different numbers above 0 are of objects with different names
abbrev pub AreApart : List Act → List (List ℕ) → Type 0
AreApart acts names =
    (u v : ℕ) (first second : Op) → slice_get acts u ≡ Some (Call first) → slice_get acts v ≡ Some (Call second)
    → 0 < number_of first → 0 < number_of second → kind_of first ≡ kind_of second → number_of first ≢ number_of second
    → name_of_number names (number_of first) ≢ name_of_number names (number_of second)

-- The names are spelled as names. The numbers above 0 of the calls are 1 to the count of the names, first used in that
-- order. Each is of one kind, and two of one kind have different names.
pub record AreNamed (acts : List Act) (names : List (List ℕ)) : Type 0 where
  pub spelled : AreSpelled names
  pub numbers : AreByFirstUse 0 (map (λ act. number_in act) acts) (length names)
  pub kinds : AreOfOneKind acts
  pub apart : AreApart acts names

-- There is a number for each act, which is 0 for work, and with these numbers and names the acts are named.
pub record AreNumbered (acts : List Act) (numbers : List ℕ) (names : List (List ℕ)) : Type 0 where
  pub as_many : length numbers ≡ length acts
  pub work : (leaf steps : ℕ) → slice_get acts leaf ≡ Some (Work steps) → slice_get numbers leaf ≡ Some 0
  pub named : AreNamed (with_numbers acts numbers) names
