-- The elements of a document, as a reader of XML finds them, apart from the writer of markup. Words are left out.
use Rattle.std.specs.Prelude.{ℕ, List, [], ◌∷◌, ◌++◌, Option, None, Some, is_some, if◌then◌else◌}
use Rattle.std.specs.List.{filter}
use Rattle.std.specs.Str.{bytes_eq}

-- an attribute: its name, and what stands between its quotes
pub record Given : Type 0 where
  pub name : List ℕ
  pub value : List ℕ

-- elements one behind another, each with its name, its attributes, and the elements inside it
pub data Elements : Type 0 where
  NoElements : Elements
  An : (name : List ℕ) → (attributes : List Given) → (inside : Elements) → (behind : Elements) → Elements

-- an element, and what is inside it
pub record Found : Type 0 where
  pub name : List ℕ
  pub attributes : List Given
  pub inside : Elements

-- all elements, those inside others too, in the order in which they begin
abbrev pub all_in : Elements → List Found
all_in NoElements = []
all_in (An name attributes inside behind) =
    record { name = name; attributes = attributes; inside = inside } ∷ (all_in inside ++ all_in behind)

-- the value of the attribute with this name, if there is one
abbrev pub value_of : List ℕ → List Given → Option (List ℕ)
value_of name [] = None
value_of name (given ∷ others) = if bytes_eq given.name name then Some given.value else value_of name others

-- all elements with this name
abbrev pub all_called : List ℕ → Elements → List Found
all_called name elements = filter (λ found. bytes_eq found.name name) (all_in elements)

-- all elements that have an attribute with this name
abbrev pub all_with : List ℕ → Elements → List Found
all_with name elements = filter (λ found. is_some (value_of name found.attributes)) (all_in elements)
