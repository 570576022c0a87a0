-- Markup whose elements have attributes of different names.
use Rattle.std.specs.Prelude.{ℕ, Bool, true, IsTrue, ◌&&◌, List, [], ◌∷◌, map}
use Rattle.report_picture.specs.Markup.{Attribute, Markup, Nothing, Words, Element, key_name}
use Rattle.report_picture.specs.WellFormed.{is_new}

abbrev pub names_of : List Attribute → List (List ℕ)
names_of attributes = map (λ attribute. key_name attribute.key) attributes

-- whether no name occurs twice
abbrev pub are_apart : List (List ℕ) → Bool
are_apart [] = true
are_apart (name ∷ names) = is_new name names && are_apart names

-- each element has attributes of different names
abbrev pub NamesDiffer : Markup → Type 0
NamesDiffer Nothing = Unit {0}
NamesDiffer (Words parts behind) = NamesDiffer behind
NamesDiffer (Element tag attributes inside behind) = IsTrue (are_apart (names_of attributes)) × NamesDiffer inside × NamesDiffer behind
