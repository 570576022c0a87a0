-- When a text is well-formed, and which elements it has: a grammar of words and closed elements, apart from the writer of
-- markup.
use Rattle.std.specs.Prelude.{◌≢◌, ℕ, Bool, false, IsTrue, ◌&&◌, ◌||◌, ◌==◌, nat_le, not, List, [], ◌∷◌, ◌++◌, map, codes}
use Rattle.std.specs.List.{list_all, list_any}
use Rattle.std.specs.Str.{bytes_eq}
use Rattle.report_picture.specs.Elements.{Given, Elements, NoElements, An}

-- the byte is none of `&`, `<`, `>` and the two quotes
pub record IsPlain (byte : ℕ) : Type 0 where
  pub ampersand : byte ≢ 38
  pub less : byte ≢ 60
  pub greater : byte ≢ 62
  pub quote : byte ≢ 34
  pub apostrophe : byte ≢ 39

-- a byte that is not plain, by its name
pub data IsEntity : List ℕ → Type 0 where
  amp : IsEntity (codes "&amp;")
  lt : IsEntity (codes "&lt;")
  gt : IsEntity (codes "&gt;")
  quot : IsEntity (codes "&quot;")
  apos : IsEntity (codes "&apos;")

-- words: bytes that are plain, and others by their names
pub data AreWords : List ℕ → Type 0 where
  no_words : AreWords []
  plain : (byte : ℕ) (rest : List ℕ) → IsPlain byte → AreWords rest → AreWords (byte ∷ rest)
  named : (entity rest : List ℕ) → IsEntity entity → AreWords rest → AreWords (entity ++ rest)

-- whether the byte is a letter
abbrev pub is_letter : ℕ → Bool
is_letter byte = (nat_le 65 byte && nat_le byte 90) || (nat_le 97 byte && nat_le byte 122)

-- whether this is a name: a letter, and letters and hyphens behind it
abbrev pub is_name : List ℕ → Bool
is_name [] = false
is_name (first ∷ rest) = is_letter first && list_all (λ byte. is_letter byte || (byte == 45)) rest

-- whether none of the names is this one
abbrev pub is_new : List ℕ → List (List ℕ) → Bool
is_new name names = not (list_any (bytes_eq name) names)

-- the text has these attributes: a name that none behind it has and words between quotes, each behind a blank
pub data AreAttributes : List ℕ → List Given → Type 0 where
  no_attributes : AreAttributes [] []
  another : (name value rest : List ℕ) (others : List Given) → IsTrue (is_name name) → IsTrue (is_new name (map (λ given. given.name) others))
      → AreWords value → AreAttributes rest others
      → AreAttributes (codes " " ++ (name ++ (codes "=\"" ++ (value ++ (codes "\"" ++ rest))))) (record { name = name; value = value } ∷ others)

-- the text has these elements: it is words, and elements that are closed by their own names, with attributes of different
-- names and with contents inside
pub data AreContents : List ℕ → Elements → Type 0 where
  no_contents : AreContents [] NoElements
  some_words : (bytes rest : List ℕ) (elements : Elements) → AreWords bytes → AreContents rest elements → AreContents (bytes ++ rest) elements
  element : (name attributes inside rest : List ℕ) (given : List Given) (within behind : Elements) → IsTrue (is_name name)
      → AreAttributes attributes given → AreContents inside within → AreContents rest behind
      → AreContents (codes "<" ++ (name ++ (attributes ++ (codes ">" ++ (inside ++ (codes "</" ++ (name ++ (codes ">" ++ rest)))))))) (An name given within behind)

-- the text has elements
abbrev pub IsWellFormed : List ℕ → Type 0
IsWellFormed text = (elements : Elements) × AreContents text elements
