-- Markup: elements and words, and the text that it has.
use Rattle.std.specs.Prelude.{ℕ, List, [], ◌∷◌, ◌++◌, ◌==◌, if◌then◌else◌, codes}
use Rattle.std.specs.List.{flat_map}
use Rattle.std.specs.Fmt.{decimal}

-- a piece of words: bytes, which are escaped, or a number, which is written in decimal
pub data Part : Type 0 where
  Say : List ℕ → Part
  Number : ℕ → Part

-- the kinds of elements
pub data Tag : Type 0 where
  Svg Group Title Label Rect Path : Tag

-- the attributes of elements
pub data Key : Type 0 where
  Namespace Version Width Height ViewBox X Y Transform Fill Stroke Data Family Size Anchor : Key

pub record Attribute : Type 0 where
  pub key : Key
  pub value : List Part

-- Markup is empty, or words or an element with the markup behind it. An element has attributes and the markup inside
-- it.
pub data Markup : Type 0 where
  Nothing : Markup
  Words : List Part → Markup → Markup
  Element : Tag → List Attribute → Markup → Markup → Markup

abbrev pub tag_name : Tag → List ℕ
tag_name Svg = codes "svg"
tag_name Group = codes "g"
tag_name Title = codes "title"
tag_name Label = codes "text"
tag_name Rect = codes "rect"
tag_name Path = codes "path"

abbrev pub key_name : Key → List ℕ
key_name Namespace = codes "xmlns"
key_name Version = codes "version"
key_name Width = codes "width"
key_name Height = codes "height"
key_name ViewBox = codes "viewBox"
key_name X = codes "x"
key_name Y = codes "y"
key_name Transform = codes "transform"
key_name Fill = codes "fill"
key_name Stroke = codes "stroke"
key_name Data = codes "d"
key_name Family = codes "font-family"
key_name Size = codes "font-size"
key_name Anchor = codes "text-anchor"

-- a byte as it stands in words: `&`, `<`, `>` and both quotes are written by their names
abbrev pub escaped_byte : ℕ → List ℕ
escaped_byte byte =
    if byte == 38 then codes "&amp;" else if byte == 60 then codes "&lt;" else if byte == 62 then codes "&gt;"
    else if byte == 34 then codes "&quot;" else if byte == 39 then codes "&apos;" else byte ∷ []

abbrev pub escaped : List ℕ → List ℕ
escaped bytes = flat_map escaped_byte bytes

-- Below, `rest` is the text that stands behind.

abbrev pub parts_onto : List Part → List ℕ → List ℕ
parts_onto [] rest = rest
parts_onto (Say bytes ∷ parts) rest = escaped bytes ++ parts_onto parts rest
parts_onto (Number number ∷ parts) rest = decimal number ++ parts_onto parts rest

abbrev pub attributes_onto : List Attribute → List ℕ → List ℕ
attributes_onto [] rest = rest
attributes_onto (attribute ∷ attributes) rest =
    codes " " ++ (key_name attribute.key ++ (codes "=\"" ++ parts_onto attribute.value (codes "\"" ++ attributes_onto attributes rest)))

abbrev pub markup_onto : Markup → List ℕ → List ℕ
markup_onto Nothing rest = rest
markup_onto (Words parts behind) rest = parts_onto parts (markup_onto behind rest)
markup_onto (Element tag attributes inside behind) rest =
    codes "<" ++ (tag_name tag ++ attributes_onto attributes (codes ">" ++ markup_onto inside
    (codes "</" ++ (tag_name tag ++ (codes ">\n" ++ markup_onto behind rest)))))

-- the text of markup
unfoldable pub text_of : Markup → List ℕ
text_of markup = markup_onto markup []

-- the markup of each of several things, one behind another, and then the markup behind them
abbrev pub each : {A : Type 0} → (A → Markup → Markup) → List A → Markup → Markup
each draw [] behind = behind
each draw (x ∷ xs) behind = draw x (each draw xs behind)
