-- The text of markup is well-formed.
use Rattle.std.proofs.Common.{ℕ, zero, suc, ◌≡◌, ◌≢◌, ◌+◌, ◌/◌, ◌%◌, ◌<◌, Bool, true, false, List, [], ◌∷◌, ◌++◌, map, refl, sym, ap, subst, append_assoc, arith}
use Rattle.std.specs.Prelude.{codes, IsTrue, ◌==◌, if◌then◌else◌, nat_lt}
use Rattle.std.specs.Fmt.{decimal, digits, digits_onto, digit_glyph}
use Rattle.batch_history.specs.declared.report.Report.{Report}
use Rattle.report_picture.specs.Markup.{Part, Say, Number, Tag, Svg, Group, Title, Label, Rect, Path, Key, Namespace, Version, Width, Height, ViewBox, X, Y, Transform, Fill, Stroke, Data, Family, Size, Anchor, Attribute, Markup, Nothing, Words, Element, tag_name, key_name, escaped_byte, escaped, parts_onto, attributes_onto, markup_onto, text_of}
use Rattle.report_picture.specs.Elements.{Given, Elements, NoElements, An}
use Rattle.report_picture.specs.WellFormed.{IsPlain, amp, lt, gt, quot, apos, AreWords, no_words, plain, named, is_name, is_new, AreAttributes, no_attributes, another, AreContents, no_contents, some_words, element}
use Rattle.report_picture.specs.Names.{names_of, are_apart, NamesDiffer}
use Rattle.report_picture.specs.Picture.{drawing, picture}
use Rattle.report_picture.proofs.DrawnNames.{names_differ}
use Rattle.report_picture.proofs.Written.{parts_behind, attributes_behind, markup_behind}
use Rattle.std.proofs.lemmas.Bool.{and_parts}

-- the attributes of markup, as they are written, and its elements

abbrev pub given_in : List Attribute → List Given
given_in list = map (λ attribute. record { name = key_name attribute.key; value = parts_onto attribute.value [] }) list

abbrev pub elements_in : Markup → Elements
elements_in Nothing = NoElements
elements_in (Words parts behind) = elements_in behind
elements_in (Element tag list inside behind) = An (tag_name tag) (given_in list) (elements_in inside) (elements_in behind)

both_words : (first second : List ℕ) → AreWords first → AreWords second → AreWords (first ++ second)
both_words first second no_words are = are
both_words first second (plain byte rest is more) are = plain byte (rest ++ second) is (both_words rest second more are)
both_words first second (named name rest is more) are =
    subst AreWords (sym (append_assoc name rest second)) (named name (rest ++ second) is (both_words rest second more are))

small_plain : (d : ℕ) → d < 10 → IsPlain (48 + d)
small_plain d h = record { ampersand = λ e. omega (arith, e); less = λ e. omega (arith, e, h); greater = λ e. omega (arith, e, h); quote = λ e. omega (arith, e); apostrophe = λ e. omega (arith, e) }

large_plain : (d : ℕ) → IsPlain (87 + d)
large_plain d = record { ampersand = λ e. omega (arith, e); less = λ e. omega (arith, e); greater = λ e. omega (arith, e); quote = λ e. omega (arith, e); apostrophe = λ e. omega (arith, e) }

glyph_plain : (d : ℕ) (small : Bool) → d < 10 → IsPlain (if small then 48 + d else 87 + d)
glyph_plain d true h = small_plain d h
glyph_plain d false h = large_plain d

digits_words : (k n : ℕ) (more : List ℕ) → AreWords more → AreWords (digits_onto k 10 false n more)
digits_words zero n more are = are
digits_words (suc k) n more are =
    let one = plain (digit_glyph false (n % 10)) more (glyph_plain (n % 10) (nat_lt (n % 10) 10) (omega arith)) are in
    last (n / 10 == 0) (digit_glyph false (n % 10) ∷ more) (digits_onto k 10 false (n / 10) (digit_glyph false (n % 10) ∷ more)) one
    (digits_words k (n / 10) (digit_glyph false (n % 10) ∷ more) one)
  where
    last : (b : Bool) (xs ys : List ℕ) → AreWords xs → AreWords ys → AreWords (if b then xs else ys)
    last true xs ys are are' = are
    last false xs ys are are' = are'

decimal_words : (n : ℕ) → AreWords (decimal n)
unfolding digits
decimal_words n = digits_words 64 n [] no_words

differs : (byte other : ℕ) → (other == other) ≡ true → (byte == other) ≡ false → byte ≢ other
differs byte other self unlike e = let h : (other == other) ≡ false = subst (λ b. (b == other) ≡ false) e unlike in cc

byte_words : (byte : ℕ) (a b c d e : Bool) → (byte == 38) ≡ a → (byte == 60) ≡ b → (byte == 62) ≡ c → (byte == 34) ≡ d → (byte == 39) ≡ e
    → AreWords (if a then codes "&amp;" else if b then codes "&lt;" else if c then codes "&gt;" else if d then codes "&quot;" else if e then codes "&apos;" else byte ∷ [])
byte_words byte true b c d e p q r s t = named (codes "&amp;") [] amp no_words
byte_words byte false true c d e p q r s t = named (codes "&lt;") [] lt no_words
byte_words byte false false true d e p q r s t = named (codes "&gt;") [] gt no_words
byte_words byte false false false true e p q r s t = named (codes "&quot;") [] quot no_words
byte_words byte false false false false true p q r s t = named (codes "&apos;") [] apos no_words
byte_words byte false false false false false p q r s t =
    plain byte [] (record { ampersand = differs byte 38 refl p; less = differs byte 60 refl q; greater = differs byte 62 refl r; quote = differs byte 34 refl s; apostrophe = differs byte 39 refl t }) no_words

escaped_words : (bytes : List ℕ) → AreWords (escaped bytes)
escaped_words [] = no_words
escaped_words (byte ∷ bytes) =
    both_words (escaped_byte byte) (escaped bytes) (byte_words byte (byte == 38) (byte == 60) (byte == 62) (byte == 34) (byte == 39) refl refl refl refl refl) (escaped_words bytes)

parts_words : (parts : List Part) → AreWords (parts_onto parts [])
parts_words [] = no_words
parts_words (Say bytes ∷ parts) = both_words (escaped bytes) (parts_onto parts []) (escaped_words bytes) (parts_words parts)
parts_words (Number n ∷ parts) = both_words (decimal n) (parts_onto parts []) (decimal_words n) (parts_words parts)

tag_is_name : (tag : Tag) → IsTrue (is_name (tag_name tag))
tag_is_name Svg = refl
tag_is_name Group = refl
tag_is_name Title = refl
tag_is_name Label = refl
tag_is_name Rect = refl
tag_is_name Path = refl

key_is_name : (key : Key) → IsTrue (is_name (key_name key))
key_is_name Namespace = refl
key_is_name Version = refl
key_is_name Width = refl
key_is_name Height = refl
key_is_name ViewBox = refl
key_is_name X = refl
key_is_name Y = refl
key_is_name Transform = refl
key_is_name Fill = refl
key_is_name Stroke = refl
key_is_name Data = refl
key_is_name Family = refl
key_is_name Size = refl
key_is_name Anchor = refl

names_given : (list : List Attribute) → map (λ (given : Given). given.name) (given_in list) ≡ names_of list
names_given [] = refl
names_given (attribute ∷ list) = ap (λ names. key_name attribute.key ∷ names) (names_given list)

are_attributes : (list : List Attribute) → IsTrue (are_apart (names_of list)) → AreAttributes (attributes_onto list []) (given_in list)
are_attributes [] apart = no_attributes
are_attributes (attribute ∷ list) apart =
    let differ = and_parts (is_new (key_name attribute.key) (names_of list)) (are_apart (names_of list)) apart in
    let more = codes "\"" ++ attributes_onto list [] in
    let e : parts_onto attribute.value more ≡ parts_onto attribute.value [] ++ more = parts_behind attribute.value [] more in
    let new : IsTrue (is_new (key_name attribute.key) (map (λ (given : Given). given.name) (given_in list))) =
    subst (λ (names : List (List ℕ)). IsTrue (is_new (key_name attribute.key) names)) (sym (names_given list)) differ.0 in
    subst (λ t. AreAttributes (codes " " ++ (key_name attribute.key ++ (codes "=\"" ++ t))) (given_in (attribute ∷ list))) (sym e)
    (another (key_name attribute.key) (parts_onto attribute.value []) (attributes_onto list []) (given_in list) (key_is_name attribute.key) new
    (parts_words attribute.value) (are_attributes list differ.1))

pub are_contents : (markup : Markup) → NamesDiffer markup → AreContents (markup_onto markup []) (elements_in markup)
are_contents Nothing differ = no_contents
are_contents (Words parts behind) differ =
    subst (λ t. AreContents t (elements_in behind)) (sym (parts_behind parts [] (markup_onto behind [])))
    (some_words (parts_onto parts []) (markup_onto behind []) (elements_in behind) (parts_words parts) (are_contents behind differ))
are_contents (Element tag list inside behind) differ =
    let name = tag_name tag in
    let rest = codes "\n" ++ markup_onto behind [] in
    let newline : AreWords (codes "\n") = plain 10 [] (record { ampersand = λ e. omega (arith, e); less = λ e. omega (arith, e); greater = λ e. omega (arith, e); quote = λ e. omega (arith, e); apostrophe = λ e. omega (arith, e) }) no_words in
    let close = codes "</" ++ (name ++ (codes ">" ++ rest)) in
    let filled = codes ">" ++ markup_onto inside close in
    let e : markup_onto inside close ≡ markup_onto inside [] ++ close = markup_behind inside [] close in
    let f : attributes_onto list filled ≡ attributes_onto list [] ++ filled = attributes_behind list [] filled in
    let all = elements_in (Element tag list inside behind) in
    subst (λ t. AreContents (codes "<" ++ (name ++ t)) all) (sym f)
    (subst (λ t. AreContents (codes "<" ++ (name ++ (attributes_onto list [] ++ (codes ">" ++ t)))) all) (sym e)
    (element name (attributes_onto list []) (markup_onto inside []) rest (given_in list) (elements_in inside) (elements_in behind) (tag_is_name tag) (are_attributes list differ.0)
    (are_contents inside differ.1) (some_words (codes "\n") (markup_onto behind []) (elements_in behind) newline (are_contents behind differ.2))))

pub texts_are_contents : (markup : Markup) → NamesDiffer markup → AreContents (text_of markup) (elements_in markup)
unfolding text_of
texts_are_contents markup differ = are_contents markup differ

pub pictures_are_contents : (names : List (List ℕ)) (report : Report) → AreContents (picture names report) (elements_in (drawing names report))
unfolding picture
pictures_are_contents names report = texts_are_contents (drawing names report) (names_differ names report)
