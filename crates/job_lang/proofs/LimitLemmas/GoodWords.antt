-- The words of a text: their numbers fit 32 bits, and their names of objects are spelled as names.
use Rattle.std.proofs.Common.{◌≡◌, ℕ, ◌^◌, List, [], ◌∷◌, ◌++◌, map, drop, Bool, true, false, Option, Some, None, refl}
use Rattle.std.specs.Prelude.{◌&&◌, nat_lt, codes, if◌then◌else◌, IfSome, option_map, unwrap_or}
use Rattle.std.specs.Option.{option_or}
use Rattle.std.specs.List.{AllByRecursion}
use Rattle.std.specs.Str.{bytes_eq}
use Rattle.std.proofs.lemmas.Bool.{ltb-true}
use Rattle.job_names.specs.declared.name.Name.{Name}
use Rattle.job_names.specs.Names.{is_spelled, name_of}
use Rattle.seq_objects.specs.declared.kind.Kind.{Kind}
use Rattle.seq_objects.specs.declared.verb.VerbWord.{VerbWord}
use Rattle.seq_objects.specs.Verbs.{kind_by_text, word_by_text}
use Rattle.job_syntax.specs.declared.lexer.word.Word.{Word}
use Rattle.job_syntax.specs.declared.lexer.word.Word.TheVariants.{Open, Close, Work, Object, Verb, Seq, Par, For, Pfor, Let, Equals, Number, Copies, Named, Other}
use Rattle.job_syntax.specs.Text.{Token}
use Rattle.job_syntax.specs.Words.{begins_well, digits_from, number_of, copies_word, kind_named, kind_word, object_word, argument_word, own_word, table_word, quoted_word, word_of, word_on_line, pair_of, before_first, behind_first}
use Rattle.job_syntax.specs.Faults.{words_of}
use Rattle.job_syntax.specs.Grammar.{Items, block_then, BlockKind, kind_words, items_words}
use Rattle.job_lang.specs.ActNumbers.{IsSmall}
use Rattle.job_lang.specs.Code.Numbered.{IsSpelledName}
use Rattle.job_lang.proofs.Spellings.{spelled_name}

-- the name of an object, if a word has one, is spelled as a name
abbrev pub NamesWell : Option Name → Type 0
NamesWell None = Unit {0}
NamesWell (Some name) = IsSpelledName name

-- the number of a plain number word, if it has one, fits 32 bits; the name of an object is spelled as a name
abbrev pub SaysWell : Word → Type 0
SaysWell (Number number) = IsSmall number
SaysWell (Object kind object) = NamesWell object
SaysWell _ = Unit {0}

small_when : (well : Bool) (number : ℕ) → IsSmall (if well && nat_lt number (2 ^ 32) then Some number else None)
small_when false number = tt
small_when true number = fits_when (nat_lt number (2 ^ 32)) number refl where
  fits_when : (fits : Bool) (number : ℕ) → nat_lt number (2 ^ 32) ≡ fits → IsSmall (if fits then Some number else None)
  fits_when true number is = ltb-true number (2 ^ 32) is
  fits_when false number is = tt

small_number : (digits : List ℕ) → IsSmall (number_of digits)
small_number digits = small_when (begins_well digits) (digits_from 0 digits)

record IsGoodWord (it : Word) : Type 0 where
  says : SaysWell it

-- a choice between two good words is a good word
chosen : (first : Bool) (a b : Word) → SaysWell a → IsGoodWord b → IsGoodWord (if first then a else b)
chosen true a b small small' = record { says = small }
chosen false a b small small' = small'

good_copies : (text : List ℕ) → IsGoodWord (copies_word text)
good_copies text = chosen _ (Copies (pair_of (number_of (before_first 43 text)) (number_of (behind_first 43 text)))) Other tt (record { says = tt })

good_kind_word : (found : Option Kind) (name : Name) → IsSpelledName name → IsGoodWord (kind_named found name)
good_kind_word (Some kind) name spelled = record { says = spelled }
good_kind_word None name spelled = record { says = tt }

named_or_other : (spelled : Bool) (text name : List ℕ) → is_spelled name ≡ spelled → IsGoodWord (if spelled then kind_word text (name_of name) else Other)
named_or_other true text name is = good_kind_word (kind_by_text text) (name_of name) (spelled_name name is)
named_or_other false text name is = record { says = tt }

good_object_word : (text : List ℕ) → IsGoodWord (object_word text)
good_object_word text = named_or_other (is_spelled (behind_first 58 text)) (before_first 58 text) (behind_first 58 text) refl

good_argument_word : (text : List ℕ) → IsGoodWord (argument_word text)
good_argument_word text =
    chosen _ (Number (number_of text)) _ (small_number text) (chosen _ (Copies (Some (1, 0))) _ tt
    (chosen _ (copies_word (drop 2 text)) _ (good_copies (drop 2 text)).says (chosen _ (Named (name_of text)) (object_word text) tt (good_object_word text))))

-- a word of the language has no number, and no name
abbrev IsGoodIfFound : Option Word → Type 0
IsGoodIfFound found = IfSome found SaysWell

choice : (test : Bool) (own : Word) (others : Option Word) → SaysWell own → IsGoodIfFound others → IsGoodIfFound (if test then Some own else others)
choice true own others says more = says
choice false own others says more = more

good_own_word : (text : List ℕ) → IsGoodIfFound (own_word text)
good_own_word text =
    choice (bytes_eq text (codes "{")) Open _ tt
    (choice (bytes_eq text (codes "}")) Close _ tt
    (choice (bytes_eq text (codes "work")) Work _ tt
    (choice (bytes_eq text (codes "seq")) Seq _ tt
    (choice (bytes_eq text (codes "par")) Par _ tt
    (choice (bytes_eq text (codes "for")) For _ tt
    (choice (bytes_eq text (codes "pfor")) Pfor _ tt
    (choice (bytes_eq text (codes "let")) Let _ tt
    (choice (bytes_eq text (codes "=")) Equals None tt tt))))))))

good_table_word : (kind : Option Kind) (verb : Option VerbWord) → IsGoodIfFound (option_or (option_map (λ kind. Object kind None) kind) (option_map (λ verb. Verb verb) verb))
good_table_word (Some kind) verb = tt
good_table_word None (Some verb) = tt
good_table_word None None = tt

good_either : (first second : Option Word) → IsGoodIfFound first → IsGoodIfFound second → IsGoodIfFound (option_or first second)
good_either (Some own) second says more = says
good_either None second says more = more

found_or_else : (found : Option Word) (rest : Word) → IsGoodIfFound found → SaysWell rest → SaysWell (unwrap_or found rest)
found_or_else (Some own) rest says more = says
found_or_else None rest says more = more

good_word : (text : List ℕ) → SaysWell (word_of text)
good_word text =
    found_or_else (quoted_word text) (argument_word text)
    (good_either (own_word text) (table_word text) (good_own_word text) (good_table_word (kind_by_text text) (word_by_text text))) (good_argument_word text).says

pub good_words : (some : List Token) → AllByRecursion SaysWell (words_of (map word_on_line some))
good_words [] = tt
good_words (token ∷ some) = (good_word token.text, good_words some)

-- a property of each element of a list holds of each element of both its parts
pub parts : (front back : List Word) → AllByRecursion SaysWell (front ++ back) → AllByRecursion SaysWell front × AllByRecursion SaysWell back
parts [] back each = (tt, each)
parts (first ∷ front) back each = let both = parts front back each.1 in ((each.0, both.0), both.1)

-- the words inside a block, and after it
pub block_parts : (kind : BlockKind) (body more : Items) → AllByRecursion SaysWell (items_words (block_then kind body more)) → AllByRecursion SaysWell (items_words body) × AllByRecursion SaysWell (items_words more)
block_parts kind body more each =
    let behind = (parts (kind_words kind) (Open ∷ (items_words body ++ Close ∷ items_words more)) each).1.1 in
    let both = parts (items_words body) (Close ∷ items_words more) behind in
    (both.0, both.1.1)
