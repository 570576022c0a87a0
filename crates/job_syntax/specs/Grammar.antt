-- The loose grammar, as derivations over whole lists of words. In it a number is any run of digits, and blocks nest
-- without a limit.
--
--   job      = items
--   items    = nothing | item items
--   item     = "work" argument | call | "let" name "=" call | block
--   call     = object verb value | object verb
--   block    = "seq" "{" items "}" | "par" "{" items "}"
--            | "for" number "{" items "}" | "pfor" number "{" items "}"
--   argument = number, or inside a loop a number that depends on the copy
--   value    = argument | name
--
-- `object` stands for the word of a kind, as "counter", or for that word, a colon and the name of one object of the kind
-- in the same token. `verb` stands for the word of a verb of that kind, as "add"; a value follows where the verb takes
-- one. Which kinds and verbs there are is said by the table of verbs.
use Rattle.std.specs.Prelude.{◌≡◌, ℕ, List, [], ◌∷◌, ◌++◌, map, Bool, true, false, ◌||◌, Option, Some, None, IsTrue}
use Rattle.std.specs.Option.{option_to_list}
use Rattle.seq_objects.specs.declared.verb.Verb.{Verb}
use Rattle.seq_objects.specs.Verbs.{kind_of_verb, word_of_verb, takes_argument}
use Rattle.job_names.specs.declared.name.Name.{Name}
use Rattle.job_syntax.specs.declared.lexer.word.Word.{Word}
use Rattle.job_syntax.specs.declared.lexer.word.Word.TheVariants.{Open, Close, Work, Seq, Par, For, Pfor, Let, Equals, Number, Copies, Named}
use Rattle.job_syntax.specs.declared.lexer.word.Word.TheVariants as word
use Rattle.job_syntax.specs.Words.{word_of}

-- a piece of work; a call by its verb, with the name of its object, if the object has one, and with its argument, if it
-- has one; or a call with a name for its reply
pub data Leaf : Type 0 where
  work : (argument : Word) → Leaf
  call : Verb → (object : Option Name) → (argument : Option Word) → Leaf
  bound : Name → (call : Leaf) → Leaf

-- the head of a block: its word, and for a loop the number of copies
pub data BlockKind : Type 0 where
  seq_block : BlockKind
  par_block : BlockKind
  for_loop : (copies : Word) → BlockKind
  pfor_loop : (copies : Word) → BlockKind

-- A derivation of items: none, a leaf and more items, or a block with its body and more items.
pub data Items : Type 0 where
  nothing : Items
  leaf_then : Leaf → (more : Items) → Items
  block_then : BlockKind → (body : Items) → (more : Items) → Items

-- the words that each rule writes
abbrev pub leaf_words : Leaf → List Word
leaf_words (work argument) = Work ∷ argument ∷ []
leaf_words (call verb object argument) =
    word.Object (kind_of_verb verb) object ∷ word.Verb (word_of_verb verb) ∷ option_to_list argument
leaf_words (bound name leaf) = Let ∷ Named name ∷ Equals ∷ leaf_words leaf

abbrev pub kind_words : BlockKind → List Word
kind_words seq_block = Seq ∷ []
kind_words par_block = Par ∷ []
kind_words (for_loop copies) = For ∷ copies ∷ []
kind_words (pfor_loop copies) = Pfor ∷ copies ∷ []

abbrev pub items_words : Items → List Word
items_words nothing = []
items_words (leaf_then leaf more) = leaf_words leaf ++ items_words more
items_words (block_then kind body more) = kind_words kind ++ Open ∷ (items_words body ++ Close ∷ items_words more)

abbrev pub is_number : Word → Bool
is_number (Number number) = true
is_number _ = false

-- whether a word is an argument; `looped` says whether a loop is open
abbrev pub is_argument : Bool → Word → Bool
is_argument looped (Number number) = true
is_argument looped (Copies copies) = looped
is_argument looped _ = false

-- the same for a call, whose argument may be a name too
abbrev pub is_call_argument : Bool → Word → Bool
is_call_argument looped (Named name) = true
is_call_argument looped word = is_argument looped word

abbrev pub is_loop : BlockKind → Bool
is_loop seq_block = false
is_loop par_block = false
is_loop (for_loop copies) = true
is_loop (pfor_loop copies) = true

abbrev pub is_par : BlockKind → Bool
is_par seq_block = false
is_par par_block = true
is_par (for_loop copies) = false
is_par (pfor_loop copies) = false

-- a call has an argument exactly where its verb takes one, which the second flag says
abbrev pub FitsVerb : Bool → Bool → Option Word → Type 0
FitsVerb looped true (Some argument) = IsTrue (is_call_argument looped argument)
FitsVerb looped false None = Unit {0}
FitsVerb looped _ _ = ⊥

-- a call of an object
abbrev pub IsCall : Bool → Leaf → Type 0
IsCall looped (work argument) = ⊥
IsCall looped (call verb object argument) = FitsVerb looped (takes_argument verb) argument
IsCall looped (bound name leaf) = ⊥

abbrev pub IsLeaf : Bool → Leaf → Type 0
IsLeaf looped (work argument) = IsTrue (is_argument looped argument)
IsLeaf looped (call verb object argument) = FitsVerb looped (takes_argument verb) argument
IsLeaf looped (bound name leaf) = IsCall looped leaf

abbrev pub IsBlockKind : BlockKind → Type 0
IsBlockKind seq_block = Unit {0}
IsBlockKind par_block = Unit {0}
IsBlockKind (for_loop copies) = IsTrue (is_number copies)
IsBlockKind (pfor_loop copies) = IsTrue (is_number copies)

-- each word in the place of a number or an argument is one; `looped` says whether a loop is open
abbrev pub AreItems : Bool → Items → Type 0
AreItems looped nothing = Unit {0}
AreItems looped (leaf_then leaf more) = IsLeaf looped leaf × AreItems looped more
AreItems looped (block_then kind body more) = IsBlockKind kind × AreItems (looped || is_loop kind) body × AreItems looped more

-- the loose grammar derives the words, and these items are the derivation
pub record Derives (words : List Word) (items : Items) : Type 0 where
  pub writes : items_words items ≡ words
  pub fits : AreItems false items

-- some further tokens extend the words to a list that the loose grammar derives
pub record CanGoOn (words : List Word) : Type 0 where
  pub further : List (List ℕ)
  pub items : Items
  pub derives : Derives (words ++ map word_of further) items

-- two lists of items, one after the other
infixl 6 ◌then◌
abbrev pub ◌then◌ : Items → Items → Items
nothing then last = last
(leaf_then leaf more) then last = leaf_then leaf (more then last)
(block_then kind body more) then last = block_then kind body (more then last)
