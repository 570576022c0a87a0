-- The words that lead the machine to a state.
use Rattle.std.specs.Prelude.{◌≡◌, List, [], ◌∷◌, ◌++◌, Option, Some, None, IsTrue}
use Rattle.job_names.specs.declared.name.Name.{Name}
use Rattle.job_syntax.specs.declared.lexer.word.Word.{Word}
use Rattle.job_syntax.specs.declared.lexer.word.Word.TheVariants as word
use Rattle.job_syntax.specs.declared.lexer.word.Word.TheVariants.{Open, For, Pfor, Let, Equals, Named}
use Rattle.job_syntax.specs.declared.parser.call.Object.{Object}
use Rattle.job_syntax.specs.declared.parser.call.Operator.{Operator}
use Rattle.job_syntax.specs.declared.parser.call.Operator.TheVariants as operator
use Rattle.seq_objects.specs.Verbs.{takes_argument}
use Rattle.job_syntax.specs.Grammar.{kind_words, items_words, IsBlockKind, AreItems}
use Rattle.job_syntax.specs.Code.Machine.{OpenBlock, State, Place, an_item, a_let_name, an_equals, a_let_object, an_argument, a_call, for_copies, pfor_copies, a_brace, are_looped, operator_words}

-- the words that open the blocks, with the items before them
abbrev pub opening_words : List OpenBlock → List Word
opening_words [] = []
opening_words (block ∷ blocks) = opening_words blocks ++ (items_words block.before ++ (kind_words block.kind ++ Open ∷ []))

abbrev pub object_words : Object → List Word
object_words of = word.Object of.kind of.name ∷ []

-- the words of a `let` before its call
abbrev pub given_words : Option Name → List Word
given_words None = []
given_words (Some name) = Let ∷ Named name ∷ Equals ∷ []

abbrev pub place_words : Place → List Word
place_words an_item = []
place_words a_let_name = Let ∷ []
place_words (an_equals name) = Let ∷ Named name ∷ []
place_words (a_let_object name) = Let ∷ Named name ∷ Equals ∷ []
place_words (an_argument given op) = given_words given ++ operator_words op
place_words (a_call given of) = given_words given ++ object_words of
place_words for_copies = For ∷ []
place_words pfor_copies = Pfor ∷ []
place_words (a_brace kind) = kind_words kind

abbrev pub state_words : State → List Word
state_words state = opening_words state.blocks ++ (items_words state.items ++ place_words state.place)

abbrev pub AreBlocks : List OpenBlock → Type 0
AreBlocks [] = Unit {0}
AreBlocks (block ∷ blocks) = AreItems (are_looped blocks) block.before × IsBlockKind block.kind × AreBlocks blocks

-- a `let` gives a name to a call alone, and the verb of a call with an argument takes one
abbrev pub IsGiven : Option Name → Operator → Type 0
IsGiven given (operator.Call verb object) = IsTrue (takes_argument verb)
IsGiven None operator.Work = Unit {0}
IsGiven (Some name) operator.Work = ⊥

abbrev pub IsPlace : Place → Type 0
IsPlace (a_brace kind) = IsBlockKind kind
IsPlace (an_argument given op) = IsGiven given op
IsPlace _ = Unit {0}

-- The words are those that lead to this state, and its items and its place fit the grammar.
pub record IsReached (words : List Word) (state : State) : Type 0 where
  pub writes : state_words state ≡ words
  pub blocks : AreBlocks state.blocks
  pub items : AreItems (are_looped state.blocks) state.items
  pub place : IsPlace state.place
