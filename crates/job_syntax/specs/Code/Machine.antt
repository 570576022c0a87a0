-- A state machine that reads one word at a time: the parser, as its proofs see it.
pub use Rattle.job_syntax.specs.Code.Shown.{OpenBlock}
use Rattle.limits.specs.declared.TheConstants.{MOST_OPEN_BLOCKS}
use Rattle.std.specs.Prelude.{ℕ, List, [], ◌∷◌, Bool, true, false, ◌||◌, Option, Some, None, if◌then◌else◌, option_and_then, nat_le, length, Result, Ok, Err}
use Rattle.job_syntax.specs.declared.lexer.word.Word.{Word}
use Rattle.job_syntax.specs.declared.lexer.word.Word.TheVariants.{Open, Close, Work, Seq, Par, For, Pfor, Let, Equals, Named}
use Rattle.job_syntax.specs.declared.lexer.word.Word.TheVariants as word
use Rattle.job_syntax.specs.declared.lexer.word.WordOnLine.{WordOnLine}
use Rattle.job_syntax.specs.declared.fault.JobFault.{JobFault}
use Rattle.job_syntax.specs.declared.fault.JobFault.TheVariants as fault
use Rattle.job_syntax.specs.declared.parser.call.Object.{Object}
use Rattle.job_syntax.specs.declared.parser.call.Operator.{Operator}
use Rattle.job_syntax.specs.declared.parser.call.Operator.TheVariants as operator
use Rattle.seq_objects.specs.declared.verb.Verb.{Verb}
use Rattle.seq_objects.specs.declared.kind.Kind.{Kind}
use Rattle.seq_objects.specs.Verbs.{kind_of_verb, word_of_verb, takes_argument, verb_by}
use Rattle.job_syntax.specs.Grammar.{Items, nothing, leaf_then, block_then, ◌then◌, BlockKind, seq_block, par_block, for_loop, pfor_loop, Leaf, work, call, bound, is_loop, is_number, is_argument, is_call_argument}
use Rattle.job_names.specs.declared.name.Name.{Name}
use Rattle.job_syntax.specs.Code.Shown.{scope_at, is_shown}
use Rattle.job_syntax.specs.Faults.{has_good_numbers}

-- the words of an operator, whether it takes a word as its argument, and the leaf with this argument
abbrev pub operator_words : Operator → List Word
operator_words operator.Work = Work ∷ []
operator_words (operator.Call verb object) = word.Object (kind_of_verb verb) object ∷ word.Verb (word_of_verb verb) ∷ []

abbrev pub takes : Operator → Bool → Word → Bool
takes operator.Work looped word = is_argument looped word
takes (operator.Call verb object) looped word = is_call_argument looped word

abbrev pub with_operand : Operator → Word → Leaf
with_operand operator.Work argument = work argument
with_operand (operator.Call verb object) argument = call verb object (Some argument)

-- the object that a word names, if it names one
abbrev pub object_of : Word → Option Object
object_of (word.Object kind name) = Some (record { kind = kind; name = name })
object_of _ = None

-- the verb that a word spells behind an object of this kind, if it spells one
abbrev pub verb_behind : Kind → Word → Option Verb
verb_behind kind (word.Verb spelled) = verb_by kind spelled
verb_behind kind _ = None

-- the leaf of a call, with the name that a `let` gave, if one did
abbrev pub given_leaf : Option Name → Leaf → Leaf
given_leaf None leaf = leaf
given_leaf (Some name) leaf = bound name leaf

-- what must come next; `given` is the name of the `let` before it, if there is one
pub data Place : Type 0 where
  an_item : Place
  a_let_name : Place
  an_equals : (name : Name) → Place
  a_let_object : (name : Name) → Place
  an_argument : (given : Option Name) → Operator → Place
  a_call : (given : Option Name) → Object → Place
  for_copies : Place
  pfor_copies : Place
  a_brace : BlockKind → Place

-- the open blocks, the innermost first; the items read so far inside the innermost; and what must come next
pub record State : Type 0 where
  pub blocks : List OpenBlock
  pub items : Items
  pub place : Place

abbrev pub at : List OpenBlock → Items → Place → State
at blocks items place = record { blocks = blocks; items = items; place = place }

abbrev pub start : State
start = at [] nothing an_item

-- whether an open block is a loop
abbrev pub are_looped : List OpenBlock → Bool
are_looped [] = false
are_looped (block ∷ blocks) = are_looped blocks || is_loop block.kind

-- the state after one more leaf
abbrev pub with_leaf : List OpenBlock → Items → Leaf → State
with_leaf blocks items leaf = at blocks (items then leaf_then leaf nothing) an_item

-- the state after one more block is opened
abbrev pub after_open : List OpenBlock → Items → BlockKind → State
after_open blocks items kind = at (record { before = items; kind = kind } ∷ blocks) nothing an_item

-- the state after the innermost block is closed, if one is open
abbrev pub after_close : List OpenBlock → Items → Option State
after_close [] items = None
after_close (block ∷ blocks) items = Some (at blocks (block.before then block_then block.kind items nothing) an_item)

abbrev pub item_step : List OpenBlock → Items → Word → Option State
item_step blocks items Close = after_close blocks items
item_step blocks items Work = Some (at blocks items (an_argument None operator.Work))
item_step blocks items (word.Object kind name) = Some (at blocks items (a_call None (record { kind = kind; name = name })))
item_step blocks items Let = Some (at blocks items a_let_name)
item_step blocks items Seq = Some (at blocks items (a_brace seq_block))
item_step blocks items Par = Some (at blocks items (a_brace par_block))
item_step blocks items For = Some (at blocks items for_copies)
item_step blocks items Pfor = Some (at blocks items pfor_copies)
item_step blocks items _ = None

abbrev pub let_name_step : List OpenBlock → Items → Word → Option State
let_name_step blocks items (Named name) = Some (at blocks items (an_equals name))
let_name_step blocks items _ = None

abbrev pub equals_step : List OpenBlock → Items → Name → Word → Option State
equals_step blocks items name Equals = Some (at blocks items (a_let_object name))
equals_step blocks items name _ = None

abbrev pub object_step : List OpenBlock → Items → Name → Option Object → Option State
object_step blocks items name None = None
object_step blocks items name (Some of) = Some (at blocks items (a_call (Some name) of))

-- behind the verb of a call comes its argument, where the verb takes one
abbrev pub behind_verb : List OpenBlock → Items → Option Name → Option Name → Verb → State
behind_verb blocks items given object verb =
    if takes_argument verb then at blocks items (an_argument given (operator.Call verb object))
    else with_leaf blocks items (given_leaf given (call verb object None))

abbrev pub call_step : List OpenBlock → Items → Option Name → Option Name → Option Verb → Option State
call_step blocks items given object None = None
call_step blocks items given object (Some verb) = Some (behind_verb blocks items given object verb)

abbrev pub brace_step : List OpenBlock → Items → BlockKind → Word → Option State
brace_step blocks items kind Open = Some (after_open blocks items kind)
brace_step blocks items kind _ = None

abbrev pub step_at : List OpenBlock → Items → Place → Word → Option State
step_at blocks items an_item word = item_step blocks items word
step_at blocks items a_let_name word = let_name_step blocks items word
step_at blocks items (an_equals name) word = equals_step blocks items name word
step_at blocks items (a_let_object name) word = object_step blocks items name (object_of word)
step_at blocks items (an_argument given op) word =
    if takes op (are_looped blocks) word then Some (with_leaf blocks items (given_leaf given (with_operand op word))) else None
step_at blocks items (a_call given of) word = call_step blocks items given of.name (verb_behind of.kind word)
step_at blocks items for_copies word = if is_number word then Some (at blocks items (a_brace (for_loop word))) else None
step_at blocks items pfor_copies word = if is_number word then Some (at blocks items (a_brace (pfor_loop word))) else None
step_at blocks items (a_brace kind) word = brace_step blocks items kind word

abbrev pub step : State → Word → Option State
step state word = step_at state.blocks state.items state.place word

-- the state after the words, or `None` once a word does not fit
abbrev pub run : Option State → List Word → Option State
run state [] = state
run state (word ∷ words) = run (option_and_then (λ state. step state word) state) words

-- whether a name in this place is known: a use is where the open blocks show a let of it, a let's own name always
abbrev pub is_known : Place → List OpenBlock → Items → Name → Bool
is_known (an_argument given op) blocks items name = is_shown name (scope_at blocks items)
is_known _ blocks items name = true

-- a `{` is a fault where no more blocks may be open, and a name where it is not known
abbrev pub checked_word : ℕ → State → Word → State → Result State JobFault
checked_word line state Open new = if nat_le MOST_OPEN_BLOCKS (length state.blocks) then Err (fault.Nesting line) else Ok new
checked_word line state (Named name) new = if is_known state.place state.blocks state.items name then Ok new else Err (fault.Name line)
checked_word line state _ new = Ok new

-- One token and the state after it. A token that does not fit is a `Grammar` fault; else bad numbers are a `Number`
-- fault; else a `{` too many is a `Nesting` fault, and a use of a name that is not known a `Name` fault.
abbrev pub checked_step : State → WordOnLine → Option State → Result State JobFault
checked_step state token None = Err (fault.Grammar token.line)
checked_step state token (Some new) =
    if has_good_numbers token.word then checked_word token.line state token.word new
    else Err (fault.Number token.line)

-- at the end of the tokens: the items, or a `Grammar` fault on line `last` where something is still open
abbrev pub end_at : ℕ → Place → List OpenBlock → Items → Result Items JobFault
end_at last an_item [] items = Ok items
end_at last _ _ items = Err (fault.Grammar last)

abbrev pub on_state : (State → Result Items JobFault) → Result State JobFault → Result Items JobFault
on_state f (Ok state) = f state
on_state f (Err found) = Err found

-- the items that the tokens make from this state on, or the first fault
abbrev pub read_from : ℕ → State → List WordOnLine → Result Items JobFault
read_from last state [] = end_at last state.place state.blocks state.items
read_from last state (token ∷ tokens) =
    on_state (λ state. read_from last state tokens) (checked_step state token (step state token.word))
