-- The table of verbs: for each verb the kind of its objects, its word, whether an argument follows, and its class: in a
-- batch, calls of a lower class take effect first. Kinds and words have a text each, by which jobs and reports write
-- them.
use Rattle.std.specs.Prelude.{ℕ, Bool, true, false, ◌&&◌, List, [], ◌∷◌, codes}
use Rattle.std.specs.declared.option.Option.{Option}
use Rattle.std.specs.List.{find}
use Rattle.std.specs.Str.{bytes_eq}
use Rattle.seq_objects.specs.declared.verb.Verb.{Verb}
use Rattle.seq_objects.specs.declared.verb.Verb.TheVariants as verb
use Rattle.seq_objects.specs.declared.verb.VerbRow.{VerbRow}
use Rattle.seq_objects.specs.declared.verb.VerbWord.{VerbWord}
use Rattle.seq_objects.specs.declared.verb.VerbWord.TheVariants as word
-- the four kinds of shared objects
pub use Rattle.seq_objects.specs.declared.kind.Kind.{Kind}
pub use Rattle.seq_objects.specs.declared.kind.Kind.TheVariants.{Counter, Stack, Tree, Queue}

-- the row of each verb
abbrev pub row_of : Verb → VerbRow
row_of verb.CounterAdd = record { kind = Counter; word = word.Add; takes_argument = true; class = 0 }
row_of verb.Push = record { kind = Stack; word = word.Push; takes_argument = true; class = 1 }
row_of verb.Pop = record { kind = Stack; word = word.Pop; takes_argument = false; class = 2 }
row_of verb.TreeInsert = record { kind = Tree; word = word.Insert; takes_argument = true; class = 4 }
row_of verb.TreeRemove = record { kind = Tree; word = word.Remove; takes_argument = true; class = 4 }
row_of verb.TreeFind = record { kind = Tree; word = word.Find; takes_argument = true; class = 3 }
row_of verb.TreeNext = record { kind = Tree; word = word.Next; takes_argument = true; class = 3 }
row_of verb.PqInsert = record { kind = Queue; word = word.Insert; takes_argument = true; class = 5 }
row_of verb.PqTake = record { kind = Queue; word = word.Take; takes_argument = false; class = 6 }

-- the parts of a verb's row
abbrev pub kind_of_verb : Verb → Kind
kind_of_verb verb = (row_of verb).kind

abbrev pub word_of_verb : Verb → VerbWord
word_of_verb verb = (row_of verb).word

abbrev pub takes_argument : Verb → Bool
takes_argument verb = (row_of verb).takes_argument

-- all kinds, all words and all verbs, each once
abbrev pub kinds : List Kind
kinds = Counter ∷ Stack ∷ Tree ∷ Queue ∷ []

abbrev pub verb_words : List VerbWord
verb_words = word.Add ∷ word.Push ∷ word.Pop ∷ word.Insert ∷ word.Remove ∷ word.Find ∷ word.Next ∷ word.Take ∷ []

abbrev pub verbs : List Verb
verbs = verb.CounterAdd ∷ verb.Push ∷ verb.Pop ∷ verb.TreeInsert ∷ verb.TreeRemove ∷ verb.TreeFind ∷ verb.TreeNext ∷ verb.PqInsert ∷ verb.PqTake ∷ []

-- the text of a kind
abbrev pub kind_text : Kind → List ℕ
kind_text Counter = codes "counter"
kind_text Stack = codes "stack"
kind_text Tree = codes "tree"
kind_text Queue = codes "queue"

-- the text of a word
abbrev pub word_text : VerbWord → List ℕ
word_text word.Add = codes "add"
word_text word.Push = codes "push"
word_text word.Pop = codes "pop"
word_text word.Insert = codes "insert"
word_text word.Remove = codes "remove"
word_text word.Find = codes "find"
word_text word.Next = codes "next"
word_text word.Take = codes "take"

-- whether two kinds are the same
abbrev pub same_kind : Kind → Kind → Bool
same_kind Counter Counter = true
same_kind Stack Stack = true
same_kind Tree Tree = true
same_kind Queue Queue = true
same_kind _ _ = false

-- whether two words are the same, by their texts
abbrev pub same_word : VerbWord → VerbWord → Bool
same_word a b = bytes_eq (word_text a) (word_text b)

-- the kind with this text, if there is one
abbrev pub kind_by_text : List ℕ → Option Kind
kind_by_text text = find (λ kind. bytes_eq text (kind_text kind)) kinds

-- the word with this text, if there is one
abbrev pub word_by_text : List ℕ → Option VerbWord
word_by_text text = find (λ word. bytes_eq text (word_text word)) verb_words

-- the verb with this word on objects of this kind, if they have it
abbrev pub verb_by : Kind → VerbWord → Option Verb
verb_by kind word = find (λ verb. same_kind (kind_of_verb verb) kind && same_word (word_of_verb verb) word) verbs
