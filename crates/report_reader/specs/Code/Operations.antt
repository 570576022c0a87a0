-- Operations as a verb, the mark of an object, and an argument, by the table of verbs.
use Rattle.std.specs.Prelude.{◌≡◌, ℕ, ◌<◌, ◌^◌, Bool, true, false, List, [], ◌++◌, codes}
use Rattle.std.specs.Fmt.{decimal}
use Rattle.seq_objects.specs.Verbs.{kind_of_verb, word_of_verb, takes_argument, kind_text, word_text}
use Rattle.seq_objects.specs.declared.kind.Kind.{Kind}
use Rattle.seq_objects.specs.declared.verb.Verb.{Verb}
use Rattle.report_reader.specs.Code.Fields.{IsFieldThen, IsLettersThen}
use Rattle.report_reader.specs.Code.Objects.{is_mark}
use Rattle.report_reader.specs.declared.operation.Spoken.{Spoken}

-- The text is a blank, the word of a verb of this kind, and then the rest.
pub record IsVerbThen (kind : Kind) (text : List ℕ) (verb : Verb) (rest : List ℕ) : Type 0 where
  pub behind : List ℕ
  pub starts : codes " " ++ behind ≡ text
  pub word : IsLettersThen (word_text (word_of_verb verb)) behind rest
  pub own : kind_of_verb verb ≡ kind

-- what stands behind the word of a verb: a blank and the argument, if it takes one
abbrev pub argument_text : Bool → ℕ → List ℕ
argument_text true argument = codes " " ++ decimal argument
argument_text false argument = []

-- The text is a blank, the argument in decimal, and then the rest. A verb without an argument has 0 and no text.
abbrev pub ArgumentThen : Bool → List ℕ → ℕ → List ℕ → Type 0
ArgumentThen true text number rest = IsFieldThen (codes " ") 4294967295 text number rest
ArgumentThen false text number rest = (number ≡ 0) × (rest ≡ text)

abbrev pub IsArgumentThen : Verb → List ℕ → ℕ → List ℕ → Type 0
IsArgumentThen verb text number rest = ArgumentThen (takes_argument verb) text number rest

-- the argument is below 2^32, and 0 for a verb without one
abbrev pub FitsArgument : Bool → ℕ → Type 0
FitsArgument true argument = argument < 2 ^ 32
FitsArgument false argument = argument ≡ 0

abbrev pub IsArgument : Verb → ℕ → Type 0
IsArgument verb argument = FitsArgument (takes_argument verb) argument

-- the words of an operation on an object with this mark
abbrev pub spoken_words : Spoken → List ℕ → List ℕ
spoken_words spoken mark =
    kind_text (kind_of_verb spoken.verb) ++ (mark ++ (codes " " ++ (word_text (word_of_verb spoken.verb)
    ++ argument_text (takes_argument spoken.verb) spoken.argument)))

-- the text is the words of the operation, an arrow, and then the rest
pub record IsOpThen (text : List ℕ) (spoken : Spoken) (mark : List ℕ) (rest : List ℕ) : Type 0 where
  pub written : spoken_words spoken mark ++ (codes " -> " ++ rest) ≡ text
  pub marked : is_mark mark ≡ true
  pub argument : IsArgument spoken.verb spoken.argument
