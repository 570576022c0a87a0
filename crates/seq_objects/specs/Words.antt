-- The text of operations and replies, as jobs and reports write it. The names are those of the objects with the numbers
-- 1, 2, and so on; the object with the number 0 has none.
use Rattle.std.specs.Prelude.{ℕ, zero, suc, List, [], ◌++◌, if◌then◌else◌, codes, slice_index_or}
use Rattle.std.specs.Fmt.{decimal}
use Rattle.seq_objects.specs.declared.op.Op.{Op}
use Rattle.seq_objects.specs.declared.reply.Reply.{Reply}
use Rattle.seq_objects.specs.declared.reply.Reply.TheVariants as reply
use Rattle.seq_objects.specs.Parts.{verb_of, kind_of, number_of, argument_of, has_argument}
use Rattle.seq_objects.specs.Verbs.{Kind, kind_text, word_of_verb, word_text}

-- the word of a kind
abbrev pub kind_words : Kind → List ℕ
kind_words kind = kind_text kind

-- what follows the kind word of an object with this number: a colon and its name, if it has one
abbrev pub name_words : List (List ℕ) → ℕ → List ℕ
name_words names zero = []
name_words names (suc number) = codes ":" ++ slice_index_or names number []

-- the word of an operation's verb between blanks, the last one only where an argument follows
abbrev pub verb_words : Op → List ℕ
verb_words op = codes " " ++ (word_text (word_of_verb (verb_of op)) ++ (if has_argument op then codes " " else []))

-- an operation without its argument
abbrev pub call_words : List (List ℕ) → Op → List ℕ
call_words names op = kind_words (kind_of op) ++ (name_words names (number_of op) ++ verb_words op)

-- the argument of an operation, if it takes one
abbrev pub argument_words : Op → List ℕ
argument_words op = if has_argument op then decimal (argument_of op) else []

-- an operation
abbrev pub op_words : List (List ℕ) → Op → List ℕ
op_words names op = call_words names op ++ argument_words op

-- a reply
abbrev pub reply_words : Reply → List ℕ
reply_words (reply.Number number) = decimal number
reply_words reply.Unit = codes "ok"
reply_words reply.Empty = codes "empty"
reply_words reply.Yes = codes "yes"
reply_words reply.No = codes "no"
