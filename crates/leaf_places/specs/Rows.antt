-- The rows of a job's leaves. A row has the leaf's number and line, the copies of the loops around it, the outermost
-- first, and what the leaf does: its work, or its call with the argument or with the leaf whose reply that is.
use Rattle.std.specs.Prelude.{◌≡◌, ℕ, zero, suc, List, [], ◌∷◌, ◌++◌, length, slice_index_or, Option, None, Some, codes}
use Rattle.std.specs.Fmt.{decimal}
use Rattle.seq_objects.specs.declared.act.Act.{Act}
use Rattle.seq_objects.specs.declared.act.Act.TheVariants.{Work, Call}
use Rattle.seq_objects.specs.Words.{call_words, op_words}
use Rattle.sp_order.specs.Jobs.{JobValue}
use Rattle.job_syntax.specs.Words.{words_on_lines}
use Rattle.job_lang.specs.Language.{IsJobOf}
use Rattle.leaf_places.specs.Places.{Place, places_of}

-- the place of the leaf with this number
abbrev pub place_at : List Place → ℕ → Place
place_at places leaf = slice_index_or places leaf (record { line = 0; copies = [] })

-- a leaf by its number and its line
abbrev pub leaf_words : List Place → ℕ → List ℕ
leaf_words places leaf = codes "leaf " ++ (decimal leaf ++ (codes " line " ++ decimal (place_at places leaf).line))

-- the copies, the outermost first
abbrev pub copies_words : List ℕ → List ℕ
copies_words [] = []
copies_words (copy ∷ copies) = codes " copy " ++ (decimal copy ++ copies_words copies)

-- what a leaf does, where the names are those of the objects with the numbers 1, 2, and so on
abbrev pub act_words : List (List ℕ) → List Place → Act → Option ℕ → List ℕ
act_words names places (Work steps) source = codes "work " ++ decimal steps
act_words names places (Call op) None = op_words names op
act_words names places (Call op) (Some source) = call_words names op ++ (codes "reply of " ++ leaf_words places source)

-- the row of the leaf with this number
abbrev pub row_text : JobValue → List Place → ℕ → List ℕ
row_text job places leaf =
    leaf_words places leaf
    ++ (copies_words (place_at places leaf).copies
    ++ (codes " "
    ++ (act_words job.names places (slice_index_or job.acts leaf (Work 0)) (slice_index_or job.sources leaf None) ++ codes "\n")))

-- the rows of so many leaves, from leaf 0
abbrev pub first_rows : JobValue → List Place → ℕ → List ℕ
first_rows job places zero = []
first_rows job places (suc leaf) = first_rows job places leaf ++ row_text job places leaf

-- the rows of all leaves
abbrev pub rows_text : JobValue → List Place → List ℕ
rows_text job places = first_rows job places (length job.acts)

-- The text is one of the job, and these are the rows of its leaves.
pub record AreRowsOf (text : List ℕ) (job : JobValue) (rows : List ℕ) : Type 0 where
  pub is : IsJobOf text job
  pub are : rows ≡ rows_text job (places_of (words_on_lines text) is.items)
