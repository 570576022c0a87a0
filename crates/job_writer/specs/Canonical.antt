-- The canonical text of a job: its shape on one line, with two items in every block. A leaf that is some leaf's source
-- has its number as a name, and a leaf with a source has that name as its argument. A call of an object with a name
-- writes it behind the kind word.
use Rattle.std.specs.Prelude.{ℕ, ◌+◌, ◌==◌, List, [], ◌∷◌, ◌++◌, take, drop, Bool, false, Option, None, Some, codes, if◌then◌else◌}
use Rattle.std.specs.Fmt.{decimal}
use Rattle.std.specs.List.{list_any}
use Rattle.seq_objects.specs.declared.act.Act.{Act}
use Rattle.seq_objects.specs.declared.act.Act.TheVariants.{Work, Call}
use Rattle.seq_objects.specs.declared.op.Op.{Op}
use Rattle.seq_objects.specs.Parts.{argument_of, has_argument}
use Rattle.seq_objects.specs.Words.{call_words}
use Rattle.sp_order.specs.Precedence.{Tree, leaf, seq, par, leaves}
use Rattle.sp_order.specs.Jobs.{JobValue}

-- a leaf as it is written: its number, whether some leaf has it as its source, its act, and its own source
pub record WrittenLeaf : Type 0 where
  pub number : ℕ
  pub named : Bool
  pub act : Act
  pub source : Option ℕ

-- whether a source is this leaf
abbrev pub is_leaf : ℕ → Option ℕ → Bool
is_leaf number None = false
is_leaf number (Some source) = source == number

-- whether some leaf has this one as its source
abbrev pub is_source : List (Option ℕ) → ℕ → Bool
is_source sources number = list_any (λ source. is_leaf number source) sources

-- the leaves as they are written, where the first of them has this number and all have the sources `all`
abbrev pub written_from : List (Option ℕ) → ℕ → List Act → List (Option ℕ) → List WrittenLeaf
written_from all number (act ∷ acts) (source ∷ sources) =
    record { number = number; named = is_source all number; act = act; source = source } ∷ written_from all (number + 1) acts sources
written_from all number _ _ = []

-- the leaves of a job as they are written
abbrev pub written_leaves : JobValue → List WrittenLeaf
written_leaves job = written_from job.sources 0 job.acts job.sources

-- the name of a leaf
abbrev pub name_text : ℕ → List ℕ
name_text number = codes "v" ++ decimal number

-- an argument: the name of its source, if it has one, else its number
abbrev pub value_text : ℕ → Option ℕ → List ℕ
value_text number None = decimal number
value_text number (Some source) = name_text source

-- the argument of an operation, if it takes one
abbrev pub argument_text : Op → Option ℕ → List ℕ
argument_text op source = if has_argument op then value_text (argument_of op) source else []

-- an act with this source: its words, and its argument behind them
abbrev pub act_text : List (List ℕ) → Act → Option ℕ → List ℕ
act_text names (Work steps) source = codes "work " ++ decimal steps
act_text names (Call op) source = call_words names op ++ argument_text op source

-- the name that a leaf gets, if it gets one
abbrev pub let_text : Bool → ℕ → List ℕ
let_text named number = if named then codes "let " ++ (name_text number ++ codes " = ") else []

-- a leaf
abbrev pub leaf_text : List (List ℕ) → WrittenLeaf → List ℕ
leaf_text names written = let_text written.named written.number ++ act_text names written.act written.source

-- the first of the leaves
abbrev pub first_leaf_text : List (List ℕ) → List WrittenLeaf → List ℕ
first_leaf_text names [] = []
first_leaf_text names (written ∷ more) = leaf_text names written

-- the text of a shape with these leaves, from left to right, and these names of objects
abbrev pub tree_text : List (List ℕ) → Tree → List WrittenLeaf → List ℕ
tree_text names leaf written = first_leaf_text names written
tree_text names (seq left right) written =
    codes "seq { " ++ tree_text names left (take (leaves left) written) ++ codes " " ++ tree_text names right (drop (leaves left) written) ++ codes " }"
tree_text names (par left right) written =
    codes "par { " ++ tree_text names left (take (leaves left) written) ++ codes " " ++ tree_text names right (drop (leaves left) written) ++ codes " }"

-- a job without leaves has the empty text; every other text ends with a line feed
abbrev pub shape_text : List (List ℕ) → Option Tree → List WrittenLeaf → List ℕ
shape_text names None written = []
shape_text names (Some tree) written = tree_text names tree written ++ codes "\n"

-- the canonical text of a job
abbrev pub canonical_text : JobValue → List ℕ
canonical_text job = shape_text job.names job.shape (written_leaves job)
