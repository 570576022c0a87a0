-- Which let a use of a name means, by the words of the text: the last one that the use sees, in the copy of the use.
use Rattle.std.specs.Prelude.{◌≡◌, ℕ, ◌+◌, ◌-◌, ◌≤◌, List, [], ◌∷◌, ◌++◌, length, take, if◌then◌else◌, Option, Some, None, slice_get}
use Rattle.job_names.specs.declared.name.Name.{Name}
use Rattle.seq_objects.specs.declared.act.Act.{Act}
use Rattle.job_syntax.specs.declared.lexer.word.Word.{Word}
use Rattle.job_syntax.specs.declared.lexer.word.Word.TheVariants.{Open}
use Rattle.job_syntax.specs.Grammar.{Items, nothing, leaf_then, block_then, BlockKind, Leaf, bound, leaf_words, kind_words, items_words, is_loop}
use Rattle.job_syntax.specs.Visibility.{Sees}
use Rattle.job_syntax.specs.Arguments.{name_used}
use Rattle.job_lang.specs.Meaning.{act_of, in_block}

-- A leaf of the job, and where it comes from: the item of the text that makes it, how many words stand before this item,
-- and the copy in which the leaf is of each loop around it, the outermost loop first.
pub record PlacedLeaf : Type 0 where
  pub leaf : Leaf
  pub before : ℕ
  pub copies : List ℕ

-- the copies around the items of a block, in its copy `copy`
abbrev pub with_copy : BlockKind → List ℕ → ℕ → List ℕ
with_copy kind copies copy = if is_loop kind then copies ++ copy ∷ [] else copies

-- The leaves of items that stand behind `before` words, in these copies of the loops around them: from left to right,
-- copy by copy.
abbrev pub placed_in : ℕ → List ℕ → Items → List PlacedLeaf
placed_in before copies nothing = []
placed_in before copies (leaf_then leaf more) =
    record { leaf = leaf; before = before; copies = copies } ∷ placed_in (before + length (leaf_words leaf)) copies more
placed_in before copies (block_then kind body more) =
    in_block kind 0 (λ k. placed_in (before + length (kind_words kind ++ Open ∷ [])) (with_copy kind copies k) body)
    ++ placed_in (before + length (items_words (block_then kind body nothing))) copies more

abbrev pub placed_leaves : Items → List PlacedLeaf
placed_leaves items = placed_in 0 [] items

-- the innermost of the copies, or else this one
abbrev pub innermost : ℕ → List ℕ → ℕ
innermost copy [] = copy
innermost copy (inner ∷ copies) = innermost inner copies

-- what the leaf does, where each object has the number 0
abbrev pub act_at : PlacedLeaf → Act
act_at at = act_of (innermost 0 at.copies) at.leaf

-- the words before the argument of a leaf, which is the last word of its item
abbrev pub before_argument : List Word → PlacedLeaf → List Word
before_argument words at = take (at.before + length (leaf_words at.leaf) - 1) words

-- A use of the name in leaf `at`, behind these words, means the let that makes leaf `from`: the use sees this let, and
-- none of the name that stands further behind; and in each loop that holds the let, the two leaves are in one copy.
pub record MeansLet (words : List Word) (name : Name) (at from : PlacedLeaf) : Type 0 where
  pub call : Leaf
  pub binds : from.leaf ≡ bound name call
  pub seen : Sees words name
  pub stands : length seen.front ≡ from.before
  pub last : (other : Sees words name) → length other.front ≤ from.before
  pub inner : List ℕ
  pub same_copies : from.copies ++ inner ≡ at.copies

-- The source of leaf `at`, which uses the name, is the leaf of the let that the use means.
pub record HasItsLet (words : List Word) (leaves : List PlacedLeaf) (source : Option ℕ) (at : PlacedLeaf) (name : Name) : Type 0 where
  pub number : ℕ
  pub is : source ≡ Some number
  pub from : PlacedLeaf
  pub stands : slice_get leaves number ≡ Some from
  pub means : MeansLet (before_argument words at) name at from

-- a leaf that uses a name has such a source, and any other leaf has none
abbrev pub IsSourceOf : List Word → List PlacedLeaf → Option ℕ → PlacedLeaf → Option Name → Type 0
IsSourceOf words leaves source at (Some name) = HasItsLet words leaves source at name
IsSourceOf words leaves source at None = source ≡ None

-- The sources are those of the leaves, one each, by the words of their text.
pub record HaveTheirLets (words : List Word) (leaves : List PlacedLeaf) (sources : List (Option ℕ)) : Type 0 where
  pub as_many : length sources ≡ length leaves
  pub each : (number : ℕ) (at : PlacedLeaf) (source : Option ℕ) → slice_get leaves number ≡ Some at → slice_get sources number ≡ Some source
      → IsSourceOf words leaves source at (name_used at.leaf)
