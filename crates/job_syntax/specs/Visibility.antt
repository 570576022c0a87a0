-- Which lets a use of a name sees, by the words of the text alone: three conditions.
use Rattle.std.specs.Prelude.{◌≡◌, ℕ, ◌+◌, ◌-◌, List, [], ◌∷◌, ◌++◌, take, drop, Bool, true, false, not}
use Rattle.std.specs.List.{AllByRecursion}
use Rattle.job_names.specs.declared.name.Name.{Name}
use Rattle.job_syntax.specs.declared.lexer.word.Word.{Word}
use Rattle.job_syntax.specs.declared.lexer.word.Word.TheVariants.{Open, Close, Seq, Par, For, Pfor, Let, Named}
use Rattle.job_syntax.specs.Grammar.{Leaf, bound, leaf_words, IsCall, BlockKind, seq_block, par_block, for_loop, pfor_loop, is_loop, is_par}

-- the blocks that are open behind words, the innermost first, where `blocks` are open before them
abbrev pub blocks_behind : List BlockKind → List Word → List BlockKind
blocks_behind blocks [] = blocks
blocks_behind blocks (Seq ∷ Open ∷ words) = blocks_behind (seq_block ∷ blocks) words
blocks_behind blocks (Par ∷ Open ∷ words) = blocks_behind (par_block ∷ blocks) words
blocks_behind blocks (For ∷ copies ∷ Open ∷ words) = blocks_behind (for_loop copies ∷ blocks) words
blocks_behind blocks (Pfor ∷ copies ∷ Open ∷ words) = blocks_behind (pfor_loop copies ∷ blocks) words
blocks_behind blocks (Close ∷ words) = blocks_behind (drop 1 blocks) words
blocks_behind blocks (_ ∷ words) = blocks_behind blocks words

-- how many of the blocks that are open before words these words close
abbrev pub closed_by : List Word → ℕ
closed_by [] = 0
closed_by (Open ∷ words) = closed_by words - 1
closed_by (Close ∷ words) = closed_by words + 1
closed_by (_ ∷ words) = closed_by words

-- whether the innermost of the blocks is no `par`; the whole job counts as a block in series
abbrev pub is_in_series : List BlockKind → Bool
is_in_series [] = true
is_in_series (kind ∷ blocks) = not (is_par kind)

-- Behind these words a use of the name sees a let of it. Its whole item stands in the words, behind those of `front`;
-- those of `behind` close the first of the blocks that hold it, and the others hold the use too. Each loop that holds
-- the let holds the use, and the innermost block that holds both is no `par`.
pub record Sees (words : List Word) (name : Name) : Type 0 where
  pub front : List Word
  pub call : Leaf
  pub whole : IsCall true call
  pub behind : List Word
  pub stands : front ++ (leaf_words (bound name call) ++ behind) ≡ words
  pub loops : AllByRecursion (λ kind. is_loop kind ≡ false) (take (closed_by behind) (blocks_behind [] front))
  pub series : is_in_series (drop (closed_by behind) (blocks_behind [] front)) ≡ true

abbrev pub is_let : Word → Bool
is_let Let = true
is_let _ = false

-- whether the last of the words is `let`; `was` says so of the word before them
abbrev pub ends_in_let : Bool → List Word → Bool
ends_in_let was [] = was
ends_in_let was (word ∷ words) = ends_in_let (is_let word) words

-- The word, behind those of `before`, uses the name: it spells the name, and no `let` before it gives the name here.
abbrev pub IsUse : List Word → Word → Name → Type 0
IsUse before word name = (word ≡ Named name) × (ends_in_let false before ≡ false)

-- where the word, behind those of `before`, is a use, it sees a let
abbrev pub IsKnown : List Word → Word → Type 0
IsKnown before word = (name : Name) → IsUse before word name → Sees before name
