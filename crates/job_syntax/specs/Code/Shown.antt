-- The lets that the reader's open blocks show.
use Rattle.std.specs.Prelude.{List, [], ◌∷◌, ◌++◌, Bool, Some, None, if◌then◌else◌, is_some, IsTrue}
use Rattle.job_names.specs.declared.name.Name.{Name}
use Rattle.job_names.specs.declared.scopes.Let.{Let}
use Rattle.job_names.specs.Scopes.{Scope, job, inside, last_of, lets_shown}
use Rattle.job_syntax.specs.Blocks.{name_kind}
use Rattle.job_syntax.specs.Grammar.{Leaf, work, call, bound, BlockKind, Items, nothing, leaf_then, block_then, ◌then◌, is_loop}
use Rattle.job_syntax.specs.declared.lexer.word.Word.{Word}
use Rattle.job_syntax.specs.declared.lexer.word.Word.TheVariants.{Named}

-- an open block: the items before it, and its head
pub record OpenBlock : Type 0 where
  pub before : Items
  pub kind : BlockKind

-- the let that a leaf makes; the reader asks only whether there is one, and gives all the number 0
abbrev pub lets_of : Leaf → List Let
lets_of (bound name leaf) = record { name = name; number = 0 } ∷ []
lets_of (work argument) = []
lets_of (call verb object argument) = []

-- the lets of items that are shown behind them, in text order
abbrev pub lets_behind : Items → List Let
lets_behind nothing = []
lets_behind (leaf_then leaf more) = lets_of leaf ++ lets_behind more
lets_behind (block_then kind body more) = (if is_loop kind then [] else lets_behind body) ++ lets_behind more

-- the scope inside the open blocks, the innermost first, behind the items so far in the innermost
abbrev pub scope_at : List OpenBlock → Items → Scope
scope_at [] items = job (lets_behind items)
scope_at (block ∷ blocks) items = inside (scope_at blocks block.before) (name_kind block.kind) (lets_behind items)

-- whether the scope shows a let of the name
abbrev pub is_shown : Name → Scope → Bool
is_shown name scope = is_some (last_of name (lets_shown scope))

-- a name that a leaf uses has a let in the scope
abbrev pub IsShownWord : Scope → Word → Type 0
IsShownWord scope (Named name) = IsTrue (is_shown name scope)
IsShownWord scope _ = Unit {0}

abbrev pub IsShownLeaf : Scope → Leaf → Type 0
IsShownLeaf scope (work argument) = IsShownWord scope argument
IsShownLeaf scope (call verb object (Some argument)) = IsShownWord scope argument
IsShownLeaf scope (call verb object None) = Unit {0}
IsShownLeaf scope (bound name leaf) = IsShownLeaf scope leaf

-- each name that the items use has a let shown there, where they stand behind `before` inside the open blocks
abbrev pub AreShown : List OpenBlock → Items → Items → Type 0
AreShown blocks before nothing = Unit {0}
AreShown blocks before (leaf_then leaf more) = IsShownLeaf (scope_at blocks before) leaf × AreShown blocks (before then leaf_then leaf nothing) more
AreShown blocks before (block_then kind body more) =
    AreShown (record { before = before; kind = kind } ∷ blocks) nothing body × AreShown blocks (before then block_then kind body nothing) more
