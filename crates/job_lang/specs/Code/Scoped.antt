-- The leaves that the code adds, and their sources, by the scopes in which it makes its copies.
use Rattle.std.specs.Prelude.{◌≡◌, ℕ, ◌+◌, ◌*◌, ◌≤◌, List, [], ◌∷◌, ◌++◌, length, Option, option_and_then, if◌then◌else◌}
use Rattle.job_names.specs.declared.kind.Kind.TheVariants as kind
use Rattle.job_names.specs.declared.scopes.Let.{Let}
use Rattle.job_names.specs.Scopes.{Scope, inside, last_of, lets_shown, with_lets}
use Rattle.job_names.specs.Code.Kept.{IsKept}
use Rattle.job_names.specs.Code.Kept as names
use Rattle.job_syntax.specs.Blocks.{copies_of, name_kind}
use Rattle.job_syntax.specs.Grammar.{Items, nothing, leaf_then, block_then, Leaf, bound, is_loop}
use Rattle.job_lang.specs.declared.expand.leaves.Leaves.{Leaves}
use Rattle.job_syntax.specs.Arguments.{name_used}
use Rattle.job_lang.specs.Counts.{count}
use Rattle.job_lang.specs.Meaning.{acts_in, objects_in, each_copy, in_block_from}
use Rattle.job_lang.specs.Code.Numbered.{NamesBehind}

-- the let that a leaf with this number makes
abbrev pub lets_at : ℕ → Leaf → List Let
lets_at number (bound name given) = record { name = name; number = number } ∷ []
lets_at number _ = []

-- the lets of items that are shown behind them, where the leaves have the numbers from `first` on
abbrev pub lets_behind : ℕ → Items → List Let
lets_behind first nothing = []
lets_behind first (leaf_then l more) = lets_at first l ++ lets_behind (first + 1) more
lets_behind first (block_then kind body more) =
    (if is_loop kind then [] else lets_behind first body) ++ lets_behind (first + copies_of kind * count body) more

-- the source of a leaf in a scope
abbrev pub scoped_source : Scope → Leaf → Option ℕ
scoped_source scope leaf = option_and_then (λ name. last_of name (lets_shown scope)) (name_used leaf)

-- the sources of the leaves of items in a scope
abbrev pub scoped_sources : Scope → ℕ → Items → List (Option ℕ)
scoped_sources scope first nothing = []
scoped_sources scope first (leaf_then l more) =
    scoped_source scope l ∷ scoped_sources (with_lets scope (lets_at first l)) (first + 1) more
scoped_sources scope first (block_then kind body more) =
    in_block_from kind first (count body) (λ at. scoped_sources (inside scope (name_kind kind) []) at body)
    ++ scoped_sources (with_lets scope (if is_loop kind then [] else lets_behind first body)) (first + copies_of kind * count body) more

-- What is kept of the leaves made so far: their scopes, and at most as many objects as leaves.
pub record AreKept (leaves : Leaves) : Type 0 where
  pub scopes : IsKept leaves.scopes
  pub objects : length leaves.objects.named.keys ≤ length leaves.acts.items

-- The leaves of the items in copy `copy` are added to the old ones, and their lets are shown.
pub record Adds (copy : ℕ) (items : Items) (old new : Leaves) : Type 0 where
  pub acts : new.acts.items ≡ old.acts.items ++ acts_in copy items
  pub sources : new.sources.items ≡ old.sources.items ++ scoped_sources (names.view old.scopes) (length old.acts.items) items
  pub objects : NamesBehind (length old.acts.items) old.objects new.objects (objects_in items)
  pub scope : names.view new.scopes ≡ with_lets (names.view old.scopes) (lets_behind (length old.acts.items) items)
  pub kept : AreKept new

-- The leaves of the first copies of a loop are added to the old ones. Their lets are gone.
pub record AddsCopies (copies : ℕ) (body : Items) (old new : Leaves) : Type 0 where
  pub acts : new.acts.items ≡ old.acts.items ++ each_copy copies (λ k. acts_in k body)
  pub sources : new.sources.items
      ≡ old.sources.items
      ++ each_copy copies (λ k. scoped_sources (inside (names.view old.scopes) kind.Loop []) (length old.acts.items + k * count body) body)
  pub objects : NamesBehind (length old.acts.items) old.objects new.objects (each_copy copies (λ k. objects_in body))
  pub scope : names.view new.scopes ≡ names.view old.scopes
  pub kept : AreKept new
