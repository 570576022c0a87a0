-- What a leaf, an open block and a closed one do to the lets that are shown.
use Rattle.std.proofs.Common.{◌≡◌, List, [], ◌∷◌, ◌++◌, refl, sym, ap, ◌∙◌, append_assoc, append-nil}
use Rattle.std.specs.Prelude.{if◌then◌else◌}
use Rattle.job_names.specs.Scopes.{Scope, job, inside, with_lets, closed}
use Rattle.job_names.specs.Scopes as names
use Rattle.job_names.proofs.ScopeLemmas.{with_nothing}
use Rattle.job_syntax.specs.Blocks.{name_kind}
use Rattle.job_syntax.specs.Grammar.{Leaf, BlockKind, seq_block, Items, nothing, leaf_then, block_then, ◌then◌, is_loop}
use Rattle.job_syntax.specs.Code.Shown.{OpenBlock, lets_of, lets_behind, scope_at}

pub lets_then : (items more : Items) → lets_behind (items then more) ≡ lets_behind items ++ lets_behind more
lets_then nothing more = refl
lets_then (leaf_then leaf items) more = ap (λ l. lets_of leaf ++ l) (lets_then items more) ∙ sym (append_assoc (lets_of leaf) (lets_behind items) (lets_behind more))
lets_then (block_then kind body items) more =
    ap (λ l. (if is_loop kind then [] else lets_behind body) ++ l) (lets_then items more) ∙ sym (append_assoc (if is_loop kind then [] else lets_behind body) (lets_behind items) (lets_behind more))

-- the scope behind more items
scope_then : (blocks : List OpenBlock) (items more : Items) → with_lets (scope_at blocks items) (lets_behind more) ≡ scope_at blocks (items then more)
scope_then [] items more = ap job (sym (lets_then items more))
scope_then (block ∷ blocks) items more = ap (inside (scope_at blocks block.before) (name_kind block.kind)) (sym (lets_then items more))

leaf_lets : (leaf : Leaf) → lets_behind (leaf_then leaf nothing) ≡ lets_of leaf
leaf_lets leaf = append-nil (lets_of leaf)

pub scope_with_leaf : (blocks : List OpenBlock) (items : Items) (leaf : Leaf) → with_lets (scope_at blocks items) (lets_of leaf) ≡ scope_at blocks (items then leaf_then leaf nothing)
scope_with_leaf blocks items leaf = ap (with_lets (scope_at blocks items)) (sym (leaf_lets leaf)) ∙ scope_then blocks items (leaf_then leaf nothing)

-- a leaf without a name shows nothing more
pub scope_with_plain : (blocks : List OpenBlock) (items : Items) (leaf : Leaf) → lets_of leaf ≡ [] → scope_at blocks items ≡ scope_at blocks (items then leaf_then leaf nothing)
scope_with_plain blocks items leaf none =
    sym (with_nothing (scope_at blocks items)) ∙ ap (with_lets (scope_at blocks items)) (sym none) ∙ scope_with_leaf blocks items leaf

loop_same : (kind : BlockKind) → names.is_loop (name_kind kind) ≡ is_loop kind
loop_same seq_block = refl
loop_same _ = refl

pub scope_closed : (blocks : List OpenBlock) (block : OpenBlock) (items : Items) → closed (scope_at (block ∷ blocks) items) ≡ scope_at blocks (block.before then block_then block.kind items nothing)
scope_closed blocks block items =
    ap (λ b. with_lets (scope_at blocks block.before) (if b then [] else lets_behind items)) (loop_same block.kind)
    ∙ ap (with_lets (scope_at blocks block.before)) (sym (append-nil (if is_loop block.kind then [] else lets_behind items)))
    ∙ scope_then blocks block.before (block_then block.kind items nothing)
