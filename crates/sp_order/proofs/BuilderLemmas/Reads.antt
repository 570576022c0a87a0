-- What is read in the lists of a tree is what its `nodes_of` gives.
use Rattle.std.proofs.Common.{Option, None, Some, ◌≡◌, ℕ, ◌+◌, ◌<◌, ◌≤◌, length, refl, ap, sym, ◌∙◌, arith, get_or, List, IsSome}
use Rattle.std.specs.Option.{unwrap_or}
use Rattle.std.proofs.lemmas.List.{get_or_read}
use Rattle.std.proofs.lemmas.Option.{slice_get_read}
use Rattle.sp_order.specs.declared.node.Kind.{Kind}
use Rattle.sp_order.specs.declared.node.Move.{Move}
use Rattle.sp_order.specs.declared.node.Move.TheVariants.{Root}
use Rattle.sp_order.specs.Precedence.{Tree, leaf, seq, par, leaves}
use Rattle.sp_order.specs.PlanOf.{node_count}
use Rattle.sp_order.specs.Preorder.{nodes_of}
use Rattle.sp_order.specs.Code.PlanView.{tree_of_kinds}
use Rattle.sp_order.specs.declared.plan.builder.Pending.{Pending}
use Rattle.sp_order.specs.Code.PlanBuilder.{Lists, lists_of, with_all, AreListsOf}
use Rattle.sp_order.proofs.BuilderLemmas.Steps.{kinds_no_shorter, leaf_nodes_no_shorter}
use Rattle.sp_order.proofs.BuilderLemmas.Preorders.{length-kinds_from, length-moves_from, length-leaf_nodes_from, tree_of_kinds-kinds_from}

pub node_count_by_leaves : (tree : Tree) → node_count tree + 1 ≡ leaves tree + leaves tree
node_count_by_leaves leaf = refl
node_count_by_leaves (seq a b) = omega (arith, node_count_by_leaves a, node_count_by_leaves b)
node_count_by_leaves (par a b) = omega (arith, node_count_by_leaves a, node_count_by_leaves b)

pub shown_lists : (lists : Lists) (read tree : Tree) → AreListsOf lists read → read ≡ tree → lists ≡ lists_of tree
shown_lists lists read tree h e = h.lists_are ∙ ap lists_of e

pub count_of_kinds : (lists : Lists) (tree : Tree) → lists ≡ lists_of tree → length lists.kinds ≡ (nodes_of tree).count
unfolding nodes_of
count_of_kinds lists tree h = ap (λ (l : Lists). length l.kinds) h ∙ length-kinds_from tree 0 0

pub count_of_moves : (lists : Lists) (tree : Tree) → lists ≡ lists_of tree → length lists.moves ≡ (nodes_of tree).count
unfolding nodes_of
count_of_moves lists tree h = ap (λ (l : Lists). length l.moves) h ∙ length-moves_from tree 0 Root

pub count_of_leaf_nodes : (lists : Lists) (tree : Tree) → lists ≡ lists_of tree → length lists.leaf_nodes ≡ leaves tree
count_of_leaf_nodes lists tree h = ap (λ (l : Lists). length l.leaf_nodes) h ∙ length-leaf_nodes_from tree 0

pub kind_read : (lists : Lists) (tree : Tree) → lists ≡ lists_of tree → (node : ℕ) (kind : Kind) → node < (nodes_of tree).count → kind ≡ get_or lists.kinds node kind → Some kind ≡ (nodes_of tree).kind node
unfolding nodes_of
kind_read lists tree h node kind low read =
    sym (rw h at (slice_get_read lists.kinds (length lists.kinds) node kind refl (omega (arith, count_of_kinds lists tree h)) read))

pub move_read : (lists : Lists) (tree : Tree) → lists ≡ lists_of tree → (node : ℕ) (move : Move) → node < (nodes_of tree).count → move ≡ get_or lists.moves node move → move ≡ (nodes_of tree).after node
unfolding nodes_of
move_read lists tree h node move low read = rw h at (get_or_read lists.moves node move (omega (arith, count_of_moves lists tree h)) read Root)

pub leaf_node_read : (lists : Lists) (tree : Tree) → lists ≡ lists_of tree → (u node : ℕ) → u < leaves tree → node ≡ get_or lists.leaf_nodes u node → node ≡ (nodes_of tree).node_of u
unfolding nodes_of
leaf_node_read lists tree h u node low read = rw h at (get_or_read lists.leaf_nodes u node (omega (arith, count_of_leaf_nodes lists tree h)) read 0)

-- the listed kinds determine their tree
pub lists_tell : (lists : Lists) (tree : Tree) → lists ≡ lists_of tree → tree_of_kinds lists.kinds ≡ tree
lists_tell lists tree h = ap (λ (l : Lists). tree_of_kinds l.kinds) h ∙ tree_of_kinds-kinds_from tree

pub lists_of_kinds : (lists : Lists) (tree : Tree) → lists ≡ lists_of tree → leaves tree ≤ 20000 → AreListsOf lists (tree_of_kinds lists.kinds)
lists_of_kinds lists tree h most =
    let e = lists_tell lists tree h in
    record { lists_are = h ∙ ap lists_of (sym e); most = rw e most }

pub few_kinds : (lists : Lists) (tree : Tree) → AreListsOf lists tree → length lists.kinds < 40000
few_kinds lists tree h =
    let e : length lists.kinds ≡ node_count tree = ap (λ (l : Lists). length l.kinds) h.lists_are ∙ length-kinds_from tree 0 0 in
    omega (arith, node_count_by_leaves tree, h.most)

pub still_few : (stack : List Pending) (lists : Lists) (tree : Tree) → with_all stack lists ≡ lists_of tree → leaves tree ≤ 20000 → (length lists.kinds < 40000) × (length lists.leaf_nodes ≤ 20000)
still_few stack lists tree h most =
    let all : Lists = with_all stack lists in
    let kinds : length all.kinds ≡ node_count tree = ap (λ (l : Lists). length l.kinds) h ∙ length-kinds_from tree 0 0 in
    let leaf_nodes : length all.leaf_nodes ≡ leaves tree = ap (λ (l : Lists). length l.leaf_nodes) h ∙ length-leaf_nodes_from tree 0 in
    (omega (arith, kinds_no_shorter stack lists, node_count_by_leaves tree), omega (arith, leaf_nodes_no_shorter stack lists))

pub some_unwrapped : (shape : Option Tree) → IsSome shape → Some (unwrap_or shape leaf) ≡ shape
some_unwrapped None is = cc
some_unwrapped (Some tree) is = refl
