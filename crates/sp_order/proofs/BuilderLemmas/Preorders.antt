-- The preorder nodes of a tree are a plan that stands for it, and determine it.
use Rattle.std.proofs.Common.{Option, Some, ◌≡◌, ℕ, zero, suc, ◌+◌, ◌<◌, List, [], ◌∷◌, ◌++◌, length, refl, ap, sym, ◌∙◌, arith, length-append, append_assoc, append-nil, get_or}
use Rattle.std.specs.List.{slice_get}
use Rattle.std.proofs.lemmas.Option.{slice_get-get_or, slice_get_past, same_Some}
use Rattle.std.proofs.lemmas.List.{get_or_past}
use Rattle.sp_order.specs.declared.node.Kind.{Kind}
use Rattle.sp_order.specs.declared.node.Kind.TheVariants.{LeafNode}
use Rattle.sp_order.specs.declared.node.Move.{Move}
use Rattle.sp_order.specs.declared.node.Move.TheVariants.{Root, OpenSecond, FinishParent, Arrive}
use Rattle.sp_order.specs.Precedence.{Tree, leaf, seq, par, leaves}
use Rattle.sp_order.specs.TreeEncoding.{top}
use Rattle.sp_order.specs.Plans.{Nodes}
use Rattle.sp_order.specs.PlanOf.{OccursAt, IsPlanOf, node_count}
use Rattle.sp_order.specs.Preorder.{kinds_from, moves_from, leaf_nodes_from, nodes_of}
use Rattle.sp_order.specs.Code.PlanView.{with_block, trees_of_kinds, tree_of_kinds}

pub length-kinds_from : (tree : Tree) (n u : ℕ) → length (kinds_from n u tree) ≡ node_count tree
length-kinds_from leaf n u = refl
length-kinds_from (seq a b) n u =
    omega (arith, length-append (kinds_from (n + 1) u a) (kinds_from (n + 1 + node_count a) (u + leaves a) b), length-kinds_from a (n + 1) u, length-kinds_from b (n + 1 + node_count a) (u + leaves a))
length-kinds_from (par a b) n u =
    omega (arith, length-append (kinds_from (n + 1) u a) (kinds_from (n + 1 + node_count a) (u + leaves a) b), length-kinds_from a (n + 1) u, length-kinds_from b (n + 1 + node_count a) (u + leaves a))

pub length-moves_from : (tree : Tree) (n : ℕ) (m : Move) → length (moves_from n m tree) ≡ node_count tree
length-moves_from leaf n m = refl
length-moves_from (seq a b) n m =
    omega (arith, length-append (moves_from (n + 1) (OpenSecond n) a) (moves_from (n + 1 + node_count a) (FinishParent n) b), length-moves_from a (n + 1) (OpenSecond n), length-moves_from b (n + 1 + node_count a) (FinishParent n))
length-moves_from (par a b) n m =
    omega (arith, length-append (moves_from (n + 1) (Arrive n) a) (moves_from (n + 1 + node_count a) (Arrive n) b), length-moves_from a (n + 1) (Arrive n), length-moves_from b (n + 1 + node_count a) (Arrive n))

pub length-leaf_nodes_from : (tree : Tree) (n : ℕ) → length (leaf_nodes_from n tree) ≡ leaves tree
length-leaf_nodes_from leaf n = refl
length-leaf_nodes_from (seq a b) n =
    omega (arith, length-append (leaf_nodes_from (n + 1) a) (leaf_nodes_from (n + 1 + node_count a) b), length-leaf_nodes_from a (n + 1), length-leaf_nodes_from b (n + 1 + node_count a))
length-leaf_nodes_from (par a b) n =
    omega (arith, length-append (leaf_nodes_from (n + 1) a) (leaf_nodes_from (n + 1 + node_count a) b), length-leaf_nodes_from a (n + 1), length-leaf_nodes_from b (n + 1 + node_count a))

-- from `n` on, the function gives the items of this list
abbrev Reads : {A : Type 0} → (ℕ → Option A) → ℕ → List A → Type 0
Reads f n xs = (k : ℕ) → k < length xs → f (n + k) ≡ slice_get xs k

slice_get-append_left : {A : Type 0} (xs ys : List A) (k : ℕ) → k < length xs → slice_get (xs ++ ys) k ≡ slice_get xs k
slice_get-append_left [] ys k low = absurd (omega arith)
slice_get-append_left (x ∷ xs) ys zero low = refl
slice_get-append_left (x ∷ xs) ys (suc k) low = slice_get-append_left xs ys k (omega arith)

slice_get-append_right : {A : Type 0} (xs ys : List A) (k : ℕ) → slice_get (xs ++ ys) (length xs + k) ≡ slice_get ys k
slice_get-append_right [] ys k = let e : 0 + k ≡ k = omega arith in rw e refl
slice_get-append_right (x ∷ xs) ys k =
    let e : suc (length xs) + k ≡ suc (length xs + k) = omega arith in
    rw e (slice_get-append_right xs ys k)

reads_left : {A : Type 0} (f : ℕ → Option A) (n : ℕ) (xs ys : List A) → Reads f n (xs ++ ys) → Reads f n xs
reads_left f n xs ys h k low = h k (omega (arith, length-append xs ys)) ∙ slice_get-append_left xs ys k low

reads_right : {A : Type 0} (f : ℕ → Option A) (n count : ℕ) (xs ys : List A) → length xs ≡ count → Reads f n (xs ++ ys) → Reads f (n + count) ys
reads_right f n count xs ys size h k low =
    let e : n + count + k ≡ n + (length xs + k) = omega arith in
    rw e (h (length xs + k) (omega (arith, length-append xs ys)) ∙ slice_get-append_right xs ys k)

reads_tail : {A : Type 0} (f : ℕ → Option A) (n : ℕ) (x : A) (xs : List A) → Reads f n (x ∷ xs) → Reads f (n + 1) xs
reads_tail f n x xs h k low =
    let e : n + 1 + k ≡ n + suc k = omega arith in
    rw e (h (suc k) (omega arith))

reads_head : {A : Type 0} (f : ℕ → Option A) (n : ℕ) (x : A) (xs : List A) → Reads f n (x ∷ xs) → f n ≡ Some x
reads_head f n x xs h =
    let e : n + 0 ≡ n = omega arith in
    rw e at (h 0 (omega arith))

-- a tree whose lists a plan has from a node on occurs there
stands_read : (plan : Nodes) (tree : Tree) (n u : ℕ) (m : Move) → Reads plan.kind n (kinds_from n u tree) → Reads (λ k. Some (plan.after k)) n (moves_from n m tree) → Reads (λ i. Some (plan.node_of i)) u (leaf_nodes_from n tree) → OccursAt plan tree n u m
stands_read plan leaf n u m kinds moves places = (
  reads_head plan.kind n (LeafNode u) [] kinds,
  same_Some _ _ (reads_head (λ k. Some (plan.after k)) n m [] moves),
  same_Some _ _ (reads_head (λ i. Some (plan.node_of i)) u n [] places),
)
stands_read plan (seq a b) n u m kinds moves places =
    let more_kinds = reads_tail plan.kind n _ _ kinds in
    let more_moves = reads_tail (λ k. Some (plan.after k)) n _ _ moves in (
      reads_head plan.kind n _ _ kinds,
      same_Some _ _ (reads_head (λ k. Some (plan.after k)) n m _ moves),
      stands_read plan a (n + 1) u (OpenSecond n) (reads_left plan.kind (n + 1) _ _ more_kinds) (reads_left (λ k. Some (plan.after k)) (n + 1) _ _ more_moves) (reads_left (λ i. Some (plan.node_of i)) u _ _ places),
      stands_read plan b (n + 1 + node_count a) (u + leaves a) (FinishParent n)
          (reads_right plan.kind (n + 1) (node_count a) (kinds_from (n + 1) u a) _ (length-kinds_from a (n + 1) u) more_kinds)
          (reads_right (λ k. Some (plan.after k)) (n + 1) (node_count a) (moves_from (n + 1) (OpenSecond n) a) _ (length-moves_from a (n + 1) (OpenSecond n)) more_moves)
          (reads_right (λ i. Some (plan.node_of i)) u (leaves a) (leaf_nodes_from (n + 1) a) _ (length-leaf_nodes_from a (n + 1)) places),
    )
stands_read plan (par a b) n u m kinds moves places =
    let more_kinds = reads_tail plan.kind n _ _ kinds in
    let more_moves = reads_tail (λ k. Some (plan.after k)) n _ _ moves in (
      reads_head plan.kind n _ _ kinds,
      same_Some _ _ (reads_head (λ k. Some (plan.after k)) n m _ moves),
      stands_read plan a (n + 1) u (Arrive n) (reads_left plan.kind (n + 1) _ _ more_kinds) (reads_left (λ k. Some (plan.after k)) (n + 1) _ _ more_moves) (reads_left (λ i. Some (plan.node_of i)) u _ _ places),
      stands_read plan b (n + 1 + node_count a) (u + leaves a) (Arrive n)
          (reads_right plan.kind (n + 1) (node_count a) (kinds_from (n + 1) u a) _ (length-kinds_from a (n + 1) u) more_kinds)
          (reads_right (λ k. Some (plan.after k)) (n + 1) (node_count a) (moves_from (n + 1) (Arrive n) a) _ (length-moves_from a (n + 1) (Arrive n)) more_moves)
          (reads_right (λ i. Some (plan.node_of i)) u (leaves a) (leaf_nodes_from (n + 1) a) _ (length-leaf_nodes_from a (n + 1)) places),
    )

from_start : {A : Type 0} (xs : List A) → Reads (λ n. slice_get xs n) 0 xs
from_start xs k low = let e : 0 + k ≡ k = omega arith in rw e refl

from_start_or : {A : Type 0} (xs : List A) (d : A) → Reads (λ n. Some (get_or xs n d)) 0 xs
from_start_or xs d k low = let e : 0 + k ≡ k = omega arith in rw e (sym (slice_get-get_or xs k d low))

pub plan_of_tree : (tree : Tree) → IsPlanOf (nodes_of tree) tree
unfolding nodes_of
plan_of_tree tree = record {
  stands = stands_read (nodes_of tree) tree 0 0 Root (from_start (kinds_from 0 0 tree)) (from_start_or (moves_from 0 Root tree) Root) (from_start_or (leaf_nodes_from 0 tree) 0);
  count = refl;
  no_kind = λ n out. slice_get_past (kinds_from 0 0 tree) n (rw (length-kinds_from tree 0 0) out);
  no_move = λ n out. get_or_past (moves_from 0 Root tree) n Root (rw (length-moves_from tree 0 Root) out);
}

-- the kinds of a tree's nodes determine the tree
trees_of_kinds-kinds_from : (tree : Tree) (n u : ℕ) (more : List Kind) → trees_of_kinds (kinds_from n u tree ++ more) ≡ tree ∷ trees_of_kinds more
trees_of_kinds-kinds_from leaf n u more = refl
trees_of_kinds-kinds_from (seq a b) n u more =
    ap (λ (ks : List Kind). with_block seq (trees_of_kinds ks)) (append_assoc (kinds_from (n + 1) u a) (kinds_from (n + 1 + node_count a) (u + leaves a) b) more)
    ∙ ap (with_block seq) (trees_of_kinds-kinds_from a (n + 1) u (kinds_from (n + 1 + node_count a) (u + leaves a) b ++ more) ∙ ap (λ ts. a ∷ ts) (trees_of_kinds-kinds_from b (n + 1 + node_count a) (u + leaves a) more))
trees_of_kinds-kinds_from (par a b) n u more =
    ap (λ (ks : List Kind). with_block par (trees_of_kinds ks)) (append_assoc (kinds_from (n + 1) u a) (kinds_from (n + 1 + node_count a) (u + leaves a) b) more)
    ∙ ap (with_block par) (trees_of_kinds-kinds_from a (n + 1) u (kinds_from (n + 1 + node_count a) (u + leaves a) b ++ more) ∙ ap (λ ts. a ∷ ts) (trees_of_kinds-kinds_from b (n + 1 + node_count a) (u + leaves a) more))

pub tree_of_kinds-kinds_from : (tree : Tree) → tree_of_kinds (kinds_from 0 0 tree) ≡ tree
tree_of_kinds-kinds_from tree =
    ap (λ (ks : List Kind). top (trees_of_kinds ks)) (sym (append-nil (kinds_from 0 0 tree))) ∙ ap top (trees_of_kinds-kinds_from tree 0 0 [])
