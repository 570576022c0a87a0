-- The leaves of a plan have the numbers below the number of leaves.
use Rattle.std.proofs.Common.{ℕ, ◌≡◌, ◌≢◌, ◌<◌, ◌≤◌, ◌+◌, Option, Some, None, arith, refl, inl, inr, sym, ◌∙◌}
use Rattle.std.proofs.lemmas.Bool.{cases_eq, cases_lt}
use Rattle.core_model.proofs.Words.{Kind, LeafNode, SeqNode, ParNode, Move, Root, OpenSecond, FinishParent, Arrive, Tree, leaf, seq, par, leaves, Nodes, node_count, OccursAt, IsPlanOf}
use Rattle.core_model.specs.Ranges.{LeafIn}

-- the nodes of a tree that stands at a node hold leaves below a number
abbrev Below : Nodes → ℕ → ℕ → ℕ → Type 0
Below plan from past most = (n u : ℕ) → from ≤ n → n < past → plan.kind n ≡ Some (LeafNode u) → u < most

both_below : (plan : Nodes) (node mid past low most : ℕ) (kind : Kind) → plan.kind node ≡ Some kind → ((u : ℕ) → kind ≢ LeafNode u) → low ≤ most
    → Below plan (node + 1) mid low → Below plan mid past most → Below plan node past most
both_below plan node mid past low most kind is other le left right n u a b e = elim (cases_eq n node) [
  | inl same ↦ let k = rw (same, is) at e in absurd (other u (same_some kind (LeafNode u) k))
  | inr apart ↦ elim (cases_lt n mid) [
    | inl less ↦ let l = left n u (omega (arith, a, apart)) less e in omega (arith, l, le)
    | inr more ↦ right n u (omega (arith, more)) b e
  ]
]
  where
    same_some : (x y : Kind) → Some x ≡ Some y → x ≡ y
    same_some x y f = cc

stands_below : (plan : Nodes) (tree : Tree) (node first : ℕ) (after : Move) → OccursAt plan tree node first after → Below plan node (node + node_count tree) (first + leaves tree)
stands_below plan leaf node first after h n u a b e =
    let same : n ≡ node = omega (arith, a, b) in
    let k = rw (same, h.0) at e in let f : first ≡ u = cc in omega (arith, f)
stands_below plan (seq left right) node first after h n u a b e =
    let l = stands_below plan left (node + 1) first (OpenSecond node) h.2 in
    let r = stands_below plan right (node + 1 + node_count left) (first + leaves left) (FinishParent node) h.3 in
    let m = both_below plan node (node + 1 + node_count left) (node + 1 + node_count left + node_count right) (first + leaves left) (first + leaves left + leaves right)
    (SeqNode (node + 1) (node + 1 + node_count left)) h.0 (λ v f. cc) (omega arith) l r n u a (omega (arith, b)) e in omega (arith, m)
stands_below plan (par left right) node first after h n u a b e =
    let l = stands_below plan left (node + 1) first (Arrive node) h.2 in
    let r = stands_below plan right (node + 1 + node_count left) (first + leaves left) (Arrive node) h.3 in
    let m = both_below plan node (node + 1 + node_count left) (node + 1 + node_count left + node_count right) (first + leaves left) (first + leaves left + leaves right)
    (ParNode (node + 1) (node + 1 + node_count left)) h.0 (λ v f. cc) (omega arith) l r n u a (omega (arith, b)) e in omega (arith, m)

leaf_in_kind : (plan : Nodes) (tree : Tree) (n most : ℕ) → IsPlanOf plan tree → leaves tree ≡ most → (kind : Option Kind) → plan.kind n ≡ kind → LeafIn most kind
leaf_in_kind plan tree n most h len None e = record {}
leaf_in_kind plan tree n most h len (Some (LeafNode u)) e = elim (cases_lt n (node_count tree)) [
  | inl less ↦ let b = stands_below plan tree 0 0 Root h.stands n u (omega arith) (omega (arith, less)) e in omega (arith, b, len)
  | inr more ↦ let k = sym (h.no_kind n more) ∙ e in absurd (cc)
]
leaf_in_kind plan tree n most h len (Some (SeqNode l r)) e = record {}
leaf_in_kind plan tree n most h len (Some (ParNode l r)) e = record {}

pub leaves_in : (plan : Nodes) (tree : Tree) (most : ℕ) → IsPlanOf plan tree → leaves tree ≡ most → (n : ℕ) → LeafIn most (plan.kind n)
leaves_in plan tree most h len n = leaf_in_kind plan tree n most h len (plan.kind n) refl

-- a tree has no more leaves than nodes
pub leaves_few : (tree : Tree) → leaves tree ≤ node_count tree
leaves_few leaf = omega arith
leaves_few (seq left right) = let l = leaves_few left in let r = leaves_few right in omega (arith, l, r)
leaves_few (par left right) = let l = leaves_few left in let r = leaves_few right in omega (arith, l, r)
