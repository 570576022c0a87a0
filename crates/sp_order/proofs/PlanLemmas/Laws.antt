-- The local facts of a plan that stands for a tree.
use Rattle.std.proofs.Common.{Option, None, Some, ◌≡◌, ◌≢◌, ℕ, ◌+◌, ◌<◌, inl, inr, refl, sym, ap, ◌∙◌, arith}
use Rattle.std.proofs.lemmas.Bool.{cases_eq, cases_lt}
use Rattle.sp_order.specs.declared.node.Kind.{Kind}
use Rattle.sp_order.specs.declared.node.Kind.TheVariants.{LeafNode, SeqNode, ParNode}
use Rattle.sp_order.specs.declared.node.Move.{Move}
use Rattle.sp_order.specs.declared.node.Move.TheVariants.{Root, OpenSecond, FinishParent, Arrive}
use Rattle.sp_order.specs.Precedence.{Tree, leaf, seq, par, leaves}
use Rattle.sp_order.specs.Plans.{Nodes, parent_of, IsSide, HasSide, IsPlan}
use Rattle.sp_order.specs.PlanOf.{OccursAt, IsPlanOf, node_count}
use Rattle.sp_order.proofs.PlanLemmas.Occurrences.{node_count_above_0, top_after, StandsAt, stands_at, HasParent, has_parent}

-- what a node's kind implies for its sides, or for its leaf
abbrev FitsKind : Nodes → Option Kind → ℕ → Type 0
FitsKind plan None n = ⊥
FitsKind plan (Some (LeafNode u)) n = plan.node_of u ≡ n
FitsKind plan (Some (SeqNode l r)) n = (plan.after l ≡ OpenSecond n) × (plan.after r ≡ FinishParent n) × (l < r)
FitsKind plan (Some (ParNode l r)) n = (plan.after l ≡ Arrive n) × (plan.after r ≡ Arrive n) × (l < r)

fits_kind : (plan : Nodes) (tree : Tree) (n u : ℕ) (m : Move) → OccursAt plan tree n u m → FitsKind plan (plan.kind n) n
fits_kind plan leaf n u m h = rw h.0 h.2
fits_kind plan (seq a b) n u m h =
    rw h.0 (top_after plan a (n + 1) u (OpenSecond n) h.2, top_after plan b (n + 1 + node_count a) (u + leaves a) (FinishParent n) h.3, omega (arith, node_count_above_0 a))
fits_kind plan (par a b) n u m h =
    rw h.0 (top_after plan a (n + 1) u (Arrive n) h.2, top_after plan b (n + 1 + node_count a) (u + leaves a) (Arrive n) h.3, omega (arith, node_count_above_0 a))

fits_at : (plan : Nodes) (tree : Tree) → IsPlanOf plan tree → (n : ℕ) → n < node_count tree → FitsKind plan (plan.kind n) n
fits_at plan tree h n low =
    let at : StandsAt plan n (0 + node_count tree) = stands_at plan tree 0 0 Root h.stands n (omega arith) (omega arith) in
    fits_kind plan at.tree n at.first (plan.after n) at.stands

pub below_count : (plan : Nodes) (tree : Tree) → IsPlanOf plan tree → (n : ℕ) → plan.kind n ≢ None → n < node_count tree
below_count plan tree h n inside = elim (cases_lt n (node_count tree)) [
  | inl e ↦ e
  | inr e ↦ absurd (inside (h.no_kind n e))
]

kind_says : (plan : Nodes) (tree : Tree) → IsPlanOf plan tree → (n : ℕ) (k : Kind) → plan.kind n ≡ Some k → FitsKind plan (Some k) n
kind_says plan tree h n k e = rw e at (fits_at plan tree h n (below_count plan tree h n (λ f. cc)))

move_says : (plan : Nodes) (tree : Tree) → IsPlanOf plan tree → (n : ℕ) (m : Move) → plan.after n ≡ m → m ≢ Root → HasParent plan m n
move_says plan tree h n m e other = elim (cases_lt n (node_count tree)) [
  | inr f ↦ absurd (other (sym e ∙ h.no_move n f))
  | inl f ↦ elim (cases_eq n 0) [
    | inl g ↦ absurd (other (sym e ∙ (rw g (top_after plan tree 0 0 Root h.stands))))
    | inr g ↦ rw e at (has_parent plan tree 0 0 Root h.stands n (omega arith) (omega arith))
  ]
]

side_says : (plan : Nodes) (tree : Tree) → IsPlanOf plan tree → (p n : ℕ) (m : Move) → plan.after n ≡ m → parent_of m ≡ Some p → (p < n) × HasSide (plan.kind p) n
side_says plan tree h p n Root e f = cc
side_says plan tree h p n (OpenSecond q) e f = let g : q ≡ p = cc in rw g at (move_says plan tree h n (OpenSecond q) e (λ x. cc))
side_says plan tree h p n (FinishParent q) e f = let g : q ≡ p = cc in rw g at (move_says plan tree h n (FinishParent q) e (λ x. cc))
side_says plan tree h p n (Arrive q) e f = let g : q ≡ p = cc in rw g at (move_says plan tree h n (Arrive q) e (λ x. cc))

side_is_inside : (plan : Nodes) (tree : Tree) → IsPlanOf plan tree → (p n : ℕ) → IsSide plan p n → plan.kind n ≢ None
side_is_inside plan tree h p n side out = elim (cases_lt n (node_count tree)) [
  | inr f ↦ let g = ap parent_of (h.no_move n f) in cc
  | inl f ↦ rw out at (fits_at plan tree h n f)
]

pub plan_laws : (plan : Nodes) (tree : Tree) → IsPlanOf plan tree → IsPlan plan
plan_laws plan tree h = record {
  root = top_after plan tree 0 0 Root h.stands;
  one_root = λ n inside e. elim (cases_eq n 0) [
    | inl f ↦ f
    | inr f ↦ absurd (rw e at (has_parent plan tree 0 0 Root h.stands n (omega arith) (omega (arith, below_count plan tree h n inside))))
  ];
  left_of_seq = λ p l r e. (kind_says plan tree h p (SeqNode l r) e).0;
  right_of_seq = λ p l r e. (kind_says plan tree h p (SeqNode l r) e).1;
  left_of_par = λ p l r e. (kind_says plan tree h p (ParNode l r) e).0;
  right_of_par = λ p l r e. (kind_says plan tree h p (ParNode l r) e).1;
  apart = λ p l r e f. let d = kind_says plan tree h p (ParNode l r) e in omega arith;
  inside = λ p n side out. side_is_inside plan tree h p n side out;
  has_side = λ p n side. (side_says plan tree h p n (plan.after n) refl side).1;
  deeper = λ p n side. (side_says plan tree h p n (plan.after n) refl side).0;
  one_node = λ n u e. sym (kind_says plan tree h n (LeafNode u) e);
  within = λ n inside. rw h.count (below_count plan tree h n inside);
  outside = λ n out. h.no_kind n (rw h.count at out);
}

-- a tree that occurs at node 0 has a root
has_top : (plan : Nodes) (tree : Tree) → OccursAt plan tree 0 0 Root → plan.kind 0 ≢ None
has_top plan leaf h none = let e = h.0 in cc
has_top plan _ h none = let e = h.0 in cc

-- and so does a plan that stands for a tree
pub has_root : (plan : Nodes) (tree : Tree) → IsPlanOf plan tree → plan.kind 0 ≢ None
has_root plan tree h = has_top plan tree h.stands
