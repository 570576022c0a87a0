-- The climb from a leaf's node to the node where it parts from another leaf.
use Rattle.std.proofs.Common.{Option, None, Some, ◌≡◌, ℕ, ◌+◌, ◌<◌, ◌≤◌, ◌⊎◌, ◌↔◌, Bool, false, IsTrue, inl, inr, refl, ap, arith}
use Rattle.sp_order.specs.declared.node.Kind.{Kind}
use Rattle.sp_order.specs.declared.node.Kind.TheVariants.{LeafNode, SeqNode, ParNode}
use Rattle.sp_order.specs.declared.node.Move.TheVariants.{Root, OpenSecond, FinishParent, Arrive}
use Rattle.sp_order.specs.Precedence.{Tree, leaves, IsBeforeFrom}
use Rattle.sp_order.specs.Plans.{Nodes, parent_of, IsSide, HasSide, IsUnder, itself, one_below, IsPlan, IsBySeries}
use Rattle.sp_order.specs.PlanOf.{IsPlanOf, node_count}
use Rattle.sp_order.proofs.PlanLemmas.Laws.{plan_laws, below_count}
use Rattle.sp_order.proofs.PlanLemmas.Descents.{under_trans, under_le, leaf_at}
use Rattle.sp_order.proofs.PlanLemmas.BySeries.{SeriesAt, series_at, left_within, left_covers, before_by_series}

-- The last leaf's node is under this node. If a series has the first leaf's node under its left side and the last one's
-- under its right side, this node is still under that right side.
pub record Climbs (plan : Nodes) (first last node : ℕ) : Type 0 where
  pub inside : node < plan.count
  pub above : IsUnder plan node last
  pub right : (s : IsBySeries plan first last) → IsUnder plan s.right node

pub climb_from : (plan : Nodes) (tree : Tree) → IsPlanOf plan tree → (first v : ℕ) → v < leaves tree → Climbs plan first (plan.node_of v) (plan.node_of v)
climb_from plan tree h first v low = record {
  inside = omega (arith, h.count, leaf_at plan tree 0 0 Root h.stands v (omega arith) (omega arith));
  above = itself;
  right = λ s. s.under_right;
}

series_of : (plan : Nodes) (tree : Tree) → IsPlanOf plan tree → (p l r : ℕ) → plan.kind p ≡ Some (SeqNode l r) → SeriesAt plan p l r (0 + node_count tree)
series_of plan tree h p l r series =
    series_at plan tree 0 0 Root h.stands p l r (omega arith) (omega (arith, below_count plan tree h p (λ none. cc))) series

-- the first leaf's node has a number between those of the series that has it under its left side, and of the right side
first_within : (plan : Nodes) (tree : Tree) → IsPlanOf plan tree → (first last : ℕ) → (s : IsBySeries plan first last) → (s.parent < first) × (first < s.right)
first_within plan tree h first last s =
    left_within plan (plan_laws plan tree h) s.parent s.left s.right (0 + node_count tree) (series_of plan tree h s.parent s.left s.right s.series) first s.under_left

under_parent : (plan : Nodes) (top node parent : ℕ) → IsUnder plan top node → IsSide plan parent node → (top ≡ node) ⊎ IsUnder plan top parent
under_parent plan top node parent itself side = inl refl
under_parent plan top node parent (one_below {parent = other} under other_side) side = let e : other ≡ parent = cc in inr (rw e at under)

under_root : (plan : Nodes) (top node : ℕ) → IsUnder plan top node → parent_of (plan.after node) ≡ None → top ≡ node
under_root plan top node itself none = refl
under_root plan top node (one_below {parent = other} under side) none = cc

pub climb_on : (plan : Nodes) (tree : Tree) → IsPlanOf plan tree → (first last node parent : ℕ) → Climbs plan first last node → IsSide plan parent node → first ≤ parent → Climbs plan first last parent
climb_on plan tree h first last node parent climbs side low =
    let laws : IsPlan plan = plan_laws plan tree h in
    record {
      inside = omega (arith, laws.deeper parent node side, climbs.inside);
      above = under_trans (one_below itself side) climbs.above;
      right = λ s. elim (under_parent plan s.right node parent (climbs.right s) side) [
        | inr under ↦ under
        | inl e ↦
            let f = ap parent_of (laws.right_of_seq s.parent s.left s.right s.series) in
            let g : parent_of (plan.after node) ≡ Some s.parent = rw e at f in
            let same : s.parent ≡ parent = cc in
            absurd (omega (arith, (first_within plan tree h first last s).0))
      ];
    }

-- no series has the two under its sides once the climb is at the first leaf's node or before it
pub climbed_past : (plan : Nodes) (tree : Tree) → IsPlanOf plan tree → (first last node : ℕ) → Climbs plan first last node → node ≤ first → IsBySeries plan first last → ⊥
climbed_past plan tree h first last node climbs low s =
    absurd (omega (arith, under_le plan (plan_laws plan tree h) s.right node (climbs.right s), (first_within plan tree h first last s).1))

-- nor once the climb is at the root
pub climbed_out : (plan : Nodes) (tree : Tree) → IsPlanOf plan tree → (first last node : ℕ) → Climbs plan first last node → parent_of (plan.after node) ≡ None → IsBySeries plan first last → ⊥
climbed_out plan tree h first last node climbs none s =
    let e = under_root plan s.right node (climbs.right s) none in
    let f = ap parent_of ((plan_laws plan tree h).right_of_seq s.parent s.left s.right s.series) in
    let g : parent_of (plan.after node) ≡ Some s.parent = rw e at f in
    cc

-- a node whose move finishes its parent is the right side of a series
right_side : (plan : Nodes) → IsPlan plan → (parent node : ℕ) (kind : Option Kind) → plan.kind parent ≡ kind → HasSide kind node → plan.after node ≡ FinishParent parent → (left : ℕ) × (plan.kind parent ≡ Some (SeqNode left node))
right_side plan laws parent node None is side after = absurd side
right_side plan laws parent node (Some (LeafNode u)) is side after = absurd side
right_side plan laws parent node (Some (SeqNode l r)) is (inl e) after =
    let f = laws.left_of_seq parent l r is in
    let g : plan.after node ≡ OpenSecond parent = rw e f in
    cc
right_side plan laws parent node (Some (SeqNode l r)) is (inr e) after = (l, rw e is)
right_side plan laws parent node (Some (ParNode l r)) is (inl e) after =
    let f = laws.left_of_par parent l r is in
    let g : plan.after node ≡ Arrive parent = rw e f in
    cc
right_side plan laws parent node (Some (ParNode l r)) is (inr e) after =
    let f = laws.right_of_par parent l r is in
    let g : plan.after node ≡ Arrive parent = rw e f in
    cc

-- a parent numbered before the first leaf's node is where the two leaves part
pub parted : (plan : Nodes) (tree : Tree) → IsPlanOf plan tree → (first last node parent : ℕ) → Climbs plan first last node → first < node → IsSide plan parent node → parent < first → (plan.after node ≡ FinishParent parent) ↔ IsBySeries plan first last
parted plan tree h first last node parent climbs high side low =
    let laws : IsPlan plan = plan_laws plan tree h in (
      λ after.
          let of_series = right_side plan laws parent node (plan.kind parent) refl (laws.has_side parent node side) after in
          record {
            parent = parent;
            left = of_series.0;
            right = node;
            series = of_series.1;
            under_left = left_covers plan parent of_series.0 node (0 + node_count tree) (series_of plan tree h parent of_series.0 node of_series.1) first low high;
            under_right = climbs.above;
          },
      λ s. elim (under_parent plan s.right node parent (climbs.right s) side) [
        | inl e ↦
            let f = laws.right_of_seq s.parent s.left s.right s.series in
            let g : plan.after node ≡ FinishParent s.parent = rw e at f in
            let i = ap parent_of g in
            let same : s.parent ≡ parent = cc in
            rw same at g
        | inr under ↦ absurd (omega (arith, under_le plan laws s.right parent under, (first_within plan tree h first last s).1))
      ],
    )

-- a decision of whether such a series exists also decides whether leaf `u` is before leaf `v`
pub by_climb : (plan : Nodes) (tree : Tree) → IsPlanOf plan tree → (u v : ℕ) → u < leaves tree → v < leaves tree → (first : ℕ) → first ≡ plan.node_of u → (answer : Bool) → (IsTrue answer ↔ IsBySeries plan first (plan.node_of v)) → IsTrue answer ↔ IsBeforeFrom 0 tree u v
by_climb plan tree h u v of_u of_v first is answer decides =
    let by_series = before_by_series plan tree h u v of_u of_v in
    let here : IsTrue answer ↔ IsBySeries plan (plan.node_of u) (plan.node_of v) = rw is at decides in
    (λ yes. by_series.1 (here.0 yes), λ before. here.1 (by_series.0 before))

pub never : {P : Type 0} → (P → ⊥) → IsTrue false ↔ P
never none = (λ yes. cc, λ p. absurd (none p))
