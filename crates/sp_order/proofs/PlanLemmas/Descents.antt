-- Which nodes are under which, in a tree that occurs in a plan: the nodes under a node are an interval of numbers.
use Rattle.std.proofs.Common.{Some, ◌≡◌, ℕ, ◌+◌, ◌<◌, ◌≤◌, ◌⊎◌, inl, inr, ap, arith}
use Rattle.std.proofs.lemmas.Bool.{cases_lt}
use Rattle.sp_order.specs.declared.node.Kind.TheVariants.{LeafNode}
use Rattle.sp_order.specs.declared.node.Move.{Move}
use Rattle.sp_order.specs.declared.node.Move.TheVariants.{OpenSecond, FinishParent, Arrive}
use Rattle.sp_order.specs.Precedence.{Tree, leaf, seq, par, leaves}
use Rattle.sp_order.specs.Plans.{Nodes, parent_of, HasSide, IsUnder, itself, one_below, IsPlan}
use Rattle.sp_order.specs.PlanOf.{OccursAt, node_count}
use Rattle.sp_order.proofs.PlanLemmas.Occurrences.{node_count_above_0, top_after, node_cases, StandsAt, stands_at}

pub under_trans : {plan : Nodes} {a b c : ℕ} → IsUnder plan a b → IsUnder plan b c → IsUnder plan a c
under_trans u itself = u
under_trans u (one_below v side) = one_below (under_trans u v) side

pub under_le : (plan : Nodes) → IsPlan plan → (a b : ℕ) → IsUnder plan a b → a ≤ b
under_le plan laws a b itself = omega arith
under_le plan laws a b (one_below {top} {parent} {node} v side) = omega (arith, under_le plan laws a parent v, laws.deeper parent b side)

-- the nodes of a tree that occurs are under its top
pub covers : (plan : Nodes) (tree : Tree) (n u : ℕ) (m : Move) → OccursAt plan tree n u m → (k : ℕ) → n ≤ k → k < n + node_count tree → IsUnder plan n k
covers plan leaf n u m h k low high = let e : k ≡ n = omega arith in rw e itself
covers plan (seq a b) n u m h k low high = elim (node_cases n (node_count a) (node_count b) k low high) [
  | inl e ↦ rw e itself
  | inr (inl i) ↦
      under_trans (one_below itself (ap parent_of (top_after plan a (n + 1) u (OpenSecond n) h.2)))
      (covers plan a (n + 1) u (OpenSecond n) h.2 k i.0 i.1)
  | inr (inr i) ↦
      under_trans (one_below itself (ap parent_of (top_after plan b (n + 1 + node_count a) (u + leaves a) (FinishParent n) h.3)))
      (covers plan b (n + 1 + node_count a) (u + leaves a) (FinishParent n) h.3 k i.0 i.1)
]
covers plan (par a b) n u m h k low high = elim (node_cases n (node_count a) (node_count b) k low high) [
  | inl e ↦ rw e itself
  | inr (inl i) ↦
      under_trans (one_below itself (ap parent_of (top_after plan a (n + 1) u (Arrive n) h.2)))
      (covers plan a (n + 1) u (Arrive n) h.2 k i.0 i.1)
  | inr (inr i) ↦
      under_trans (one_below itself (ap parent_of (top_after plan b (n + 1 + node_count a) (u + leaves a) (Arrive n) h.3)))
      (covers plan b (n + 1 + node_count a) (u + leaves a) (Arrive n) h.3 k i.0 i.1)
]

-- the sides of the top of a tree that occurs are nodes of it
sides_within : (plan : Nodes) (tree : Tree) (n u : ℕ) (m : Move) → OccursAt plan tree n u m → (k : ℕ) → HasSide (plan.kind n) k → (n < k) × (k < n + node_count tree)
sides_within plan leaf n u m h k side = absurd (rw h.0 at side)
sides_within plan (seq a b) n u m h k side =
    let which : (k ≡ n + 1) ⊎ (k ≡ n + 1 + node_count a) = rw h.0 at side in
    elim which [
      | inl e ↦ (omega arith, omega (arith, node_count_above_0 a))
      | inr e ↦ (omega arith, omega (arith, node_count_above_0 b))
    ]
sides_within plan (par a b) n u m h k side =
    let which : (k ≡ n + 1) ⊎ (k ≡ n + 1 + node_count a) = rw h.0 at side in
    elim which [
      | inl e ↦ (omega arith, omega (arith, node_count_above_0 a))
      | inr e ↦ (omega arith, omega (arith, node_count_above_0 b))
    ]

-- whatever is under the top of a tree that occurs is a node of it
pub stays : (plan : Nodes) → IsPlan plan → (tree : Tree) (n u : ℕ) (m : Move) → OccursAt plan tree n u m → (k : ℕ) → IsUnder plan n k → (n ≤ k) × (k < n + node_count tree)
stays plan laws tree n u m h k itself = (omega arith, omega (arith, node_count_above_0 tree))
stays plan laws tree n u m h k (one_below {top} {parent} {node} v side) =
    let above = stays plan laws tree n u m h parent v in
    let at : StandsAt plan parent (n + node_count tree) = stands_at plan tree n u m h parent above.0 above.1 in
    let within = sides_within plan at.tree parent at.first (plan.after parent) at.stands k (laws.has_side parent k side) in
    (omega arith, omega (arith, at.ends))

-- the node of each leaf number is a leaf node with this number, inside the tree
pub leaf_at : (plan : Nodes) (tree : Tree) (n u : ℕ) (m : Move) → OccursAt plan tree n u m → (i : ℕ) → u ≤ i → i < u + leaves tree → (plan.kind (plan.node_of i) ≡ Some (LeafNode i)) × (n ≤ plan.node_of i) × (plan.node_of i < n + node_count tree)
leaf_at plan leaf n u m h i low high =
    let e : i ≡ u = omega arith in
    rw (e, h.2) (h.0, omega arith, omega arith)
leaf_at plan (seq a b) n u m h i low high = elim (cases_lt i (u + leaves a)) [
  | inl e ↦ let r = leaf_at plan a (n + 1) u (OpenSecond n) h.2 i low e in (r.0, omega arith, omega arith)
  | inr e ↦ let r = leaf_at plan b (n + 1 + node_count a) (u + leaves a) (FinishParent n) h.3 i e (omega arith) in (r.0, omega arith, omega arith)
]
leaf_at plan (par a b) n u m h i low high = elim (cases_lt i (u + leaves a)) [
  | inl e ↦ let r = leaf_at plan a (n + 1) u (Arrive n) h.2 i low e in (r.0, omega arith, omega arith)
  | inr e ↦ let r = leaf_at plan b (n + 1 + node_count a) (u + leaves a) (Arrive n) h.3 i e (omega arith) in (r.0, omega arith, omega arith)
]
