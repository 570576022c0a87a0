-- A leaf is before another one if and only if some series has the first under its left side and the second under its
-- right side.
use Rattle.std.proofs.Common.{Some, ◌≡◌, ℕ, ◌+◌, ◌<◌, ◌≤◌, ◌↔◌, inl, inr, refl, arith}
use Rattle.std.proofs.lemmas.Bool.{cases_lt}
use Rattle.sp_order.specs.declared.node.Kind.TheVariants.{SeqNode}
use Rattle.sp_order.specs.declared.node.Move.{Move}
use Rattle.sp_order.specs.declared.node.Move.TheVariants.{Root, OpenSecond, FinishParent, Arrive}
use Rattle.sp_order.specs.Precedence.{Tree, leaf, seq, par, leaves, IsLeafOf, IsBeforeFrom}
use Rattle.sp_order.specs.Plans.{Nodes, IsUnder, IsPlan, IsBySeries}
use Rattle.sp_order.specs.PlanOf.{OccursAt, IsPlanOf, node_count}
use Rattle.sp_order.proofs.PlanLemmas.Occurrences.{node_cases, StandsAt, stands_at}
use Rattle.sp_order.proofs.PlanLemmas.Laws.{plan_laws, below_count}
use Rattle.sp_order.proofs.PlanLemmas.Descents.{covers, stays, leaf_at}

-- `p` is a series node with the sides `l` and `r`, whose nodes end before `most`
pub record SeriesAt (plan : Nodes) (p l r most : ℕ) : Type 0 where
  pub left : Tree
  pub right : Tree
  pub first : ℕ
  pub left_is : l ≡ p + 1
  pub right_is : r ≡ l + node_count left
  pub stands_left : OccursAt plan left l first (OpenSecond p)
  pub stands_right : OccursAt plan right r (first + leaves left) (FinishParent p)
  pub ends : r + node_count right ≤ most

top_series : (plan : Nodes) (tree : Tree) (p u most : ℕ) (m : Move) → OccursAt plan tree p u m → p + node_count tree ≤ most → (l r : ℕ) → plan.kind p ≡ Some (SeqNode l r) → SeriesAt plan p l r most
top_series plan (seq a b) p u most m h ends l r series =
    let e = h.0 in
    let f : l ≡ p + 1 = cc in
    let g : r ≡ p + 1 + node_count a = cc in
    rw (f, g) (record {
      left = a;
      right = b;
      first = u;
      left_is = refl;
      right_is = refl;
      stands_left = h.2;
      stands_right = h.3;
      ends = omega arith;
    })
top_series plan _ p u most m h ends l r series = let e = h.0 in cc

pub series_at : (plan : Nodes) (tree : Tree) (n u : ℕ) (m : Move) → OccursAt plan tree n u m → (p l r : ℕ) → n ≤ p → p < n + node_count tree → plan.kind p ≡ Some (SeqNode l r) → SeriesAt plan p l r (n + node_count tree)
series_at plan tree n u m h p l r low high series =
    let at : StandsAt plan p (n + node_count tree) = stands_at plan tree n u m h p low high in
    top_series plan at.tree p at.first (n + node_count tree) (plan.after p) at.stands at.ends l r series

-- whatever is under the left side of a series has a number between those of the series and of its right side
pub left_within : (plan : Nodes) → IsPlan plan → (p l r most : ℕ) → SeriesAt plan p l r most → (k : ℕ) → IsUnder plan l k → (p < k) × (k < r)
left_within plan laws p l r most at k under =
    let inside = stays plan laws at.left l at.first (OpenSecond p) at.stands_left k under in
    (omega (arith, at.left_is), omega (arith, at.right_is))

pub right_within : (plan : Nodes) → IsPlan plan → (p l r most : ℕ) → SeriesAt plan p l r most → (k : ℕ) → IsUnder plan r k → (r ≤ k) × (k < most)
right_within plan laws p l r most at k under =
    let inside = stays plan laws at.right r (at.first + leaves at.left) (FinishParent p) at.stands_right k under in
    (inside.0, omega (arith, at.ends))

-- the nodes numbered between a series and its right side are under its left side
pub left_covers : (plan : Nodes) (p l r most : ℕ) → SeriesAt plan p l r most → (k : ℕ) → p < k → k < r → IsUnder plan l k
left_covers plan p l r most at k low high =
    covers plan at.left l at.first (OpenSecond p) at.stands_left k (omega (arith, at.left_is)) (omega (arith, at.right_is))

pub series_from_before : (plan : Nodes) (tree : Tree) (n u : ℕ) (m : Move) → OccursAt plan tree n u m → (i j : ℕ) → IsBeforeFrom u tree i j → IsBySeries plan (plan.node_of i) (plan.node_of j)
series_from_before plan leaf n u m h i j before = absurd before
series_from_before plan (par a b) n u m h i j (inl k) = series_from_before plan a (n + 1) u (Arrive n) h.2 i j k
series_from_before plan (par a b) n u m h i j (inr k) = series_from_before plan b (n + 1 + node_count a) (u + leaves a) (Arrive n) h.3 i j k
series_from_before plan (seq a b) n u m h i j (inl k) = series_from_before plan a (n + 1) u (OpenSecond n) h.2 i j k
series_from_before plan (seq a b) n u m h i j (inr (inl k)) = series_from_before plan b (n + 1 + node_count a) (u + leaves a) (FinishParent n) h.3 i j k
series_from_before plan (seq a b) n u m h i j (inr (inr k)) =
    let at_i = leaf_at plan a (n + 1) u (OpenSecond n) h.2 i k.0.0 k.0.1 in
    let at_j = leaf_at plan b (n + 1 + node_count a) (u + leaves a) (FinishParent n) h.3 j k.1.0 k.1.1 in
    record {
      parent = n;
      left = n + 1;
      right = n + 1 + node_count a;
      series = h.0;
      under_left = covers plan a (n + 1) u (OpenSecond n) h.2 (plan.node_of i) at_i.1 at_i.2;
      under_right = covers plan b (n + 1 + node_count a) (u + leaves a) (FinishParent n) h.3 (plan.node_of j) at_j.1 at_j.2;
    }

-- a leaf numbered below the end of the tree's leaves, whose node is before the tree, is before those leaves; and
-- likewise after them
leaf_below : (plan : Nodes) (tree : Tree) (n u : ℕ) (m : Move) → OccursAt plan tree n u m → (i : ℕ) → i < u + leaves tree → plan.node_of i < n → i < u
leaf_below plan tree n u m h i high low = elim (cases_lt i u) [
  | inl e ↦ e
  | inr e ↦ absurd (omega (arith, (leaf_at plan tree n u m h i e high).1))
]

leaf_above : (plan : Nodes) (tree : Tree) (n u : ℕ) (m : Move) → OccursAt plan tree n u m → (i : ℕ) → u ≤ i → n + node_count tree ≤ plan.node_of i → u + leaves tree ≤ i
leaf_above plan tree n u m h i low high = elim (cases_lt i (u + leaves tree)) [
  | inr e ↦ e
  | inl e ↦ absurd (omega (arith, (leaf_at plan tree n u m h i low e).2))
]

pub before_from_series : (plan : Nodes) → IsPlan plan → (tree : Tree) (n u : ℕ) (m : Move) → OccursAt plan tree n u m → (i j : ℕ) → IsLeafOf tree u i → IsLeafOf tree u j → (s : IsBySeries plan (plan.node_of i) (plan.node_of j)) → n ≤ s.parent → s.parent < n + node_count tree → IsBeforeFrom u tree i j
before_from_series plan laws leaf n u m h i j of_i of_j s low high =
    let e : s.parent ≡ n = omega arith in
    let f = rw e at s.series in
    let g = h.0 in
    cc
before_from_series plan laws (seq a b) n u m h i j of_i of_j s low high =
    elim (node_cases n (node_count a) (node_count b) s.parent low high) [
      | inl e ↦
          let at : SeriesAt plan s.parent s.left s.right (n + node_count (seq a b)) = series_at plan (seq a b) n u m h s.parent s.left s.right low high s.series in
          let in_left = left_within plan laws s.parent s.left s.right _ at (plan.node_of i) s.under_left in
          let in_right = right_within plan laws s.parent s.left s.right _ at (plan.node_of j) s.under_right in
          let f = rw e at s.series in
          let g = h.0 in
          let right_is : s.right ≡ n + 1 + node_count a = cc in
          inr (inr (
            (of_i.0, leaf_below plan b (n + 1 + node_count a) (u + leaves a) (FinishParent n) h.3 i (omega (arith, of_i.1)) (omega arith)),
            (leaf_above plan a (n + 1) u (OpenSecond n) h.2 j of_j.0 (omega arith), omega (arith, of_j.1)),
          ))
      | inr (inl k) ↦
          let at : SeriesAt plan s.parent s.left s.right (n + 1 + node_count a) = series_at plan a (n + 1) u (OpenSecond n) h.2 s.parent s.left s.right k.0 k.1 s.series in
          let in_left = left_within plan laws s.parent s.left s.right _ at (plan.node_of i) s.under_left in
          let in_right = right_within plan laws s.parent s.left s.right _ at (plan.node_of j) s.under_right in
          inl (before_from_series plan laws a (n + 1) u (OpenSecond n) h.2 i j
          (of_i.0, leaf_below plan b (n + 1 + node_count a) (u + leaves a) (FinishParent n) h.3 i (omega (arith, of_i.1)) (omega (arith, at.ends)))
          (of_j.0, leaf_below plan b (n + 1 + node_count a) (u + leaves a) (FinishParent n) h.3 j (omega (arith, of_j.1)) (omega arith)) s k.0 k.1)
      | inr (inr k) ↦
          let at : SeriesAt plan s.parent s.left s.right (n + 1 + node_count a + node_count b) = series_at plan b (n + 1 + node_count a) (u + leaves a) (FinishParent n) h.3 s.parent s.left s.right k.0 k.1 s.series in
          let in_left = left_within plan laws s.parent s.left s.right _ at (plan.node_of i) s.under_left in
          let in_right = right_within plan laws s.parent s.left s.right _ at (plan.node_of j) s.under_right in
          inr (inl (before_from_series plan laws b (n + 1 + node_count a) (u + leaves a) (FinishParent n) h.3 i j
          (leaf_above plan a (n + 1) u (OpenSecond n) h.2 i of_i.0 (omega arith), omega (arith, of_i.1))
          (leaf_above plan a (n + 1) u (OpenSecond n) h.2 j of_j.0 (omega arith), omega (arith, of_j.1)) s k.0 k.1))
    ]
before_from_series plan laws (par a b) n u m h i j of_i of_j s low high =
    elim (node_cases n (node_count a) (node_count b) s.parent low high) [
      | inl e ↦
          let f = rw e at s.series in
          let g = h.0 in
          cc
      | inr (inl k) ↦
          let at : SeriesAt plan s.parent s.left s.right (n + 1 + node_count a) = series_at plan a (n + 1) u (Arrive n) h.2 s.parent s.left s.right k.0 k.1 s.series in
          let in_left = left_within plan laws s.parent s.left s.right _ at (plan.node_of i) s.under_left in
          let in_right = right_within plan laws s.parent s.left s.right _ at (plan.node_of j) s.under_right in
          inl (before_from_series plan laws a (n + 1) u (Arrive n) h.2 i j
          (of_i.0, leaf_below plan b (n + 1 + node_count a) (u + leaves a) (Arrive n) h.3 i (omega (arith, of_i.1)) (omega (arith, at.ends)))
          (of_j.0, leaf_below plan b (n + 1 + node_count a) (u + leaves a) (Arrive n) h.3 j (omega (arith, of_j.1)) (omega arith)) s k.0 k.1)
      | inr (inr k) ↦
          let at : SeriesAt plan s.parent s.left s.right (n + 1 + node_count a + node_count b) = series_at plan b (n + 1 + node_count a) (u + leaves a) (Arrive n) h.3 s.parent s.left s.right k.0 k.1 s.series in
          let in_left = left_within plan laws s.parent s.left s.right _ at (plan.node_of i) s.under_left in
          let in_right = right_within plan laws s.parent s.left s.right _ at (plan.node_of j) s.under_right in
          inr (before_from_series plan laws b (n + 1 + node_count a) (u + leaves a) (Arrive n) h.3 i j
          (leaf_above plan a (n + 1) u (Arrive n) h.2 i of_i.0 (omega arith), omega (arith, of_i.1))
          (leaf_above plan a (n + 1) u (Arrive n) h.2 j of_j.0 (omega arith), omega (arith, of_j.1)) s k.0 k.1)
    ]

pub before_by_series : (plan : Nodes) (tree : Tree) → IsPlanOf plan tree → (i j : ℕ) → i < leaves tree → j < leaves tree → IsBeforeFrom 0 tree i j ↔ IsBySeries plan (plan.node_of i) (plan.node_of j)
before_by_series plan tree h i j of_i of_j = (
  series_from_before plan tree 0 0 Root h.stands i j,
  λ s. before_from_series plan (plan_laws plan tree h) tree 0 0 Root h.stands i j (omega arith, omega arith) (omega arith, omega arith) s (omega arith)
      (omega (arith, below_count plan tree h s.parent (λ none. let series = s.series in cc))),
)
