-- Trees that occur in a plan.
use Rattle.std.proofs.Common.{◌≡◌, ℕ, ◌+◌, ◌<◌, ◌≤◌, ◌⊎◌, inl, inr, refl, arith}
use Rattle.std.proofs.lemmas.Bool.{cases_eq}
use Rattle.sp_order.specs.declared.node.Move.{Move}
use Rattle.sp_order.specs.declared.node.Move.TheVariants.{Root, OpenSecond, FinishParent, Arrive}
use Rattle.sp_order.specs.Precedence.{Tree, leaf, seq, par, leaves}
use Rattle.sp_order.specs.Plans.{Nodes, HasSide}
use Rattle.sp_order.specs.PlanOf.{OccursAt, node_count}

pub node_count_above_0 : (tree : Tree) → 0 < node_count tree
node_count_above_0 leaf = omega arith
node_count_above_0 _ = omega arith

pub top_after : (plan : Nodes) (tree : Tree) (n u : ℕ) (m : Move) → OccursAt plan tree n u m → plan.after n ≡ m
top_after plan leaf n u m h = h.1
top_after plan _ n u m h = h.1

-- a node of a block is its top, or in its left side, or in its right side
pub node_cases : (n a b k : ℕ) → n ≤ k → k < n + (a + b + 1) → (k ≡ n) ⊎ (((n + 1 ≤ k) × (k < n + 1 + a)) ⊎ ((n + 1 + a ≤ k) × (k < n + 1 + a + b)))
node_cases n a b k low high = grind arith

-- a tree occurs with its top at node `k`, and its nodes are below `most`; each node of a tree that occurs is such a top
pub record StandsAt (plan : Nodes) (k most : ℕ) : Type 0 where
  pub tree : Tree
  pub first : ℕ
  pub stands : OccursAt plan tree k first (plan.after k)
  pub ends : k + node_count tree ≤ most

with_after : (plan : Nodes) (tree : Tree) (n u : ℕ) (m : Move) → OccursAt plan tree n u m → OccursAt plan tree n u (plan.after n)
with_after plan leaf n u m h = (h.0, refl, h.2)
with_after plan _ n u m h = (h.0, refl, h.2, h.3)

within_more : (plan : Nodes) (k most more : ℕ) → most ≤ more → StandsAt plan k most → StandsAt plan k more
within_more plan k most more le h = record { tree = h.tree; first = h.first; stands = h.stands; ends = omega (arith, h.ends) }

stands_top : (plan : Nodes) (tree : Tree) (n u k : ℕ) (m : Move) → OccursAt plan tree n u m → k ≡ n → StandsAt plan k (n + node_count tree)
stands_top plan tree n u k m h e = rw e (record { tree = tree; first = u; stands = with_after plan tree n u m h; ends = omega arith })

pub stands_at : (plan : Nodes) (tree : Tree) (n u : ℕ) (m : Move) → OccursAt plan tree n u m → (k : ℕ) → n ≤ k → k < n + node_count tree → StandsAt plan k (n + node_count tree)
stands_at plan leaf n u m h k low high = stands_top plan leaf n u k m h (omega arith)
stands_at plan (seq a b) n u m h k low high = elim (node_cases n (node_count a) (node_count b) k low high) [
  | inl e ↦ stands_top plan (seq a b) n u k m h e
  | inr (inl i) ↦ within_more plan k _ _ (omega arith) (stands_at plan a (n + 1) u (OpenSecond n) h.2 k i.0 i.1)
  | inr (inr i) ↦ within_more plan k _ _ (omega arith) (stands_at plan b (n + 1 + node_count a) (u + leaves a) (FinishParent n) h.3 k i.0 i.1)
]
stands_at plan (par a b) n u m h k low high = elim (node_cases n (node_count a) (node_count b) k low high) [
  | inl e ↦ stands_top plan (par a b) n u k m h e
  | inr (inl i) ↦ within_more plan k _ _ (omega arith) (stands_at plan a (n + 1) u (Arrive n) h.2 k i.0 i.1)
  | inr (inr i) ↦ within_more plan k _ _ (omega arith) (stands_at plan b (n + 1 + node_count a) (u + leaves a) (Arrive n) h.3 k i.0 i.1)
]

-- what a node's move implies for its parent
abbrev pub HasParent : Nodes → Move → ℕ → Type 0
HasParent plan Root n = ⊥
HasParent plan (OpenSecond p) n = (p < n) × HasSide (plan.kind p) n
HasParent plan (FinishParent p) n = (p < n) × HasSide (plan.kind p) n
HasParent plan (Arrive p) n = (p < n) × HasSide (plan.kind p) n

-- each node of a tree that occurs, except its top, is a side of another one
pub has_parent : (plan : Nodes) (tree : Tree) (n u : ℕ) (m : Move) → OccursAt plan tree n u m → (k : ℕ) → n < k → k < n + node_count tree → HasParent plan (plan.after k) k
has_parent plan leaf n u m h k low high = absurd (omega arith)
has_parent plan (seq a b) n u m h k low high = elim (node_cases n (node_count a) (node_count b) k (omega arith) high) [
  | inl e ↦ absurd (omega arith)
  | inr (inl i) ↦ elim (cases_eq k (n + 1)) [
    | inl e ↦ rw (e, top_after plan a (n + 1) u (OpenSecond n) h.2, h.0) (omega arith, inl refl)
    | inr e ↦ has_parent plan a (n + 1) u (OpenSecond n) h.2 k (omega arith) i.1
  ]
  | inr (inr i) ↦ elim (cases_eq k (n + 1 + node_count a)) [
    | inl e ↦ rw (e, top_after plan b (n + 1 + node_count a) (u + leaves a) (FinishParent n) h.3, h.0) (omega arith, inr refl)
    | inr e ↦ has_parent plan b (n + 1 + node_count a) (u + leaves a) (FinishParent n) h.3 k (omega arith) i.1
  ]
]
has_parent plan (par a b) n u m h k low high = elim (node_cases n (node_count a) (node_count b) k (omega arith) high) [
  | inl e ↦ absurd (omega arith)
  | inr (inl i) ↦ elim (cases_eq k (n + 1)) [
    | inl e ↦ rw (e, top_after plan a (n + 1) u (Arrive n) h.2, h.0) (omega arith, inl refl)
    | inr e ↦ has_parent plan a (n + 1) u (Arrive n) h.2 k (omega arith) i.1
  ]
  | inr (inr i) ↦ elim (cases_eq k (n + 1 + node_count a)) [
    | inl e ↦ rw (e, top_after plan b (n + 1 + node_count a) (u + leaves a) (Arrive n) h.3, h.0) (omega arith, inr refl)
    | inr e ↦ has_parent plan b (n + 1 + node_count a) (u + leaves a) (Arrive n) h.3 k (omega arith) i.1
  ]
]
