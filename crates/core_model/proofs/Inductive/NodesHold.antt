-- The inductive invariant of the nodes and the tasks implies what the invariant says of them.
use Rattle.std.proofs.Common.{ℕ, ◌≡◌, ◌≢◌, ◌⊎◌, Bool, true, false, Option, Some, None, arith, refl, inl, inr}
use Rattle.core_model.specs.Invariant.Nodes.{NodesInvariant}
use Rattle.core_model.specs.Invariant.Tasks.{IsNamed, IsCount, IsPassed, TasksInvariant}
use Rattle.core_model.proofs.Words.{LeafNode, SeqNode, Nodes, IsSide, IsUnder, Progress, Waiting, Ready, Taken, Task, Whole, is_done, names}
use Rattle.sp_order.specs.Plans.{itself, one_below}
use Rattle.core_model.specs.Invariant.Tasks.{TaskFits}
use Rattle.core_model.proofs.Inductive.Nodes.{InductiveNodes, passed_if, LeftAlone, InductiveTasks}
use Rattle.core_model.proofs.InvariantLemmas.TickSteps.{under_done}

-- what is under a waiting node waits
waiting_under : {plan : Nodes} {a n : ℕ} (node : ℕ → Progress) → InductiveNodes plan node → IsUnder plan a n → node a ≡ Waiting → node n ≡ Waiting
waiting_under node h itself e = e
waiting_under node h (one_below {top = a} {parent = p} {node = n} u side) e = h.below_waiting p n side (waiting_under node h u e)

-- the sides of a node that is waiting or ready wait
first_waits : (plan : Nodes) (node : ℕ → Progress) (p side : ℕ) → InductiveNodes plan node → IsSide plan p side → (node p ≡ Waiting) ⊎ (node p ≡ Ready) → node side ≡ Waiting
first_waits plan node p side h is (inl e) = h.below_waiting p side is e
first_waits plan node p side h is (inr e) = h.below_ready p side is e

-- the nodes
pub nodes_stand : (plan : Nodes) (node : ℕ → Progress) → InductiveNodes plan node → NodesInvariant plan node
nodes_stand plan node h = record {
  root = h.root;
  before_run = λ p n below early. waiting_under node h below.2 (first_waits plan node p below.0 h below.1 early);
  second = h.second;
  below_done = λ p n below done. under_done node h below.2 (h.below_done p below.0 below.1 done);
  leaf_ran = λ n leaf. h.leaf_ran n leaf.0 leaf.1;
  ran_leaf = h.ran_leaf;
  outside = h.outside;
}

-- of a done node a task can only be whole
whole_of : (plan : Nodes) (node : ℕ → Progress) (mark : ℕ → ℕ) (t : Task) (n : ℕ) → TaskFits plan node mark t → names t ≡ Some n → is_done (node n) ≡ true → t ≡ Whole n
whole_of plan node mark t n fits name done = grind arith

module _ (plan : Nodes) (node : ℕ → Progress) (mark : ℕ → ℕ) (task : ℕ → Task) (holder : ℕ → Option ℕ) (h : InductiveTasks plan node mark task holder) where
  -- a node that no task names has no holder
  free_if : (n : ℕ) → (IsNamed task n → ⊥) → holder n ≡ None
  free_if n none = elim (holder n) as (λ o. holder n ≡ o → holder n ≡ None) [
    | None ↦ λ e. e
    | Some w ↦ λ e. absurd (none (w, h.holders.holds w n e))
  ] refl

  -- a taken leaf is named
  taken_leaf : (n leaf : ℕ) → plan.kind n ≡ Some (LeafNode leaf) → node n ≡ Taken → IsNamed task n
  taken_leaf n leaf kind taken = elim (holder n) as (λ o. holder n ≡ o → IsNamed task n) [
    | None ↦ λ e. let alone : LeftAlone (Some (LeafNode leaf)) node mark holder n = rw kind at (h.alone n taken e) in absurd alone
    | Some w ↦ λ e. (w, h.holders.holds w n e)
  ] refl

  -- the holder of a done node is whole of it
  whole_by : (w n : ℕ) → holder n ≡ Some w → is_done (node n) ≡ true → task w ≡ Whole n
  whole_by w n e done = whole_of plan node mark (task w) n (h.fits w) (h.holders.holds w n e) done

  -- the left side of a series is done
  left_done : (l r : ℕ) → is_done (node l) ≡ true → (holder l ≡ None → node r ≢ Waiting) → ((w : ℕ) × (task w ≡ Whole l)) ⊎ (node r ≢ Waiting)
  left_done l r done free = elim (holder l) as (λ o. holder l ≡ o → ((w : ℕ) × (task w ≡ Whole l)) ⊎ (node r ≢ Waiting)) [
    | None ↦ λ e. inr (free e)
    | Some w ↦ λ e. inl (w, whole_by w l e done)
  ] refl

  -- the right side of a series is done
  right_done : (r : ℕ) → is_done (node r) ≡ true → holder r ≢ None → (w : ℕ) × (task w ≡ Whole r)
  right_done r done held = elim (holder r) as (λ o. holder r ≡ o → (w : ℕ) × (task w ≡ Whole r)) [
    | None ↦ λ e. absurd (held e)
    | Some w ↦ λ e. (w, whole_by w r e done)
  ] refl

  -- a side counts if it is done and has no holder
  counts : (n : ℕ) (b : Bool) (o : Option ℕ) → is_done (node n) ≡ b → holder n ≡ o → IsCount (IsPassed node task n) (passed_if b o)
  counts n false o done held = inr ((λ p. let e = p.0 in cc), refl)
  counts n true None done held = inl ((done, (λ p. let e = h.holders.named p.0 n p.1 in cc)), refl)
  counts n true (Some w) done held = inr ((λ p. p.1 (w, h.holders.holds w n held)), refl)

  -- the tasks
  pub tasks_stand : TasksInvariant plan node mark task
  tasks_stand = record {
    apart = λ v w n a b. let e = h.holders.named v n a in let f = h.holders.named w n b in cc;
    says = h.fits;
    leaf = λ n leaf taken. taken_leaf n leaf.0 leaf.1 taken;
    series = λ p l r kind taken none.
        let alone : LeftAlone (Some (SeqNode l r)) node mark holder p = rw kind at (h.alone p taken (free_if p none)) in
        (alone.0, λ done. left_done l r done (alone.1 done), λ done. right_done r done (alone.2 done));
    parallel = λ p l r kind taken none. rw kind at (h.alone p taken (free_if p none));
    marks = λ p l r kind. (passed_if (is_done (node l)) (holder l), passed_if (is_done (node r)) (holder r), counts l (is_done (node l)) (holder l) refl refl, counts r (is_done (node r)) (holder r) refl refl, h.marks p l r kind);
  }
