-- Where the entry of a trapped worker's call stands.
use Rattle.std.proofs.Common.{ℕ, ◌≡◌, ◌≤◌, ◌+◌, true, Option, Some, None, List, [], ◌∷◌, ◌++◌, length, arith, refl, inr}
use Rattle.core_model.proofs.Words.{LeafNode, Entry, Taken, Task, Started, Executing, Out, Receipt, CoreJob, State}
use Rattle.core_model.specs.Operations.{IsCall, Place, place_in, or_else, place_of, IsReceipt}
use Rattle.core_model.specs.Invariant.Tasks.{TaskFits}
use Rattle.core_model.specs.Invariant.Statuses.{IsAtCall, HasReceipt}
use Rattle.core_model.specs.Invariant.Hold.{is_published}
use Rattle.core_model.specs.Invariant.{Parts}
use Rattle.core_model.specs.Waits.{IsTrapped, leaf_place, task_place, StandsBy}
use Rattle.batch_history.proofs.BookLemmas.Books.{place_append, place_below}

-- what stands in the book stands by the number of its last batch
place_stands : (bs : List (List Entry)) (u k : ℕ) (p : Place) → length bs ≤ k + 1 → place_of bs u ≡ Some p → StandsBy (place_of bs u) k
place_stands bs u k p short e = let below = place_below bs u p e in rw e (omega (arith, below, short))

-- the call of a trapped worker
pub record TrappedCall (job : CoreJob) (s : State) (w : ℕ) : Type 0 where
  pub node : ℕ
  pub start : ℕ
  pub leaf : ℕ
  pub task : s.task w ≡ Started node start
  pub kind : job.plan.kind node ≡ Some (LeafNode leaf)
  pub taken : s.node node ≡ Taken
  pub call : IsCall job leaf

-- a task that is started at a leaf that calls
at_started : (job : CoreJob) (s : State) (w : ℕ) (t : Task) → s.task w ≡ t → TaskFits job.plan s.node s.mark t → IsAtCall job t → TrappedCall job s w
at_started job s w (Started n a) mine fits call =
    record { node = n; start = a; leaf = fits.0.0; task = mine; kind = fits.0.1; taken = fits.1; call = rw fits.0.1 at call }
at_started job s w _ mine fits call = absurd call

-- a trapped worker has one
pub trapped_call : (job : CoreJob) (s : State) (w : ℕ) → Parts job s → IsTrapped s w → TrappedCall job s w
trapped_call job s w h trapped =
    let out : s.call w ≡ Out = (h.statuses.out w).1 trapped in
    at_started job s w (s.task w) refl (h.tasks.says w) (h.statuses.at_call w (λ none. cc))

-- where the entry of its leaf stands
pub trapped_place : (job : CoreJob) (s : State) (w : ℕ) (bs : List (List Entry)) (c : TrappedCall job s w) → task_place job bs (s.task w) ≡ place_of bs c.leaf
trapped_place job s w bs c = rw (c.task, c.kind) refl

-- the entry of a worker that is executing under a published hold stands so too
pub executing_stands : (job : CoreJob) (s : State) (w k : ℕ) → Parts job s → s.status w ≡ Executing → is_published s.hold ≡ true → length s.book ≤ k + 1
    → StandsBy (task_place job s.book (s.task w)) k
executing_stands job s w k h executing there short =
    let c : TrappedCall job s w = trapped_call job s w h (λ free. cc) in
    let found = h.members.each c.node c.leaf c.kind c.call w (inr (inr (inr (c.start, c.task, inr (inr (executing, there)))))) in
    rw (trapped_place job s w s.book c) (place_stands s.book c.leaf k found.0 short found.1)

-- a task with a receipt has started the leaf whose place has it
pub receipt_of : (job : CoreJob) (bs : List (List Entry)) (t : Task) (r : Receipt) → HasReceipt job bs t r → IsReceipt (task_place job bs t) r
receipt_of job bs t r h = grind arith

-- so the entry of a worker that is served stands so too
pub receipt_stands : (bs : List (List Entry)) (o : Option ℕ) (k : ℕ) (r : Receipt) → IsReceipt (leaf_place bs o) r → length bs ≤ k + 1 → StandsBy (leaf_place bs o) k
receipt_stands bs None k r h short = absurd h
receipt_stands bs (Some u) k r h short = elim (place_of bs u) as (λ p. place_of bs u ≡ p → IsReceipt p r → StandsBy (place_of bs u) k) [
  | None ↦ λ e g. absurd g
  | Some p ↦ λ e g. place_stands bs u k p short e
] refl h

-- a place that is there is the first of two
first_stands : (p q : Option Place) (k : ℕ) → StandsBy p k → StandsBy (or_else p q) k
first_stands None q k h = absurd h
first_stands (Some p) q k h = h

-- an entry stands in a longer book where it did
pub still_stands : (bs : List (List Entry)) (b : List Entry) (o : Option ℕ) (k : ℕ) → StandsBy (leaf_place bs o) k → StandsBy (leaf_place (bs ++ b ∷ []) o) k
still_stands bs b None k h = h
still_stands bs b (Some u) k h = rw (place_append bs b u) (first_stands (place_of bs u) (place_in (length bs) 0 b u) k h)

-- the receipt of a place has its batch
pub receipt_by : (o : Option Place) (k : ℕ) (r : Receipt) → IsReceipt o r → StandsBy o k → r.batch ≤ k
receipt_by None k r e h = absurd h
receipt_by (Some p) k r e h = rw e h
