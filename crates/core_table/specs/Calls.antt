-- The refinement statement: each call is one event of the core or a stutter, on every table that meets the rule.
use Rattle.std.specs.Prelude.{ℕ, ◌≡◌, ◌≢◌, ◌<◌, ◌≤◌, ◌+◌, ◌%◌, ◌^◌, true, false, eqb, Some, None, List, ◌∷◌, [], ◌++◌}
use mathlib.Core.Option.{none}
use prog.Atomic.{either}
use Rattle.atomic_table.specs.Table.{step}
use Rattle.sp_order.specs.declared.node.Kind.TheVariants.{LeafNode}
use Rattle.core_model.specs.Next.{next_act}
use Rattle.core_model.specs.declared.next.Next.TheVariants as acts
use Rattle.core_model.specs.Settings.{job_with}
use Rattle.core_model.specs.Operations.{place_of, IsReceipt}
use Rattle.core_model.specs.Words.{Entry}
use Rattle.table_rule.specs.CoreWords.{Event, Receipt, Task, Claim, Start, Post, Win, Take, Publish, Answer, Release, Keep, End, ArriveFirst, ArriveSecond, Idle, Started, Out}
use Rattle.core_model.specs.declared.setting.Setting.{Setting}
use Rattle.table_rule.specs.declared.slot.OpRecord.{OpRecord}
use Rattle.table_rule.specs.declared.slot.Slot.{Slot}
use Rattle.table_rule.specs.declared.slot.Slot.TheVariants as Slots
use Rattle.table_rule.specs.declared.view.HoldView.{HoldView}
use Rattle.table_rule.specs.declared.view.View.{View}
use Rattle.table_rule.specs.Words.{flag_at, count_at, tick_at, stop_at, node_at, mark_at, value_at, shop_at, book_at, progress_code}
use Rattle.table_rule.specs.Shows.{job_of, room_of, reserved, record_in, among}
use Rattle.table_rule.specs.Batches.{IsLookDue, IsPublishDue, IsReleaseDue}
use Rattle.table_rule.specs.Tasks.{TaskHere, progress_after, job_seen}
use Rattle.table_rule.specs.DueActs.{IsKeepDueWith, IsPostDue}
use Rattle.table_rule.specs.Plays as plays
use Rattle.table_rule.specs.declared.progress.TheConstants.{READY, TAKEN}
use Rattle.table_rule.specs.declared.status.TheConstants.{FREE, PENDING, EXECUTING, SERVED}
use Rattle.table_rule.specs.Steps.{StepRefines, MakesEvent, Stutters, TryMakes, ArrivalMakes, MakesLeave, SplitStutters}

-- the view is one of worker k's pass at a table of this setting, after it has enrolled, with a task that such a pass
-- has
pub record IsViewOf (key : Setting) (k : ℕ) (v : View) : Type 0 where
  pub worker : v.own.worker ≡ k
  pub to : v.to ≡ k + 1
  pub workers : v.workers ≡ key.workers
  pub nodes : v.nodes ≡ (job_of key).plan.count
  pub room : v.room ≡ room_of key
  pub enrolled : v.enrolled ≡ true
  pub job : job_seen v ≡ job_of key
  pub task : TaskHere (job_of key).plan v.own.task

-- A table has `slots` slots, and seat `id` has the view v of worker k and carries the slots xs. The leaves of work compute
-- `work`. Each field says of one call what its step writes, what it tells the seat, and which event or stutter it makes of
-- any state shown before.
pub record EachCallRefines (work : ℕ → ℕ) (key : Setting) (slots id k : ℕ) (v : View) (xs : List (ℕ × Slot)) : Type 0 where
  -- the job side: a claim is the event `Claim` if it finds the node ready (1), else a stutter
  pub claim : (n : ℕ) → n < (job_with work key).plan.count → v.own.task ≡ Idle → v.own.call ≢ Out
      → StepRefines (job_with work key) (room_of key) slots id (v, xs) (node_at key.workers n) (λ y. either (eqb y READY) TAKEN y)
      (plays.claimed work (step slots (node_at key.workers n) READY TAKEN none) (v, xs)) (TryMakes READY (MakesEvent (job_with work key) k (Claim n)))
  -- A claim past the last node is a stutter. Its step looks for 4 more than the number in word 0, which is the status
  -- of worker 0: it never finds that, for a status is at most 3.
  pub claim_past_the_last : (n : ℕ) → (job_with work key).plan.count ≤ n → 0 < key.workers
      → StepRefines (job_with work key) (room_of key) slots id (v, xs) 0 (λ y. either (eqb y (4 + n)) 0 y)
      (plays.strayed work (step slots 0 (4 + n) 0 none) (v, xs)) Stutters
  -- a tick starts or ends the task's leaf
  pub start : (n leaf : ℕ) → next_act (job_with work key) v.own.task v.own.call ≡ Some (acts.Start n leaf) → v.own.call ≢ Out
      → StepRefines (job_with work key) (room_of key) slots id (v, xs) (tick_at key.workers) (λ y. (y + 1) % 2 ^ 64)
      (plays.drawn (step slots (tick_at key.workers) 1 0 none) (v, xs)) (MakesEvent (job_with work key) k (Start n))
  pub end : (n start : ℕ) → next_act (job_with work key) v.own.task v.own.call ≡ Some (acts.End n start) → v.own.call ≢ Out
      → StepRefines (job_with work key) (room_of key) slots id (v, xs) (tick_at key.workers) (λ y. (y + 1) % 2 ^ 64)
      (plays.drawn (step slots (tick_at key.workers) 1 0 none) (v, xs)) (MakesEvent (job_with work key) k (End n start))
  -- an open makes a node ready, by one of the four events that open a side
  pub open_side : (n : ℕ) (task : Task) (event : Event) → next_act (job_with work key) v.own.task v.own.call ≡ Some (acts.Open n task event) → v.own.call ≢ Out
      → StepRefines (job_with work key) (room_of key) slots id (v, xs) (node_at key.workers n) (λ y. READY)
      (λ y. plays.opened (step slots (node_at key.workers n) READY 0 none) (v, xs) READY) (MakesEvent (job_with work key) k event)
  -- a keep of the value that is due
  pub keep : (n start x : ℕ) → v.own.task ≡ Started n start → IsKeepDueWith work (job_with work key).source v.own.told (next_act (job_with work key) v.own.task v.own.call) x → v.own.call ≢ Out
      → StepRefines (job_with work key) (room_of key) slots id (v, xs) (value_at key.workers (job_with work key).plan.count n) (λ y. x)
      (λ y. plays.kept (step slots (value_at key.workers (job_with work key).plan.count n) x 0 none) (v, xs) x)
      (MakesEvent (job_with work key) k (Keep n start x))
  -- a finish marks a leaf or a block as done, by one of the three events that finish a node
  pub finish : (n : ℕ) (event : Event) → next_act (job_with work key) v.own.task v.own.call ≡ Some (acts.Finish n event) → v.own.call ≢ Out
      → StepRefines (job_with work key) (room_of key) slots id (v, xs) (node_at key.workers n) (λ y. progress_code (progress_after k v.own.task))
      (λ y. plays.finished (step slots (node_at key.workers n) (progress_code (progress_after k v.own.task)) 0 none) (v, xs) (progress_code (progress_after k v.own.task)))
      (MakesEvent (job_with work key) k event)
  -- an arrival is the first if it finds the mark at 0, else the second
  pub arrive : (p l r n : ℕ) → next_act (job_with work key) v.own.task v.own.call ≡ Some (acts.Arrive p l r n) → v.own.call ≢ Out
      → StepRefines (job_with work key) (room_of key) slots id (v, xs) (mark_at key.workers (job_with work key).plan.count p) (λ y. (y + 1) % 2 ^ 64)
      (plays.arrived (step slots (mark_at key.workers (job_with work key).plan.count p) 1 0 none) (v, xs))
      (ArrivalMakes (MakesEvent (job_with work key) k (ArriveFirst p l r n)) (MakesEvent (job_with work key) k (ArriveSecond p l r n)))
  -- a post returns the record slot to the table, with the call in it
  pub post : (n start : ℕ) (call : OpRecord) → v.own.task ≡ Started n start → IsPostDue (job_with work key).source v.own.told (next_act (job_with work key) v.own.task v.own.call) call
      → StepRefines (job_with work key) (room_of key) slots id (v, (k, Slots.Record call) ∷ xs) k (λ y. PENDING)
      (λ y. plays.posted (step slots k PENDING 0 none) (v, (k, Slots.Record call) ∷ xs) PENDING) (MakesEvent (job_with work key) k (Post n start))
  -- a win is an event if it finds the flag free (0), else a stutter
  pub win : v.own.call ≡ Out
      → StepRefines (job_with work key) (room_of key) slots id (v, xs) (flag_at key.workers) (λ y. either (eqb y 0) (k + 1) y)
      (plays.won work (step slots (flag_at key.workers) 0 (k + 1) none) (v, xs)) (TryMakes 0 (MakesEvent (job_with work key) k Win))
  -- a look at a worker is the event `Take`, whether or not it takes a call
  pub take : (h : HoldView) (u : ℕ) → v.own.hold ≡ Some h → IsLookDue key.workers u h
      → StepRefines (job_with work key) (room_of key) slots id (v, xs) u (λ y. either (eqb y PENDING) EXECUTING y)
      (plays.took work (step slots u PENDING EXECUTING none) (v, xs)) (MakesEvent (job_with work key) k (Take u))
  -- a publish returns the book to the table, with the batch, and counts it
  pub publish : (h : HoldView) (batch : List Entry) → v.own.hold ≡ Some h → IsPublishDue key.workers h batch
      → StepRefines (job_with work key) (room_of key) slots id (v, (book_at key.workers, Slots.Book (reserved (h.book ++ batch ∷ []) (room_of key))) ∷ xs) (count_at key.workers) (λ y. (y + 1) % 2 ^ 64)
      (plays.published (step slots (count_at key.workers) 1 0 none) (v, (book_at key.workers, Slots.Book (reserved (h.book ++ batch ∷ []) (room_of key))) ∷ xs))
      (MakesEvent (job_with work key) k Publish)
  -- an answer returns a taken worker's record slot to the table, with its receipt
  pub answer : (h : HoldView) (u : ℕ) (call : OpRecord) (r : Receipt) → v.own.hold ≡ Some h → h.published ≡ true
      → record_in h.taken u ≡ Some call → among h.answered u ≡ false → IsReceipt (place_of h.book call.leaf) r
      → StepRefines (job_with work key) (room_of key) slots id (v, (u, Slots.Receipt r) ∷ xs) u (λ y. SERVED)
      (λ y. plays.answered (step slots u SERVED 0 none) (v, (u, Slots.Receipt r) ∷ xs) SERVED) (MakesEvent (job_with work key) k (Answer u r))
  -- a release returns the shop after a publish, and the shop and the book if nothing was published
  pub release : (h : HoldView) → v.own.hold ≡ Some h → IsReleaseDue key.workers h → h.published ≡ true
      → StepRefines (job_with work key) (room_of key) slots id (v, (shop_at key.workers, Slots.Shop h.book) ∷ xs) (flag_at key.workers) (λ y. 0)
      (λ y. plays.released_shop (step slots (flag_at key.workers) 0 0 none) (v, (shop_at key.workers, Slots.Shop h.book) ∷ xs) 0)
      (MakesEvent (job_with work key) k Release)
  pub release_unserved : (h : HoldView) → v.own.hold ≡ Some h → IsReleaseDue key.workers h
      → StepRefines (job_with work key) (room_of key) slots id
      (v, (shop_at key.workers, Slots.Shop h.book) ∷ (book_at key.workers, Slots.Book (reserved h.book (room_of key))) ∷ xs) (flag_at key.workers) (λ y. 0)
      (λ y. plays.released_both (step slots (flag_at key.workers) 0 0 none)
      (v, (shop_at key.workers, Slots.Shop h.book) ∷ (book_at key.workers, Slots.Book (reserved h.book (room_of key))) ∷ xs) 0)
      (MakesEvent (job_with work key) k Release)
  -- a leave is an event if it finds its own status served (3), else a stutter
  pub leave : v.own.call ≡ Out → v.own.hold ≡ None
      → StepRefines (job_with work key) (room_of key) slots id (v, xs) k (λ y. either (eqb y SERVED) FREE y)
      (plays.left work (step slots k SERVED FREE none) (v, xs)) (TryMakes SERVED (MakesLeave (job_with work key) k))
  -- the looks, the stop and the look before a publish are stutters
  pub root_done : StepRefines (job_with work key) (room_of key) slots id (v, xs) (node_at key.workers 0) (λ y. y)
      (plays.looked_at_root work (step slots (node_at key.workers 0) 0 0 none) (v, xs)) Stutters
  pub since : StepRefines (job_with work key) (room_of key) slots id (v, xs) (count_at key.workers) (λ y. y)
      (plays.heard (step slots (count_at key.workers) 0 0 none) (v, xs)) Stutters
  pub stop : StepRefines (job_with work key) (room_of key) slots id (v, xs) (stop_at key.workers) (λ y. 1)
      (λ y. plays.stopped_all work (step slots (stop_at key.workers) 1 0 none) (v, xs) 1) Stutters
  pub stopped : StepRefines (job_with work key) (room_of key) slots id (v, xs) (stop_at key.workers) (λ y. y)
      (plays.looked_at_stop work (step slots (stop_at key.workers) 0 0 none) (v, xs)) Stutters
  pub source_value : (n start leaf source : ℕ) → v.own.task ≡ Started n start → (job_with work key).plan.kind n ≡ Some (LeafNode leaf) → (job_with work key).source leaf ≡ Some source
      → StepRefines (job_with work key) (room_of key) slots id (v, xs) (value_at key.workers (job_with work key).plan.count ((job_with work key).plan.node_of source)) (λ y. y)
      (plays.looked_at_value (step slots (value_at key.workers (job_with work key).plan.count ((job_with work key).plan.node_of source)) 0 0 none) (v, xs)) Stutters
  pub admit : StepRefines (job_with work key) (room_of key) slots id (v, xs) (count_at key.workers) (λ y. y)
      (plays.admitted (step slots (count_at key.workers) 0 0 none) (v, xs)) Stutters

-- The two steps that make a pass, from a view of any seat. Both are stutters. A split gives the lowest worker number of
-- the seat to a new seat. An enrolment, the first step of a pass, takes its worker's record slot, at a look at any
-- word.
pub record MakingStutters (work : ℕ → ℕ) (key : Setting) (slots id : ℕ) (v : View) (xs : List (ℕ × Slot)) : Type 0 where
  pub split : v.own.worker < v.to → SplitStutters (job_with work key) (room_of key) id v
  pub enrol : (word : ℕ) → v.to ≡ v.own.worker + 1 → v.enrolled ≡ false
      → StepRefines (job_with work key) (room_of key) slots id (v, xs) word (λ y. y) (plays.enrolled (step slots word 0 0 none) (v, xs)) Stutters
