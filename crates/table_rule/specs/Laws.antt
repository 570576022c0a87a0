-- The laws of `core_model` and `sp_order` that the proofs of a table cite, for one job; and the bounds of a table's
-- job.
use Rattle.std.specs.Prelude.{ℕ, ◌≡◌, ◌<◌, ◌≤◌, ◌+◌, ◌*◌, ◌^◌, List, [], ◌∷◌, ◌++◌, length, true, false, None, Some}
use Rattle.std.specs.List.{AllByRecursion}
use Rattle.limits.specs.declared.TheConstants.{MOST_LEAVES, MOST_WORKERS}
use Rattle.seq_objects.specs.Pairs.{AreDistinct}
use Rattle.sp_order.specs.Jobs.{job_tree}
use Rattle.sp_order.specs.Precedence.{leaves}
use Rattle.batch_history.specs.Book.{flat}
use Rattle.core_model.specs.State.{CoreJob, State, opening_state}
use Rattle.core_model.specs.Entries.{entries_of, StandsAt, IsUnserved}
use Rattle.core_model.specs.Events.{Happens, HasStarted}
use Rattle.core_model.specs.LeafSources.{HasItsValue, HasSources}
use Rattle.core_model.specs.Measure.{call_count}
use Rattle.core_model.specs.Operations.{IsCall, Place, op_of, place_of, receipt_for, value_under}
use Rattle.core_model.specs.Tasks.{is_done}
use Rattle.core_model.specs.Invariant.Statuses.{is_taken_by}
use Rattle.core_model.specs.Invariant.{Parts}
use Rattle.core_model.specs.Waits.{IsTrapped, WaitsSince, task_place}
use Rattle.core_model.specs.Words.{Entry, IsPlan, IsSide, SeqNode, ParNode, OpenSecond, FinishParent, Arrive, Op}
use Rattle.table_rule.specs.CoreWords.{Event, Publish, Receipt, Served, Whole}
use Rattle.core_model.specs.Settings.{job_of, job_with}
use Rattle.core_model.specs.declared.setting.Setting.{Setting}

-- what every setting of a table has: bounded nodes, one act for each leaf, at most `MOST_LEAVES` of them, sources that
-- are before their leaves, and at most `MOST_WORKERS` workers
pub record IsSound (key : Setting) : Type 0 where
  pub few : (job_of key).plan.count < 2 * MOST_LEAVES
  pub leaves : length key.job.acts ≡ leaves (job_tree key.job)
  pub short : length key.job.acts ≤ MOST_LEAVES
  pub sources : (work : ℕ → ℕ) → HasSources (job_with work key)
  pub workers : key.workers ≤ MOST_WORKERS

-- The laws of the core for one job, a field each. They hold of the job of every sound setting (`laws_hold`).
pub record Laws (job : CoreJob) : Type 0 where
  pub plan : IsPlan job.plan
  pub keeps : (old new : State) (worker : ℕ) (event : Event) → Parts job old → Happens job old worker event new → Parts job new
  pub waits : (old new : State) (worker : ℕ) (event : Event) (waiter since : ℕ) → Parts job old → Happens job old worker event new → IsTrapped new waiter → WaitsSince job old waiter since → WaitsSince job new waiter since
  pub now : (s : State) (waiter : ℕ) → Parts job s → IsTrapped s waiter → WaitsSince job s waiter (length s.book)
  pub ticks : (s : State) → Parts job s → s.tick ≤ 2 * job.plan.count
  pub few : job.plan.count < 2 * MOST_LEAVES
  pub second : (n p : ℕ) → job.plan.after n ≡ OpenSecond p → (r : ℕ) × (job.plan.kind p ≡ Some (SeqNode n r))
  pub parent : (n p : ℕ) → job.plan.after n ≡ FinishParent p → (l : ℕ) × (job.plan.kind p ≡ Some (SeqNode l n))
  pub arrive : (n p : ℕ) → job.plan.after n ≡ Arrive p → (l : ℕ) × (r : ℕ) × (job.plan.kind p ≡ Some (ParNode l r)) × IsSide job.plan p n
  pub opening : Parts job opening_state
  pub root : 0 < job.plan.count
  -- a side that is about to arrive finds a mark below 2
  pub mark : (s : State) (w p l r n : ℕ) → Parts job s → s.task w ≡ Whole n → job.plan.kind p ≡ Some (ParNode l r) → IsSide job.plan p n → s.mark p < 2
  -- The book has at most as many batches as entries. Its entries and any distinct unserved workers together number at
  -- most the job's calls.
  pub batches : (s : State) → Parts job s → length s.book ≤ length (flat s.book)
  pub room : (s : State) (workers : List ℕ) → Parts job s → AreDistinct workers → AllByRecursion (IsUnserved s) workers → length (flat s.book) + length workers ≤ call_count job
  -- a publish adds no entry for a worker that was not taken, and one, in the new last batch, for each that was
  pub untaken : (old new : State) (worker : ℕ) → Parts job old → Happens job old worker Publish new → (w : ℕ) → is_taken_by old.hold w ≡ false
      → (entries_of w (flat new.book) ≡ entries_of w (flat old.book)) × (task_place job new.book (old.task w) ≡ task_place job old.book (old.task w))
  pub taken : (old new : State) (worker : ℕ) → Parts job old → Happens job old worker Publish new → (w : ℕ) → is_taken_by old.hold w ≡ true
      → (task_place job old.book (old.task w) ≡ None)
      × (place : Place) × (task_place job new.book (old.task w) ≡ Some place)
      × (place.batch ≡ length old.book) × (place.entry.worker ≡ w)
      × (entries_of w (flat new.book) ≡ entries_of w (flat old.book) ++ place.entry ∷ [])
  -- the receipt of a served worker is that of its call's entry in the book
  pub receipt : (s : State) (worker node leaf : ℕ) (op : Op) (receipt : Receipt) → Parts job s → s.status worker ≡ Served receipt → HasStarted job s worker node leaf → op_of job s.book leaf ≡ Some op
      → (place : Place) × (task_place job s.book (s.task worker) ≡ Some place)
      × (place_of s.book leaf ≡ Some place) × (receipt ≡ receipt_for place)
      × (place.entry ≡ record { leaf = leaf; worker = worker; op = op; reply = receipt.reply })
      × StandsAt s.book receipt.batch receipt.place place.entry
  -- each source may be its leaf's, and is before it by a series; once the leaf has started, its source has its value
  pub sources : HasSources job
  pub source : (s : State) (worker node leaf source : ℕ) → Parts job s → HasStarted job s worker node leaf → job.source leaf ≡ Some source → HasItsValue job s source
  -- a longer book keeps the values, the operations and the places that the book has
  pub values : (book : List (List Entry)) (batch : List Entry) (leaf value : ℕ) → value_under job book leaf ≡ Some value → value_under job (book ++ batch ∷ []) leaf ≡ Some value
  pub operations : (book : List (List Entry)) (batch : List Entry) (leaf : ℕ) (op : Op) → op_of job book leaf ≡ Some op → op_of job (book ++ batch ∷ []) leaf ≡ Some op
  pub places : (book : List (List Entry)) (batch : List Entry) (leaf : ℕ) (place : Place) → place_of book leaf ≡ Some place → place_of (book ++ batch ∷ []) leaf ≡ Some place
  -- the number of a leaf that calls is below 2^32
  pub low : (leaf : ℕ) → IsCall job leaf → leaf < 2 ^ 32
  -- once the root is done, the flag is free
  pub ended : (s : State) → Parts job s → is_done (s.node 0) ≡ true → s.hold ≡ None
