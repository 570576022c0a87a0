-- What the proofs carry of statuses, of the book, and of the values of leaves.
use Rattle.std.specs.Prelude.{ℕ, ◌≡◌, ◌<◌, Bool, true, false, if◌then◌else◌, Option, None, Some, List, length, map}
use Rattle.std.specs.List.{AllByRecursion}
use Rattle.seq_objects.specs.Stores.{Store, opening_store}
use Rattle.core_model.proofs.Words.{LeafNode, Entry, Progress, Waiting, Ready, Taken, Done, Ran, Task, Idle, Run, Half, Started, Kept, Ended, Whole, Handed, Status, Free, Pending, Executing, Served, CallState, NotCalled, Out, Got, CoreJob}
use Rattle.seq_objects.specs.Pairs.{AreDistinct}
use Rattle.batch_history.specs.Book.{flat, IsLegal, IsBatch}
use Rattle.core_model.specs.Operations.{IsCall, op_of, origin_of, Place, place_of}
use Rattle.core_model.specs.Serving.{served}
use Rattle.core_model.specs.Invariant.Statuses.{IsAtCall, HasReceipt}
use Rattle.core_model.proofs.Inductive.Ticks.{Stamp, stamp}

-- one worker's status, call and task, and whether the hold has taken its call and not answered it
abbrev pub StatusFits : CoreJob → List (List Entry) → Task → Status → CallState → Bool → Type 0
StatusFits job book task Free NotCalled taken = taken ≡ false
StatusFits job book task Free Out taken = ⊥
StatusFits job book task Free (Got receipt) taken = (taken ≡ false) × IsAtCall job task × HasReceipt job book task receipt
StatusFits job book task Pending NotCalled taken = ⊥
StatusFits job book task Pending Out taken = (taken ≡ false) × IsAtCall job task
StatusFits job book task Pending (Got receipt) taken = ⊥
StatusFits job book task Executing NotCalled taken = ⊥
StatusFits job book task Executing Out taken = (taken ≡ true) × IsAtCall job task
StatusFits job book task Executing (Got receipt) taken = ⊥
StatusFits job book task (Served receipt) NotCalled taken = ⊥
StatusFits job book task (Served receipt) Out taken = (taken ≡ false) × IsAtCall job task × HasReceipt job book task receipt
StatusFits job book task (Served receipt) (Got other) taken = ⊥

-- the entry of a leaf, at its place
abbrev pub EntryFits : CoreJob → List (List Entry) → ℕ → Place → Type 0
EntryFits job book leaf place = (op_of job book leaf ≡ Some place.entry.op) × (place.entry.worker < job.workers) × (place.batch < length book)

-- the entry from which the value of a leaf's source comes stands in an earlier batch than the leaf's own
abbrev pub SourcesFirst : CoreJob → List (List Entry) → Type 0
SourcesFirst job book =
    (leaf source origin : ℕ) (later : Place) → job.source leaf ≡ Some source → origin_of job source ≡ Some origin → place_of book leaf ≡ Some later
    → (earlier : Place) × (place_of book origin ≡ Some earlier) × (earlier.batch < later.batch)

-- the first place, of a leaf that has an end, is in an earlier batch than the second, if there is one
abbrev pub IsEarlier : Option Place → Option Place → Type 0
IsEarlier place None = Unit {0}
IsEarlier None (Some later) = ⊥
IsEarlier (Some earlier) (Some later) = earlier.batch < later.batch

-- the book, and the objects after it, with the stamps of the leaves
pub record InductiveBook (job : CoreJob) (book : List (List Entry)) (after : Store) (stamps : ℕ → Option Stamp) : Type 0 where
  pub legal : IsLegal book
  pub objects_after : after ≡ served opening_store (flat book)
  pub batches : AllByRecursion IsBatch book
  pub leaves : AreDistinct (map (λ entry. entry.leaf) (flat book))
  pub among : AllByRecursion (λ entry. entry.worker < job.workers) (flat book)
  pub operations : AllByRecursion (λ entry. op_of job book entry.leaf ≡ Some entry.op) (flat book)
  pub sources : SourcesFirst job book
  pub entries : (leaf : ℕ) (place : Place) → place_of book leaf ≡ Some place → EntryFits job book leaf place
  pub in_order : (n m u v w x a b d : ℕ) (e : Option ℕ)
      → job.plan.kind n ≡ Some (LeafNode u) → job.plan.kind m ≡ Some (LeafNode v) → IsCall job u
      → stamps n ≡ Some (stamp w a (Some d)) → stamps m ≡ Some (stamp x b e) → d < b
      → IsEarlier (place_of book u) (place_of book v)

-- whether the call of a worker with this task is in the book
abbrev pub is_booked : Task → Status → CallState → Bool → Bool
is_booked Idle status call published = false
is_booked (Run n) status call published = false
is_booked (Half n) status call published = false
is_booked (Started n s) status (Got receipt) published = true
is_booked (Started n s) (Served receipt) call published = true
is_booked (Started n s) Executing call published = published
is_booked (Started n s) Free call published = false
is_booked (Started n s) Pending call published = false
is_booked (Kept n s) status call published = true
is_booked (Ended n s e) status call published = true
is_booked (Whole n) status call published = false
is_booked (Handed n) status call published = false

-- the worker whose call is in the book for a node with this progress and this holder
abbrev pub booked_by : Progress → Option ℕ → (ℕ → Task) → (ℕ → Status) → (ℕ → CallState) → Bool → Option ℕ
booked_by Waiting holder task status call published = None
booked_by Ready holder task status call published = None
booked_by Taken None task status call published = None
booked_by Taken (Some w) task status call published = if is_booked (task w) (status w) (call w) published then Some w else None
booked_by Done holder task status call published = None
booked_by (Ran w s e) holder task status call published = Some w

abbrev pub worker_at : Option Place → Option ℕ
worker_at None = None
worker_at (Some place) = Some place.entry.worker

-- whether a task has its leaf's value
abbrev pub is_valued : Task → Bool
is_valued (Kept n s) = true
is_valued (Ended n s e) = true
is_valued _ = false

-- whether the leaf at a node with this progress and this holder has its value
abbrev pub valued_by : Progress → Option ℕ → (ℕ → Task) → Bool
valued_by Waiting holder task = false
valued_by Ready holder task = false
valued_by Taken None task = false
valued_by Taken (Some w) task = is_valued (task w)
valued_by Done holder task = false
valued_by (Ran w s e) holder task = true
