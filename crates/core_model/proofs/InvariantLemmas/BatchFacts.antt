-- What a published batch means for statuses, for entries and for which calls are in the book.
use Rattle.std.proofs.Common.{ℕ, ◌≡◌, ◌≢◌, ◌<◌, Bool, true, false, if◌then◌else◌, Option, Some, None, List, [], ◌∷◌, ◌++◌, length, arith, refl, inl, inr, sym, ◌∙◌, ap, length-append}
use Rattle.core_model.proofs.Words.{LeafNode, Nodes, Entry, Progress, Waiting, Ready, Taken, Done, Ran, Task, Started, Status, Executing, CallState, Out, Receipt, CoreJob, Hold, State, names}
use Rattle.core_model.specs.Operations.{leaf_of, op_of, Place, place_in, or_else, place_of, IsReceipt}
use Rattle.core_model.specs.Invariant.Tasks.{TaskFits}
use Rattle.core_model.specs.Events.{published}
use Rattle.core_model.specs.Invariant.Statuses.{HasReceipt, is_taken_by}
use Rattle.core_model.specs.Invariant.Hold.{HoldInvariant}
use Rattle.core_model.proofs.Inductive.Nodes.{InductiveTasks}
use Rattle.core_model.proofs.Inductive.Ticks.{stamp, stamps}
use Rattle.core_model.proofs.Inductive.Book.{StatusFits, EntryFits, SourcesFirst, IsEarlier, is_booked, booked_by, worker_at}
use Rattle.batch_history.proofs.BookLemmas.Books.{place_append, place_below, place_in_batch, which_place}
use Rattle.core_model.proofs.BookLemmas.Operations.{op_kept, of_source, of_origin}

-- the node that a task has started
abbrev pub started_at : Task → Option ℕ
started_at (Started n t) = Some n
started_at _ = None

-- the calls of a batch, against the tasks and the workers whose calls are taken
pub record BatchFits (job : CoreJob) (s : State) (took : ℕ → Bool) (batch : List Entry) : Type 0 where
  pub taken : (u : ℕ) (p : Place) → place_in (length s.book) 0 batch u ≡ Some p → took p.entry.worker ≡ true
  pub started : (u : ℕ) (p : Place) → place_in (length s.book) 0 batch u ≡ Some p → started_at (s.task p.entry.worker) ≡ Some (job.plan.node_of u)
  pub operation : (u : ℕ) (p : Place) → place_in (length s.book) 0 batch u ≡ Some p → op_of job s.book u ≡ Some p.entry.op
  pub each : (w n : ℕ) → took w ≡ true → started_at (s.task w) ≡ Some n → worker_at (place_in (length s.book) 0 batch (leaf_of (job.plan.kind n))) ≡ Some w

-- a receipt stays right in a longer book
pub receipt_kept : (p o : Option Place) (r : Receipt) → IsReceipt p r → IsReceipt (or_else p o) r
receipt_kept (Some p) o r h = h
receipt_kept None o r h = absurd h

-- so does the receipt of a task
pub has_receipt_kept : (job : CoreJob) (book : List (List Entry)) (b : List Entry) (t : Task) (r : Receipt) → HasReceipt job book t r → HasReceipt job (book ++ b ∷ []) t r
has_receipt_kept job book b (Started n s) r h = rw (place_append book b (leaf_of (job.plan.kind n))) (receipt_kept (place_of book (leaf_of (job.plan.kind n))) (place_in (length book) 0 b (leaf_of (job.plan.kind n))) r h)
has_receipt_kept job book b _ r h = h

-- so does a status
pub status_kept : (job : CoreJob) (book : List (List Entry)) (b : List Entry) (t : Task) (st : Status) (c : CallState) (x : Bool)
    → StatusFits job book t st c x → StatusFits job (book ++ b ∷ []) t st c x
status_kept job book b t st c x h = grind (arith, has_receipt_kept job book b t)

-- to publish takes no call
pub taken_same : (h : Option Hold) (w : ℕ) → is_taken_by (published h) w ≡ is_taken_by h w
taken_same None w = refl
taken_same (Some h) w = refl

-- the hold, once it is published
pub hold_kept : (job : CoreJob) (s : State) (h : Hold) → HoldInvariant job.workers s.status s.call (Some h) → h.looks ≡ job.workers → (u : ℕ) × (h.taken u ≡ true)
    → HoldInvariant job.workers s.status s.call (published (Some h))
hold_kept job s h fits looks some = (fits.0, fits.1, fits.2, λ e. looks, λ e. some, fits.5, λ u e. refl, fits.7)

-- a place that is earlier stays so, if the batches of the new places are past it
pub earlier_append : (k : ℕ) (p q a b : Option Place) → IsEarlier p q → p ≢ None → ((x : Place) → p ≡ Some x → x.batch < k) → ((x : Place) → b ≡ Some x → x.batch ≡ k)
    → IsEarlier (or_else p a) (or_else q b)
earlier_append k p q a b h there below at = grind (arith)

-- where neither has an entry
pub none_else : (p q : Option Place) → worker_at p ≡ None → ((x : Place) → q ≡ Some x → ⊥) → worker_at (or_else p q) ≡ None
none_else (Some x) q e h = cc
none_else None (Some x) e h = absurd (h x refl)
none_else None None e h = refl

-- where the first has one
pub some_else : (p q : Option Place) (w : ℕ) → worker_at p ≡ Some w → worker_at (or_else p q) ≡ Some w
some_else (Some x) q w e = e
some_else None q w e = cc

-- where the first has none
pub none_first : (p q : Option Place) (o : Option ℕ) → worker_at p ≡ None → worker_at q ≡ o → worker_at (or_else p q) ≡ o
none_first (Some x) q o e f = cc
none_first None q o e f = f

-- whether a started call is in the book, after its batch is published
pub row_published : (p q : Option Place) (w : ℕ) (t : Task) (st : Status) (c : CallState) (took : Bool)
    → worker_at p ≡ (if is_booked t st c false then Some w else None)
    → (st ≡ Executing → took ≡ true) → (took ≡ true → st ≡ Executing)
    → (st ≡ Executing → c ≡ Out)
    → ((x : Place) → q ≡ Some x → (took ≡ true) × (started_at t ≢ None))
    → (took ≡ true → started_at t ≢ None → worker_at q ≡ Some w)
    → worker_at (or_else p q) ≡ (if is_booked t st c true then Some w else None)
row_published p q w t st c took old to from out only each = grind (arith, none_else p q, some_else p q, none_first p q)

-- the worker that holds a leaf is the one of its entry in the batch
pub same_worker : (w : ℕ) (y : Place) (task : ℕ → Task) (took : ℕ → Bool) {x : Progress}
    → (x ≡ Taken) × (Some w ≡ Some y.entry.worker) × (took y.entry.worker ≡ true) × (started_at (task y.entry.worker) ≢ None)
    → (took w ≡ true) × (started_at (task w) ≢ None)
same_worker w y task took h = grind arith

-- which calls are in the book, once the batch is published
pub booked_published : (x : Progress) (o : Option ℕ) (p q : Option Place) (task : ℕ → Task) (status : ℕ → Status) (call : ℕ → CallState) (took : ℕ → Bool)
    → worker_at p ≡ booked_by x o task status call false
    → ((w : ℕ) → status w ≡ Executing → took w ≡ true) → ((w : ℕ) → took w ≡ true → status w ≡ Executing)
    → ((w : ℕ) → status w ≡ Executing → call w ≡ Out)
    → ((y : Place) → q ≡ Some y → (x ≡ Taken) × (o ≡ Some y.entry.worker) × (took y.entry.worker ≡ true) × (started_at (task y.entry.worker) ≢ None))
    → ((w : ℕ) → o ≡ Some w → took w ≡ true → started_at (task w) ≢ None → worker_at q ≡ Some w)
    → worker_at (or_else p q) ≡ booked_by x o task status call true
booked_published (Ran w s e) o p q task status call took old to from out only each = some_else p q w old
booked_published Waiting o p q task status call took old to from out only each = none_else p q old (λ y e. let k = (only y e).0 in let j = (only y e).1 in cc)
booked_published Ready o p q task status call took old to from out only each = none_else p q old (λ y e. let k = (only y e).0 in let j = (only y e).1 in cc)
booked_published Done o p q task status call took old to from out only each = none_else p q old (λ y e. let k = (only y e).0 in let j = (only y e).1 in cc)
booked_published Taken None p q task status call took old to from out only each = none_else p q old (λ y e. let k = (only y e).0 in let j = (only y e).1 in cc)
booked_published Taken (Some w) p q task status call took old to from out only each =
    row_published p q w (task w) (status w) (call w) (took w) old (to w) (from w) (out w) (λ y e. same_worker w y task took (only y e)) (each w refl)

-- an entry fits a longer book
pub entry_kept : (job : CoreJob) (s : State) (b : List Entry) (u : ℕ) (p : Place) → EntryFits job s.book u p → EntryFits job (s.book ++ b ∷ []) u p
entry_kept job s b u p h = (op_kept job s.book b u p.entry.op h.0, h.1, grind (arith, h.2, length-append s.book (b ∷ [])))

-- a task names the node that it has started
pub names_started : (t : Task) (n : ℕ) → started_at t ≡ Some n → names t ≡ Some n
names_started t n e = grind arith

-- a started task has started the node that it names
pub started_name : (t : Task) (n : ℕ) → names t ≡ Some n → started_at t ≢ None → started_at t ≡ Some n
started_name t n e f = grind arith

-- the node that a task has started is taken
pub started_taken : (plan : Nodes) (node : ℕ → Progress) (mark : ℕ → ℕ) (t : Task) (n : ℕ) → TaskFits plan node mark t → started_at t ≡ Some n → node n ≡ Taken
started_taken plan node mark t n h e = grind arith

-- the status of a worker that was taken, before the batch is published
pub executing : (job : CoreJob) (s : State) (h : Hold) (w : ℕ) → s.hold ≡ Some h → h.published ≡ false → HoldInvariant job.workers s.status s.call (Some h)
    → StatusFits job s.book (s.task w) (s.status w) (s.call w) (is_taken_by (Some h) w) → h.taken w ≡ true → s.status w ≡ Executing
executing job s h w there un hold fits took =
    let answered : h.answered w ≡ false = grind (arith, hold.6 w) in
    grind arith

-- and the other way round; and its call is out
pub took_it : (job : CoreJob) (s : State) (h : Hold) (w : ℕ)
    → StatusFits job s.book (s.task w) (s.status w) (s.call w) (is_taken_by (Some h) w) → s.status w ≡ Executing → (h.taken w ≡ true) × (s.call w ≡ Out)
took_it job s h w fits e = grind arith

-- an entry of the batch fits the longer book
pub new_entry : (job : CoreJob) (s : State) (h : Hold) (b : List Entry) (u : ℕ) (p : Place) → HoldInvariant job.workers s.status s.call (Some h) → h.looks ≡ job.workers
    → BatchFits job s h.taken b → place_in (length s.book) 0 b u ≡ Some p → EntryFits job (s.book ++ b ∷ []) u p
new_entry job s h b u p hold looks batch e = (
  op_kept job s.book b u p.entry.op (batch.operation u p e),
  omega (arith, hold.2 p.entry.worker (batch.taken u p e), looks),
  omega (arith, place_in_batch (length s.book) 0 b u p e, length-append s.book (b ∷ [])),
)

-- the entries of sources stand first in a longer book too
pub source_kept : (job : CoreJob) (s : State) (h : Hold) (b : List Entry) → BatchFits job s h.taken b → SourcesFirst job s.book → SourcesFirst job (s.book ++ b ∷ [])
source_kept job s h b batch old leaf source origin later is from at = elim (which_place (place_of s.book leaf) (place_in (length s.book) 0 b leaf) later (sym (place_append s.book b leaf) ∙ at)) [
  | inl first ↦
      let stands = old leaf source origin later is from first in
      (stands.0, place_append s.book b origin ∙ ap (λ o. or_else o (place_in (length s.book) 0 b origin)) stands.1, stands.2)
  | inr second ↦
      let value = of_source job s.book leaf source later.entry.op (batch.operation leaf later second) is in
      let stands = of_origin job s.book source value.0 origin value.1 from in (
        stands.0,
        place_append s.book b origin ∙ ap (λ o. or_else o (place_in (length s.book) 0 b origin)) stands.1,
        omega (arith, place_below s.book origin stands.0 stands.1, place_in_batch (length s.book) 0 b leaf later second),
      )
]

-- where there is a worker, there is a place
pub has_place : (p : Option Place) (w : ℕ) → worker_at p ≡ Some w → p ≢ None
has_place p w e f = grind arith

-- a leaf with an end is booked for its worker
pub ended_booked : (node : ℕ → Progress) (task : ℕ → Task) (holder : ℕ → Option ℕ) (status : ℕ → Status) (call : ℕ → CallState) (b : Bool) (n w s d : ℕ)
    → stamps node task holder n ≡ Some (stamp w s (Some d)) → booked_by (node n) (holder n) task status call b ≡ Some w
ended_booked node task holder status call b n w s d e = grind arith

-- the leaf of an entry of the batch is taken, held by the entry's worker, which has started it
pub batch_node : (job : CoreJob) (s : State) (h : Hold) (b : List Entry) (holder : ℕ → Option ℕ) (n u : ℕ) (y : Place) → InductiveTasks job.plan s.node s.mark s.task holder
    → BatchFits job s h.taken b → n ≡ job.plan.node_of u → place_in (length s.book) 0 b u ≡ Some y
    → (s.node n ≡ Taken) × (holder n ≡ Some y.entry.worker) × (h.taken y.entry.worker ≡ true) × (started_at (s.task y.entry.worker) ≢ None)
batch_node job s h b holder n u y tasks batch at e =
    let started : started_at (s.task y.entry.worker) ≡ Some n = batch.started u y e ∙ ap Some (sym at) in
    let name : names (s.task y.entry.worker) ≡ Some n = names_started (s.task y.entry.worker) n started in
    let fits : TaskFits job.plan s.node s.mark (s.task y.entry.worker) = tasks.fits y.entry.worker in
    (started_taken job.plan s.node s.mark (s.task y.entry.worker) n fits started, tasks.holders.named y.entry.worker n name, batch.taken u y e, λ none. cc)

-- a taken worker that holds a leaf has its entry in the batch
pub batch_each : (job : CoreJob) (s : State) (h : Hold) (b : List Entry) (holder : ℕ → Option ℕ) (n u v : ℕ) → InductiveTasks job.plan s.node s.mark s.task holder
    → BatchFits job s h.taken b → job.plan.kind n ≡ Some (LeafNode u) → holder n ≡ Some v → h.taken v ≡ true → started_at (s.task v) ≢ None
    → worker_at (place_in (length s.book) 0 b u) ≡ Some v
batch_each job s h b holder n u v tasks batch leaf held took started =
    let at : started_at (s.task v) ≡ Some n = started_name (s.task v) n (tasks.holders.holds v n held) started in
    rw leaf at (batch.each v n took at)
