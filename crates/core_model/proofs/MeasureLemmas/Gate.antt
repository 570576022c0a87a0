-- What an event of the gate does to the count of events left.
use Rattle.std.proofs.Common.{ℕ, zero, suc, ◌≡◌, ◌≢◌, ◌<◌, ◌≤◌, ◌+◌, ◌==◌, if◌then◌else◌, Bool, true, false, Option, Some, None, List, arith, refl, inl, inr, sym, ◌∙◌, ap}
use Rattle.std.proofs.lemmas.Bool.{cases_eq}
use Rattle.std.proofs.lemmas.Bool.Decides.{nat_tests}
use Rattle.seq_objects.specs.Stores.{Store}
use Rattle.core_model.proofs.Words.{Kind, LeafNode, Entry, Task, Started, Kept, Status, Free, Pending, Executing, Served, CallState, NotCalled, Out, Got, Receipt, Post, Win, Take, Publish, Answer, Release, Leave, Keep, put, CoreJob, Hold, State}
use Rattle.core_model.specs.Operations.{leaf_of, op_in}
use Rattle.core_model.specs.Invariant.Tasks.{TaskFits}
use Rattle.core_model.specs.Events.{Needs, is_pending, new_hold, looked, published, answered}
use Rattle.core_model.specs.Invariant.Statuses.{is_taken_by}
use Rattle.core_model.specs.Invariant.Hold.{HoldInvariant}
use Rattle.core_model.proofs.Inductive.Parts.{InductiveParts}
use Rattle.core_model.specs.Measure.{total, worker_cost, task_cost, leaf_cost, status_cost, owns, hold_cost, measure}
use Rattle.core_model.proofs.InvariantLemmas.Puts.{put_at, put_other}
use Rattle.core_model.proofs.MeasureLemmas.Jobs.{total_change}
use Rattle.core_model.proofs.InvariantLemmas.StatusRows.{taken_executing}

pub total_le : (f g : ℕ → ℕ) (n : ℕ) → ((m : ℕ) → m < n → g m ≤ f m) → total g n ≤ total f n
total_le f g zero h = omega arith
total_le f g (suc n) h = let a = h n (omega arith) in let b : total g n ≤ total f n = total_le f g n (λ m l. h m (omega arith)) in omega arith

abbrev cost_of : CoreJob → State → ℕ → ℕ
cost_of job s v = worker_cost job (owns s.hold v) (s.task v) (s.status v) (s.call v)

owns_not : (workers : ℕ) (status : ℕ → Status) (call : ℕ → CallState) (w : ℕ) (o : Option Hold) → HoldInvariant workers status call o → call w ≡ NotCalled → owns o w ≡ false
owns_not workers status call w None h e = refl
owns_not workers status call w (Some hd) h e = elim (cases_eq hd.worker w) [
  | inl same ↦ let f = h.0 in let g = ap call same in absurd (let k : Out ≡ NotCalled = sym f ∙ (g ∙ e) in cc)
  | inr other ↦ grind (arith, nat_tests)
]

call_due : (job : CoreJob) (k : Option Kind) (u : ℕ) → k ≡ Some (LeafNode u) → op_in (job.act (leaf_of k)) ≢ None → leaf_cost job k ≡ job.workers + 6
call_due job k u e is = grind arith

self_eq : (w : ℕ) → (w == w) ≡ true
self_eq w = grind (arith, nat_tests)

other_eq : (w m : ℕ) → m ≢ w → (w == m) ≡ false
other_eq w m other = grind (arith, nat_tests)

look_le : (job : CoreJob) (o : Bool) (t : Task) (st : Status) (c : CallState) (m u : ℕ) (status : ℕ → Status) → st ≡ status m
    → status_cost job o t ((if is_pending (status u) then put status u Executing else status) m) c ≤ status_cost job o t st c
look_le job o t st c m u status e = grind (arith, nat_tests)

release_le : (job : CoreJob) (b : Bool) (t : Task) (st : Status) (c : CallState) → (b ≡ true → st ≢ Pending) → status_cost job false t st c ≤ status_cost job b t st c
release_le job b t st c h = grind arith

owner_is : (a b : ℕ) → (a == b) ≡ true → b ≡ a
owner_is a b e = grind (arith, nat_tests)

module _ (job : CoreJob) (s : State) (w : ℕ) (below : w < job.workers) (h : InductiveParts job s) where
  pub keep_lowers : (n t v : ℕ) → Needs job s w (Keep n t v) → measure job (record s { value = put s.value n (Some v); call = put s.call w NotCalled; task = put s.task w (Kept n t) }) < measure job s
  keep_lowers n t v needs =
      let a = total_change (cost_of job s) (cost_of job (record s { value = put s.value n (Some v); call = put s.call w NotCalled; task = put s.task w (Kept n t) })) w job.workers below (λ m other. rw (put_other s.task w m (Kept n t) other, put_other s.call w m NotCalled other) refl) in
      let b : cost_of job (record s { value = put s.value n (Some v); call = put s.call w NotCalled; task = put s.task w (Kept n t) }) w ≡ 3 = rw (put_at s.task w w (Kept n t) refl, put_at s.call w w NotCalled refl, needs.0) refl in
      let c : 4 ≤ cost_of job s w = rw (needs.0, needs.1) (omega arith) in omega arith

  pub post_lowers : (n t : ℕ) → Needs job s w (Post n t) → measure job (record s { status = put s.status w Pending; call = put s.call w Out }) < measure job s
  post_lowers n t needs =
      let fits : TaskFits job.plan s.node s.mark (Started n t) = rw needs.1 at (h.tasks.fits w) in
      let d = call_due job (job.plan.kind n) fits.0.0 fits.0.1 needs.2 in
      let o = owns_not job.workers s.status s.call w s.hold h.hold needs.3 in
      let a = total_change (cost_of job s) (cost_of job (record s { status = put s.status w Pending; call = put s.call w Out })) w job.workers below (λ m other. rw (put_other s.status w m Pending other, put_other s.call w m Out other) refl) in
      let b : cost_of job (record s { status = put s.status w Pending; call = put s.call w Out }) w ≡ 4 + (job.workers + 5) = rw (put_at s.status w w Pending refl, needs.1, o) refl in
      let c : cost_of job s w ≡ 4 + leaf_cost job (job.plan.kind n) = rw (needs.0, needs.1, needs.3) refl in omega arith

  -- a turn wins only for a pending worker
  pub win_lowers : s.status w ≡ Pending → Needs job s w Win → measure job (record s { hold = Some (new_hold w) }) < measure job s
  win_lowers pending needs =
      let a = total_change (cost_of job s) (cost_of job (record s { hold = Some (new_hold w) })) w job.workers below (λ m other. rw (other_eq w m other, needs.2) refl) in
      let b : cost_of job (record s { hold = Some (new_hold w) }) w ≡ task_cost job (s.task w) + 2 = rw (self_eq w, pending) refl in
      let c : cost_of job s w ≡ task_cost job (s.task w) + (job.workers + 5) = rw (needs.2, pending) refl in
      let d : hold_cost job.workers s.hold ≡ 0 = rw needs.2 refl in omega arith

  pub leave_lowers : (r : Receipt) → Needs job s w (Leave r) → measure job (record s { status = put s.status w Free; call = put s.call w (Got r) }) < measure job s
  leave_lowers r needs =
      let a = total_change (cost_of job s) (cost_of job (record s { status = put s.status w Free; call = put s.call w (Got r) })) w job.workers below (λ m other. rw (put_other s.status w m Free other, put_other s.call w m (Got r) other) refl) in
      let b : cost_of job (record s { status = put s.status w Free; call = put s.call w (Got r) }) w ≡ task_cost job (s.task w) + 0 = rw (put_at s.status w w Free refl, put_at s.call w w (Got r) refl) refl in
      let c : cost_of job s w ≡ task_cost job (s.task w) + 1 = rw needs.0 refl in omega arith

  pub publish_lowers : (book : List (List Entry)) (objects : Store) → Needs job s w Publish → measure job (record s { book = book; objects = objects; hold = published s.hold }) < measure job s
  publish_lowers book objects needs = let e = needs.1.0 in let f = needs.4 in rw (e, f) (omega arith)

  pub take_lowers : (u : ℕ) → Needs job s w (Take u) → measure job (record s { status = if is_pending (s.status u) then put s.status u Executing else s.status; hold = looked s.hold (is_pending (s.status u)) u }) < measure job s
  take_lowers u needs =
      let e = needs.1.0 in let hd = needs.0 in
      let a = total_le (cost_of job s) (λ m. worker_cost job (owns s.hold m) (s.task m) ((if is_pending (s.status u) then put s.status u Executing else s.status) m) (s.call m)) job.workers
      (λ m l. let k = look_le job (owns s.hold m) (s.task m) (s.status m) (s.call m) m u s.status refl in omega arith) in
      let a' = rw e at a in
      rw e (omega arith)

  pub answer_lowers : (u : ℕ) (r : Receipt) → Needs job s w (Answer u r) → measure job (record s { status = put s.status u (Served r); hold = answered s.hold u }) < measure job s
  answer_lowers u r needs =
      let e = needs.1.0 in let took = needs.3 in let unanswered = needs.4 in
      let hf : HoldInvariant job.workers s.status s.call (Some needs.0) = rw e at h.hold in
      let in' : u < job.workers = (let a = hf.2 u took in let b = hf.1 in omega arith) in
      let st : s.status u ≡ Executing = taken_executing job s.book (s.task u) (s.status u) (s.call u) (is_taken_by s.hold u) (rw (e, took, unanswered) refl) (h.statuses u) in
      let a = total_change (cost_of job s) (λ m. worker_cost job (owns s.hold m) (s.task m) (put s.status u (Served r) m) (s.call m)) u job.workers in' (λ m other. rw (put_other s.status u m (Served r) other) refl) in
      let a' = rw (put_at s.status u u (Served r) refl, st) at a in
      let a'' = rw e at a' in
      rw e (omega arith)

  pub release_lowers : Needs job s w Release → measure job (record s { hold = None }) < measure job s
  release_lowers needs =
      let e = needs.1.0 in
      let hf : HoldInvariant job.workers s.status s.call (Some needs.0) = rw e at h.hold in
      let mine = needs.1.1 in let all = needs.2 in
      let gone : s.status w ≢ Pending = (let k : needs.0.worker < needs.0.looks = omega arith in rw mine at (hf.7 k)) in
      let a = total_le (λ m. worker_cost job (owns (Some needs.0) m) (s.task m) (s.status m) (s.call m)) (cost_of job (record s { hold = None })) job.workers
      (λ m l. let k = release_le job (needs.0.worker == m) (s.task m) (s.status m) (s.call m) (λ o p. let q = owner_is needs.0.worker m o in gone (ap s.status (sym mine ∙ sym q) ∙ p)) in omega arith) in
      rw e (omega arith)
