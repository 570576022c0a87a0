-- Where the root is not done, some worker's turn makes an event.
use Rattle.std.proofs.Common.{ℕ, zero, suc, ◌≡◌, ◌≢◌, ◌<◌, ◌+◌, ◌⊎◌, Bool, true, false, Option, Some, None, List, [], arith, refl, inl, inr, sym, ◌∙◌, ap}
use Rattle.std.proofs.lemmas.Bool.{cases_eq, cases_lt}
use Rattle.core_model.proofs.Words.{LeafNode, SeqNode, ParNode, Move, Root, OpenSecond, FinishParent, Arrive as ArriveAt, Tree, leaf, seq, par, leaves, Nodes, IsPlan, node_count, OccursAt, IsPlanOf, Entry, Progress, Waiting, Ready, Taken, Task, Idle, Status, Free, Pending, Executing, Served, CallState, Receipt, Event, Claim, Win, Leave, CoreJob, Hold, State, CoreState, is_done, names}
use Rattle.core_model.specs.LeafSources.{HasSources}
use Rattle.core_model.specs.Invariant.ReadyLists.{ReadyListsInvariant}
use Rattle.core_model.specs.Events.{Needs}
use Rattle.core_model.specs.Invariant.Statuses.{is_taken_by}
use Rattle.core_model.specs.Invariant.Hold.{HoldInvariant}
use Rattle.core_model.proofs.Inductive.Nodes.{passed_if, LeftAlone, InductiveTasks}
use Rattle.core_model.proofs.Inductive.Book.{StatusFits}
use Rattle.core_model.proofs.Inductive.Parts.{InductiveParts}
use Rattle.core_model.specs.Choice.{choice_holding, choice_free, choice}
use Rattle.core_model.proofs.InvariantLemmas.FinishTasks.{unnamed}
use Rattle.core_model.proofs.ChoiceLemmas.Tasks.{Gives, task_gives}
use Rattle.core_model.proofs.ChoiceLemmas.Gate.{holding_gives}
use Rattle.core_model.proofs.InvariantLemmas.StatusRows.{call_out, out_busy, idle_free}
use Rattle.core_model.proofs.ChoiceLemmas.Choices.{is_idle, none_has_no_event}

ready_or_taken : (x : Progress) → x ≢ Waiting → is_done x ≡ false → (x ≡ Ready) ⊎ (x ≡ Taken)
ready_or_taken x h g = grind arith

done_or_not : (x : Progress) → (is_done x ≡ true) ⊎ (is_done x ≡ false)
done_or_not x = grind arith

both_passed : (a b : Bool) (o q : Option ℕ) → a ≡ true → b ≡ true → o ≡ None → q ≡ None → passed_if a o + passed_if b q < 2 → ⊥
both_passed a b o q e f g h l = grind arith

-- where no task names a node, a ready node stands below each taken one
module _ (plan : Nodes) (node : ℕ → Progress) (mark : ℕ → ℕ) (task : ℕ → Task) (holder : ℕ → Option ℕ) (h : InductiveTasks plan node mark task holder) (idle : (n : ℕ) → holder n ≡ None) where
  find_ready : (a : Tree) (n u : ℕ) (m : Move) → OccursAt plan a n u m → (node n ≡ Ready) ⊎ (node n ≡ Taken) → (k : ℕ) × (node k ≡ Ready)
  find_ready a n u m st (inl ready) = (n, ready)
  find_ready leaf n u m st (inr taken) =
      let alone : LeftAlone (Some (LeafNode u)) node mark holder n = rw st.0 at (h.alone n taken (idle n)) in
      absurd alone
  find_ready (seq a b) n u m st (inr taken) =
      let alone : LeftAlone (Some (SeqNode (n + 1) (n + 1 + node_count a))) node mark holder n = rw st.0 at (h.alone n taken (idle n)) in
      elim (done_or_not (node (n + 1))) [
        | inr going ↦ find_ready a (n + 1) u (OpenSecond n) st.2 (ready_or_taken (node (n + 1)) alone.0 going)
        | inl done ↦ elim (done_or_not (node (n + 1 + node_count a))) [
          | inr going ↦ find_ready b (n + 1 + node_count a) (u + leaves a) (FinishParent n) st.3 (ready_or_taken (node (n + 1 + node_count a)) (alone.1 done (idle (n + 1))) going)
          | inl both ↦ absurd (alone.2 both (idle (n + 1 + node_count a)))
        ]
      ]
  find_ready (par a b) n u m st (inr taken) =
      let alone : LeftAlone (Some (ParNode (n + 1) (n + 1 + node_count a))) node mark holder n = rw st.0 at (h.alone n taken (idle n)) in
      elim (done_or_not (node (n + 1))) [
        | inr going ↦ find_ready a (n + 1) u (ArriveAt n) st.2 (ready_or_taken (node (n + 1)) alone.0 going)
        | inl done ↦ elim (done_or_not (node (n + 1 + node_count a))) [
          | inr going ↦ find_ready b (n + 1 + node_count a) (u + leaves a) (ArriveAt n) st.3 (ready_or_taken (node (n + 1 + node_count a)) alone.1 going)
          | inl both ↦ absurd (both_passed (is_done (node (n + 1))) (is_done (node (n + 1 + node_count a))) (holder (n + 1)) (holder (n + 1 + node_count a)) done both (idle (n + 1)) (idle (n + 1 + node_count a))
              (rw (h.marks n (n + 1) (n + 1 + node_count a) st.0) at alone.2))
        ]
      ]

-- some worker has an event whose needs are met
abbrev HasEvent : CoreJob → State → Type 0
HasEvent job s = (w : ℕ) × (w < job.workers) × (event : Event) × Needs job s w event

given : (job : CoreJob) (s : State) (w : ℕ) (o : Option Event) → Gives job s w o → (event : Event) × Needs job s w event
given job s w None h = absurd h
given job s w (Some event) h = (event, h)

which_trapped : (job : CoreJob) (book : List (List Entry)) (t : Task) (st : Status) (c : CallState) (b : Bool) → b ≡ false → StatusFits job book t st c b → (st ≡ Free) ⊎ ((st ≡ Pending) ⊎ ((receipt : Receipt) × (st ≡ Served receipt)))
which_trapped job book t Free c b e h = inl refl
which_trapped job book t Pending c b e h = inr (inl refl)
which_trapped job book t Executing c b e h = absurd (grind arith)
which_trapped job book t (Served receipt) c b e h = inr (inr (receipt, refl))

-- the first k numbers all have the first property, or one has the second
search : (P Q : ℕ → Type 0) → ((n : ℕ) → P n ⊎ Q n) → (k : ℕ) → ((n : ℕ) × (n < k) × Q n) ⊎ ((n : ℕ) → n < k → P n)
search P Q either zero = inr (λ n below. absurd (omega (arith, below)))
search P Q either (suc k) = elim (search P Q either k) [
  | inl found ↦ inl (found.0, omega (arith, found.1), found.2)
  | inr all ↦ elim (either k) [
    | inl holds ↦ inr (λ n below. elim (cases_eq n k) [ inl e ↦ rw e holds | inr e ↦ all n (omega (arith, below, e)) ])
    | inr other ↦ inl (k, omega arith, other)
  ]
]

module _ (job : CoreJob) (s : State) (laws : IsPlan job.plan) (sources : HasSources job) (h : InductiveParts job s) where
  busy_below : (w : ℕ) → s.task w ≢ Idle → w < job.workers
  busy_below w busy = elim (cases_lt w job.workers) [ inl below ↦ below | inr beyond ↦ absurd (busy (h.beyond w beyond)) ]

  -- the worker that has the flag has an event
  holder_event : (hd : Hold) → s.hold ≡ Some hd → HasEvent job s
  holder_event hd held =
      let stands : HoldInvariant job.workers s.status s.call (Some hd) = rw held at h.hold in
      let busy = out_busy job s.book (s.task hd.worker) (s.status hd.worker) (s.call hd.worker) (is_taken_by s.hold hd.worker) stands.0 (h.statuses hd.worker) in
      let has = given job s hd.worker (choice_holding job s hd) (holding_gives job s hd.worker h hd (held, refl)) in
      (hd.worker, busy_below hd.worker busy, has.0, has.1)

  trapped_event : (w : ℕ) → s.hold ≡ None → s.status w ≢ Free → (event : Event) × Needs job s w event
  trapped_event w none busy =
      let taken : is_taken_by s.hold w ≡ false = rw none refl in
      elim (which_trapped job s.book (s.task w) (s.status w) (s.call w) (is_taken_by s.hold w) taken (h.statuses w)) [
        | inl free ↦ absurd (busy free)
        | inr (inl pending) ↦ (Win, (busy, call_out job s.book (s.task w) (s.status w) (s.call w) (is_taken_by s.hold w) busy (h.statuses w), none))
        | inr (inr served) ↦ (Leave served.0, (served.1, λ hd e. let f = sym none ∙ e in absurd cc))
      ]

  -- a worker with a task has an event, where the flag is free
  busy_event : (w : ℕ) → s.hold ≡ None → s.task w ≢ Idle → (ready : ℕ → List ℕ) → (event : Event) × Needs job s w event
  busy_event w none busy ready = elim (is_free (s.status w)) [
    | inl free ↦ given job s w (choice_free job (record { state = s; ready = ready }) w (s.task w)) (task_gives job s w laws sources h free ready (s.task w) refl busy (h.tasks.fits w))
    | inr trapped ↦ trapped_event w none trapped
  ]
    where
      is_free : (st : Status) → (st ≡ Free) ⊎ (st ≢ Free)
      is_free st = grind arith

  all_idle : ((w : ℕ) → w < job.workers → s.task w ≡ Idle) → (v : ℕ) → s.task v ≡ Idle
  all_idle idle v = elim (cases_lt v job.workers) [ inl below ↦ idle v below | inr beyond ↦ h.beyond v beyond ]

  -- where no worker has a task, a node is ready
  some_ready : (tree : Tree) → IsPlanOf job.plan tree → is_done (s.node 0) ≡ false → ((v : ℕ) → s.task v ≡ Idle) → (n : ℕ) × (s.node n ≡ Ready)
  some_ready tree plan going idle =
      let unheld = λ (n : ℕ). unnamed job.plan s.node s.mark s.task h.holder 0 laws h.nodes h.tasks n (λ v e. let f = sym (ap names (idle v)) ∙ e in cc) in
      find_ready job.plan s.node s.mark s.task h.holder h.tasks unheld tree 0 0 Root plan.stands (ready_or_taken (s.node 0) h.nodes.root going)

  idle_event : (tree : Tree) (ready : ℕ → List ℕ) → IsPlanOf job.plan tree → ReadyListsInvariant job.workers s.node ready → is_done (s.node 0) ≡ false → ((v : ℕ) → s.task v ≡ Idle) → HasEvent job s
  idle_event tree ready plan lists going idle =
      let found = some_ready tree plan going idle in
      let home = lists.each found.0 found.1 in
      let free = idle_free job s.book (s.task home.0) (s.status home.0) (s.call home.0) (is_taken_by s.hold home.0) (idle home.0) (h.statuses home.0) in
      (home.0, home.1, Claim found.0, (free.0, idle home.0, found.1))

  some_event : (tree : Tree) (ready : ℕ → List ℕ) → IsPlanOf job.plan tree → ReadyListsInvariant job.workers s.node ready → is_done (s.node 0) ≡ false → (o : Option Hold) → s.hold ≡ o → HasEvent job s
  some_event tree ready plan lists going (Some hd) held = holder_event hd held
  some_event tree ready plan lists going None none =
      elim (search (λ w. s.task w ≡ Idle) (λ w. s.task w ≢ Idle) (λ w. is_idle (s.task w)) job.workers) [
        | inl found ↦ (let has = busy_event found.0 none found.2 ready in (found.0, found.1, has.0, has.1))
        | inr idle ↦ idle_event tree ready plan lists going (all_idle idle)
      ]

  -- a worker that has a task is among those that go on, where the others have none
  busy_live : (live : ℕ → Bool) (w : ℕ) (b : Bool) → live w ≡ b → (live w ≡ false → s.task w ≡ Idle) → s.task w ≢ Idle → live w ≡ true
  busy_live live w true is idle busy = is
  busy_live live w false is idle busy = absurd (busy (idle is))

  -- one of the workers that go on has an event
  live_event : (tree : Tree) (live : ℕ → Bool) (one : ℕ) → IsPlanOf job.plan tree → is_done (s.node 0) ≡ false → one < job.workers → live one ≡ true
      → ((w : ℕ) → w < job.workers → live w ≡ false → s.task w ≡ Idle) → (o : Option Hold) → s.hold ≡ o
      → (w : ℕ) × (w < job.workers) × (live w ≡ true) × (event : Event) × Needs job s w event
  live_event tree live one plan going below on idle (Some hd) held =
      let stands : HoldInvariant job.workers s.status s.call (Some hd) = rw held at h.hold in
      let busy = out_busy job s.book (s.task hd.worker) (s.status hd.worker) (s.call hd.worker) (is_taken_by s.hold hd.worker) stands.0 (h.statuses hd.worker) in
      let has = given job s hd.worker (choice_holding job s hd) (holding_gives job s hd.worker h hd (held, refl)) in
      let among = busy_below hd.worker busy in
      (hd.worker, among, busy_live live hd.worker (live hd.worker) refl (idle hd.worker among) busy, has.0, has.1)
  live_event tree live one plan going below on idle None none =
      elim (search (λ w. s.task w ≡ Idle) (λ w. s.task w ≢ Idle) (λ w. is_idle (s.task w)) job.workers) [
        | inl found ↦ (let has = busy_event found.0 none found.2 (λ v. []) in (found.0, found.1, busy_live live found.0 (live found.0) refl (idle found.0 found.1) found.2, has.0, has.1))
        | inr all ↦ (let ready = some_ready tree plan going (all_idle all) in
            let free = idle_free job s.book (s.task one) (s.status one) (s.call one) (is_taken_by s.hold one) (all one below) (h.statuses one) in
            (one, below, on, Claim ready.0, (free.0, all one below, ready.1)))
      ]

-- where the root is not done, the turn of some worker makes an event
pub some_turn : (job : CoreJob) (tree : Tree) (s : CoreState) → IsPlan job.plan → HasSources job → IsPlanOf job.plan tree → InductiveParts job s.state → ReadyListsInvariant job.workers s.state.node s.ready
    → is_done (s.state.node 0) ≡ false → (w : ℕ) × (w < job.workers) × (choice job s w ≢ None)
some_turn job tree s laws sources plan h lists going =
    let some = some_event job s.state laws sources h tree s.ready plan lists going s.state.hold refl in
    (some.0, some.1, λ none. none_has_no_event job s some.0 laws sources some.1 h lists none some.2 some.3)

-- while the root is not done, no stopped worker has a task and one is live, the turn of some live worker makes an event
pub some_live_turn : (job : CoreJob) (tree : Tree) (s : CoreState) (live : ℕ → Bool) (one : ℕ) → IsPlan job.plan → HasSources job → IsPlanOf job.plan tree → InductiveParts job s.state → ReadyListsInvariant job.workers s.state.node s.ready
    → is_done (s.state.node 0) ≡ false → one < job.workers → live one ≡ true → ((w : ℕ) → w < job.workers → live w ≡ false → s.state.task w ≡ Idle)
    → (w : ℕ) × (w < job.workers) × (live w ≡ true) × (choice job s w ≢ None)
some_live_turn job tree s live one laws sources plan h lists going below on idle =
    let some = live_event job s.state laws sources h tree live one plan going below on idle s.state.hold refl in
    (some.0, some.1, some.2, λ none. none_has_no_event job s some.0 laws sources some.1 h lists none some.3 some.4)
