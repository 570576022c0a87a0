-- The choice of a worker's turn: the event it makes, or none. In each function the first matching case decides.
use Rattle.core_model.specs.Lists.{ready_after}
use Rattle.core_model.specs.Next.{event_in, next_act}
use Rattle.core_model.specs.declared.next.Next.{Next}
use Rattle.core_model.specs.Operations.{Place, leaf_of, place_of, receipt_for}
use Rattle.core_model.specs.State.{CoreJob, CoreState, Hold, State, put}
use Rattle.core_model.specs.Tasks.{names}
use Rattle.core_model.specs.Words.{Event, Answer, Claim, Leave, Publish, Release, Take, Win, Status, Executing, Free, Pending, Served, Task, Idle, Nodes}
use Rattle.std.specs.Prelude.{Bool, List, None, Option, Some, [], false, if◌then◌else◌, nat_lt, not, suc, zero, ℕ, ◌%◌, ◌&&◌, ◌++◌, ◌+◌, ◌-◌, ◌==◌, ◌||◌, ◌∷◌, ◌≡◌, ◌⊎◌}

-- some number below the bound satisfies `chosen`
unfoldable pub some_below : (ℕ → Bool) → ℕ → Bool
some_below chosen zero = false
some_below chosen (suc bound) = some_below chosen bound || chosen bound

abbrev pub first_of : Option ℕ → Bool → ℕ → Option ℕ
first_of (Some least) chosen last = Some least
first_of None chosen last = if chosen then Some last else None

-- the least number below the bound that satisfies `chosen`
unfoldable pub least_below : (ℕ → Bool) → ℕ → Option ℕ
least_below chosen zero = None
least_below chosen (suc bound) = first_of (least_below chosen bound) (chosen bound) bound

-- worker `u`'s call is taken and not answered
abbrev pub is_owed : Hold → ℕ → Bool
is_owed h u = h.taken u && not (h.answered u)

-- the leaf at the node, 0 without a node or for a block
abbrev pub leaf_named : Nodes → Option ℕ → ℕ
leaf_named plan None = 0
leaf_named plan (Some n) = leaf_of (plan.kind n)

-- worker `u` is handed the receipt for the entry at this place
abbrev pub answer_with : ℕ → Option Place → Option Event
answer_with u None = None
answer_with u (Some place) = Some (Answer u (receipt_for place))

-- the least worker owed an answer gets the receipt of its leaf's entry; if none is owed, the flag is released
abbrev pub choice_answer : Nodes → State → Option ℕ → Option Event
choice_answer plan s None = Some Release
choice_answer plan s (Some u) = answer_with u (place_of s.book (leaf_named plan (names (s.task u))))

-- the turn of the flag's owner: look at each worker in order, publish if some call is taken, answer each taken worker,
-- then release the flag
abbrev pub choice_holding : CoreJob → State → Hold → Option Event
choice_holding job s h =
    if nat_lt h.looks job.workers then Some (Take h.looks)
    else if some_below h.taken job.workers && not h.published then Some Publish
    else choice_answer job.plan s (least_below (is_owed h) job.workers)

-- a worker with a pending call wins the flag if it is free
abbrev pub choice_pending : Option Hold → Option Event
choice_pending None = Some Win
choice_pending (Some h) = None

-- a claim of the list's oldest node, or `other` if the list is empty
abbrev pub oldest_or : List ℕ → Option Event → Option Event
oldest_or [] other = other
oldest_or (n ∷ ns) other = Some (Claim n)

-- a claim of the oldest node of the first non-empty list of the `many` workers from `from` on, modulo `workers`
unfoldable pub choice_steal : (ℕ → List ℕ) → ℕ → ℕ → ℕ → Option Event
choice_steal ready workers from zero = None
choice_steal ready workers from (suc many) = oldest_or (ready (from % workers)) (choice_steal ready workers (from + 1) many)

-- the last number of the list `n ∷ ns`
abbrev pub last_of : ℕ → List ℕ → ℕ
last_of n [] = n
last_of n (m ∷ ms) = last_of m ms

-- task `Idle`: the own list's newest node, else a steal of the oldest node of another list
abbrev pub choice_idle : CoreJob → (ℕ → List ℕ) → ℕ → List ℕ → Option Event
choice_idle job ready w [] = choice_steal ready job.workers (w + 1) (job.workers - 1)
choice_idle job ready w (n ∷ ns) = Some (Claim (last_of n ns))

-- the event of a next act, if there is one
abbrev pub event_if : CoreJob → State → Option Next → Option Event
event_if job s None = None
event_if job s (Some act) = Some (event_in job s act)

-- the turn of a worker that is not trapped: it claims a node if it has no task, else it makes its next act
abbrev pub choice_free : CoreJob → CoreState → ℕ → Task → Option Event
choice_free job s w Idle = choice_idle job s.ready w (s.ready w)
choice_free job s w task = event_if job s.state (next_act job task (s.state.call w))

-- the turn of a worker that does not own the flag, by its status
abbrev pub choice_by : CoreJob → CoreState → ℕ → Status → Option Event
choice_by job s w Free = choice_free job s w (s.state.task w)
choice_by job s w Pending = choice_pending s.state.hold
choice_by job s w Executing = None
choice_by job s w (Served receipt) = Some (Leave receipt)

abbrev pub choice_under : CoreJob → CoreState → ℕ → Option Hold → Option Event
choice_under job s w None = choice_by job s w (s.state.status w)
choice_under job s w (Some h) = if h.worker == w then choice_holding job s.state h else choice_by job s w (s.state.status w)

-- the choice of worker `w`'s turn
abbrev pub choice : CoreJob → CoreState → ℕ → Option Event
choice job s w = choice_under job s w s.state.hold

-- Node `n`, claimed by worker `w`, is the newest of `w`'s list, or, if that is empty, the oldest of some list. The
-- claim changes nothing but that end of that list.
abbrev pub LeavesAnEnd : (ℕ → List ℕ) → ℕ → ℕ → Type 0
LeavesAnEnd ready w n =
    ((rest : List ℕ) × (ready w ≡ rest ++ n ∷ []) × (ready_after w (Claim n) ready ≡ put ready w rest))
    ⊎ ((v : ℕ) × (rest : List ℕ) × (ready w ≡ []) × (ready v ≡ n ∷ rest) × (ready_after w (Claim n) ready ≡ put ready v rest))
