-- The turns of a worker whose task is idle, and of one that is trapped.
use Rattle.std.proofs.Common.{ℕ, zero, suc, ◌≡◌, ◌≢◌, ◌<◌, ◌+◌, ◌-◌, ◌%◌, Option, Some, None, List, [], ◌∷◌, arith, refl, inl, inr, subst, ◌∙◌}
use Rattle.std.proofs.lemmas.Bool.Decides.{nat_tests}
use Rattle.std.proofs.lemmas.Bool.{cases_eq, cases_lt}
use Rattle.std.proofs.Math.Nat.{add-mod_right, mod-eq_of_lt}
use Rattle.core_model.proofs.Words.{Progress, Ready, Idle, Free, Served, Receipt, Event, Claim, Win, Take, Publish, Answer, Release, Leave, CoreJob, Hold, State}
use Rattle.core_model.specs.Lists.{times}
use Rattle.core_model.specs.Invariant.ReadyLists.{ReadyListsInvariant}
use Rattle.core_model.specs.Events.{Needs}
use Rattle.core_model.specs.Choice.{oldest_or, choice_steal, last_of, choice_idle}
use Rattle.core_model.proofs.ChoiceLemmas.Tasks.{Allows}

-- the worker does not have the flag
abbrev pub HoldsNot : State → ℕ → Type 0
HoldsNot s w = (h : Hold) → s.hold ≡ Some h → h.worker ≢ w

-- a trapped worker that does not have the flag has no event, where the flag is not free and it is not served
pub none_trapped : (job : CoreJob) (s : State) (w : ℕ) → HoldsNot s w → s.status w ≢ Free → s.hold ≢ None → ((receipt : Receipt) → s.status w ≢ Served receipt)
    → (event : Event) → Needs job s w event → ⊥
none_trapped job s w away busy held unserved Win needs = held needs.2
none_trapped job s w away busy held unserved (Take u) needs = away needs.0 needs.1.0 needs.1.1
none_trapped job s w away busy held unserved Publish needs = away needs.0 needs.1.0 needs.1.1
none_trapped job s w away busy held unserved (Answer u receipt) needs = away needs.0 needs.1.0 needs.1.1
none_trapped job s w away busy held unserved Release needs = away needs.0 needs.1.0 needs.1.1
none_trapped job s w away busy held unserved (Leave receipt) needs = unserved receipt needs.0
none_trapped job s w away busy held unserved _ needs = busy needs.0

-- a worker that is free and idle and does not have the flag has no event, where no node is ready
pub none_idle : (job : CoreJob) (s : State) (w : ℕ) → HoldsNot s w → s.status w ≡ Free → s.task w ≡ Idle → ((n : ℕ) → s.node n ≢ Ready)
    → (event : Event) → Needs job s w event → ⊥
none_idle job s w away free idle none (Claim n) needs = none n needs.2
none_idle job s w away free idle none Win needs = needs.0 free
none_idle job s w away free idle none (Take u) needs = away needs.0 needs.1.0 needs.1.1
none_idle job s w away free idle none Publish needs = away needs.0 needs.1.0 needs.1.1
none_idle job s w away free idle none (Answer u receipt) needs = away needs.0 needs.1.0 needs.1.1
none_idle job s w away free idle none Release needs = away needs.0 needs.1.0 needs.1.1
none_idle job s w away free idle none (Leave receipt) needs = let f = needs.0 in cc
none_idle job s w away free idle none _ needs = let f = needs.1 in cc

pub first_stands : (n m : ℕ) (ns : List ℕ) → n ≡ m → times n (m ∷ ns) ≢ 0
first_stands n m ns e none = grind (arith, nat_tests)

later_stands : (n m : ℕ) (ns : List ℕ) → times n ns ≢ 0 → times n (m ∷ ns) ≢ 0
later_stands n m ns some none = some (omega (arith, none))

pub last_stands : (n : ℕ) (ns : List ℕ) → times (last_of n ns) (n ∷ ns) ≢ 0
last_stands n [] = first_stands n n [] refl
last_stands n (m ∷ ms) = later_stands (last_of m ms) n (m ∷ ms) (last_stands m ms)

-- the list of this worker and those of the next ones after it are empty
all_empty : (ready : ℕ → List ℕ) (workers from many : ℕ) → ready (from % workers) ≡ [] → ((k : ℕ) → k < many → ready ((from + 1 + k) % workers) ≡ [])
    → (k : ℕ) → k < suc many → ready ((from + k) % workers) ≡ []
all_empty ready workers from many first rest zero below = let e : from ≡ from + 0 = omega arith in subst (λ n. ready (n % workers) ≡ []) e first
all_empty ready workers from many first rest (suc k) below = let e : from + 1 + k ≡ from + suc k = omega arith in rw e at (rest k (omega (arith, below)))

-- of an idle worker, the own list and those of all others are those of all workers
each_empty : (ready : ℕ → List ℕ) (workers w : ℕ) → w < workers → ready w ≡ [] → ((k : ℕ) → k < workers - 1 → ready ((w + 1 + k) % workers) ≡ [])
    → (v : ℕ) → v < workers → ready v ≡ []
each_empty ready workers w among own rest v below = elim (cases_eq v w) [
  | inl same ↦ rw same own
  | inr other ↦ elim (cases_lt v w) [
    | inl before ↦
        let e : w + 1 + (v + workers - w - 1) ≡ v + workers = omega (arith, among, before) in
        let f : (v + workers) % workers ≡ v = add-mod_right v workers ∙ mod-eq_of_lt below in
        rw (e, f) at (rest (v + workers - w - 1) (omega (arith, among, before)))
    | inr after ↦
        let e : w + 1 + (v - w - 1) ≡ v = omega (arith, after, other) in
        rw (e, mod-eq_of_lt below) at (rest (v - w - 1) (omega (arith, after, other, below)))
  ]
]

none_ready : (workers : ℕ) (node : ℕ → Progress) (ready : ℕ → List ℕ) → ReadyListsInvariant workers node ready → ((v : ℕ) → v < workers → ready v ≡ []) → (n : ℕ) → node n ≢ Ready
none_ready workers node ready lists empty n is =
    let home = lists.each n is in
    let once : times n [] ≡ 1 = rw (empty home.0 home.1) at home.2 in
    absurd (omega (arith, once))

module _ (job : CoreJob) (s : State) (w : ℕ) (ready : ℕ → List ℕ) (lists : ReadyListsInvariant job.workers s.node ready) (free : s.status w ≡ Free) (idle : s.task w ≡ Idle) where
  claim_allows : (v n : ℕ) → times n (ready v) ≢ 0 → Needs job s w (Claim n)
  claim_allows v n stands = (free, idle, lists.only n v stands)

  oldest_allows : (v : ℕ) (ns : List ℕ) (other : Option Event) → ready v ≡ ns → (ns ≡ [] → Allows job s w other) → Allows job s w (oldest_or ns other)
  oldest_allows v [] other at rest = rest refl
  oldest_allows v (n ∷ ns) other at rest = claim_allows v n (rw at (first_stands n n ns refl))

  steal_allows : (from many : ℕ) → (((k : ℕ) → k < many → ready ((from + k) % job.workers) ≡ []) → (event : Event) → Needs job s w event → ⊥)
      → Allows job s w (choice_steal ready job.workers from many)
  unfolding choice_steal
  steal_allows from zero none = none (λ k below. absurd (omega (arith, below)))
  steal_allows from (suc many) none =
      oldest_allows (from % job.workers) (ready (from % job.workers)) (choice_steal ready job.workers (from + 1) many) refl
      (λ empty. steal_allows (from + 1) many (λ rest. none (all_empty ready job.workers from many empty rest)))

  own_allows : w < job.workers → HoldsNot s w → (ns : List ℕ) → ready w ≡ ns → Allows job s w (choice_idle job ready w ns)
  own_allows among away (n ∷ ns) at = claim_allows w (last_of n ns) (rw at (last_stands n ns))
  own_allows among away [] at =
      steal_allows (w + 1) (job.workers - 1) (λ rest. none_idle job s w away free idle (none_ready job.workers s.node ready lists (each_empty ready job.workers w among at rest)))

  pub idle_allows : w < job.workers → HoldsNot s w → Allows job s w (choice_idle job ready w (ready w))
  idle_allows among away = own_allows among away (ready w) refl
