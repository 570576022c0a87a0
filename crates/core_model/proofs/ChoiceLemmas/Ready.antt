-- The node that a turn claims is the newest of the own list, or, where that is empty, the oldest of another one; and
-- the claim takes it off at that end.
use Rattle.std.proofs.Common.{ℕ, zero, suc, ◌≡◌, ◌≢◌, ◌<◌, ◌+◌, ◌-◌, ◌%◌, ◌==◌, if◌then◌else◌, Option, Some, None, List, [], ◌∷◌, ◌++◌, arith, refl, inl, inr, sym, ◌∙◌, ap}
use Rattle.std.proofs.lemmas.Bool.Decides.{nat_tests}
use Rattle.std.proofs.lemmas.Bool.{cases_eq}
use Rattle.core_model.proofs.Words.{IsPlan, Progress, Idle, Free, Event, Claim, put, CoreJob, Hold, State, CoreState}
use Rattle.core_model.specs.LeafSources.{HasSources}
use Rattle.core_model.specs.Lists.{without, times, ready_after}
use Rattle.core_model.specs.Invariant.ReadyLists.{ReadyListsInvariant}
use Rattle.core_model.specs.Invariant.Statuses.{is_taken_by}
use Rattle.core_model.specs.Invariant.Hold.{HoldInvariant}
use Rattle.core_model.proofs.Inductive.Parts.{InductiveParts}
use Rattle.core_model.specs.Choice.{oldest_or, choice_steal, last_of, choice_idle, choice_free, choice_by, choice_under, choice, LeavesAnEnd}
use Rattle.core_model.proofs.InvariantLemmas.Puts.{put_at, put_other}
use Rattle.core_model.proofs.InvariantLemmas.StatusRows.{not_out}
use Rattle.core_model.proofs.ChoiceLemmas.Idle.{HoldsNot, first_stands}
use Rattle.core_model.proofs.ChoiceLemmas.Choices.{choice_needs}

-- a list without a number that does not stand in it
pub without_none : (n : ℕ) (xs : List ℕ) → times n xs ≡ 0 → without n xs ≡ xs
without_none n [] h = refl
without_none n (x ∷ xs) h = let ih = without_none n xs in grind (arith, nat_tests, ih)

none_of : (n x : ℕ) (xs : List ℕ) → times n (x ∷ xs) ≡ 0 → times n xs ≡ 0
none_of n x xs none = omega (arith, none)

drops_first : (n : ℕ) (xs other : List ℕ) → (if n == n then xs else other) ≡ xs
drops_first n xs other = grind (arith, nat_tests)

first_once : (n : ℕ) (xs : List ℕ) → times n (n ∷ xs) ≡ 1 → times n xs ≡ 0
first_once n xs once = grind (arith, nat_tests)

-- and one that stands in it once, at its front
pub without_first : (n : ℕ) (xs : List ℕ) → times n (n ∷ xs) ≡ 1 → without n (n ∷ xs) ≡ xs
without_first n xs once = drops_first n (without n xs) (n ∷ without n xs) ∙ without_none n xs (first_once n xs once)

some_last : (n : ℕ) (xs : List ℕ) → times n (xs ++ n ∷ []) ≢ 0
some_last n [] none = first_stands n n [] refl none
some_last n (x ∷ xs) none = some_last n xs (none_of n x (xs ++ n ∷ []) none)

last_once : (n x : ℕ) (xs : List ℕ) → times n xs ≢ 0 → times n (x ∷ xs) ≡ 1 → (x ≢ n) × (times n xs ≡ 1)
last_once n x xs some once = grind (arith, nat_tests)

keeps : (n x : ℕ) (xs ys : List ℕ) → x ≢ n → xs ≡ ys → (if x == n then xs else x ∷ xs) ≡ x ∷ ys
keeps n x xs ys other same = grind (arith, nat_tests)

-- or at its end
pub without_last : (n : ℕ) (xs : List ℕ) → times n (xs ++ n ∷ []) ≡ 1 → without n (xs ++ n ∷ []) ≡ xs
without_last n [] once = drops_first n [] (n ∷ [])
without_last n (x ∷ xs) once =
    let both = last_once n x (xs ++ n ∷ []) (some_last n xs) once in
    keeps n x (without n (xs ++ n ∷ [])) xs both.0 (without_last n xs both.1)

-- a node that stands in a list stands there once, and in no other
pub once_there : (workers : ℕ) (node : ℕ → Progress) (ready : ℕ → List ℕ) (v n : ℕ) → ReadyListsInvariant workers node ready → times n (ready v) ≢ 0
    → (times n (ready v) ≡ 1) × ((u : ℕ) → u ≢ v → times n (ready u) ≡ 0)
once_there workers node ready v n lists stands =
    let home = lists.each n (lists.only n v stands) in
    elim (cases_eq v home.0) [
      | inl same ↦ (rw same home.2, λ u other. home.3 u (rw same at other))
      | inr other ↦ absurd (stands (home.3 v other))
    ]

claim_off : (ready : ℕ → List ℕ) (w v n : ℕ) (rest : List ℕ) → without n (ready v) ≡ rest → ((u : ℕ) → u ≢ v → times n (ready u) ≡ 0) → ready_after w (Claim n) ready ≡ put ready v rest
claim_off ready w v n rest here there = λ i u. at u i
  where
    at : (u : ℕ) → without n (ready u) ≡ put ready v rest u
    at u = elim (cases_eq u v) [
      | inl e ↦ rw e here ∙ sym (put_at ready v u rest e)
      | inr e ↦ without_none n (ready u) (there u e) ∙ sym (put_other ready v u rest e)
    ]

-- the claim of the newest node of a list leaves the others
pub claim_newest : (workers : ℕ) (node : ℕ → Progress) (ready : ℕ → List ℕ) (w v n : ℕ) (rest : List ℕ) → ReadyListsInvariant workers node ready → ready v ≡ rest ++ n ∷ []
    → ready_after w (Claim n) ready ≡ put ready v rest
claim_newest workers node ready w v n rest lists at =
    let once = once_there workers node ready v n lists (rw at (some_last n rest)) in
    let one : times n (rest ++ n ∷ []) ≡ 1 = rw at at once.0 in
    claim_off ready w v n rest (rw at (without_last n rest one)) once.1

-- and so does that of the oldest
pub claim_oldest : (workers : ℕ) (node : ℕ → Progress) (ready : ℕ → List ℕ) (w v n : ℕ) (rest : List ℕ) → ReadyListsInvariant workers node ready → ready v ≡ n ∷ rest
    → ready_after w (Claim n) ready ≡ put ready v rest
claim_oldest workers node ready w v n rest lists at =
    let once = once_there workers node ready v n lists (rw at (first_stands n n rest refl)) in
    let one : times n (n ∷ rest) ≡ 1 = rw at at once.0 in
    claim_off ready w v n rest (rw at (without_first n rest one)) once.1

ends_with : (n m : ℕ) (ns : List ℕ) → m ≡ last_of n ns → (rest : List ℕ) × (n ∷ ns ≡ rest ++ m ∷ [])
ends_with n m [] e = ([], rw e refl)
ends_with n m (x ∷ xs) e = let before = ends_with x m xs e in (n ∷ before.0, ap (λ (zs : List ℕ). n ∷ zs) before.1)

claimed_is : (n m : ℕ) → Some (Claim n) ≡ Some (Claim m) → m ≡ n
claimed_is n m e = grind arith

abbrev IsOldest : (ℕ → List ℕ) → ℕ → Type 0
IsOldest ready n = (v : ℕ) × (rest : List ℕ) × (ready v ≡ n ∷ rest)

oldest_is : (ready : ℕ → List ℕ) (v n : ℕ) (ns : List ℕ) (other : Option Event) → ready v ≡ ns → (other ≡ Some (Claim n) → IsOldest ready n) → oldest_or ns other ≡ Some (Claim n) → IsOldest ready n
oldest_is ready v n [] other at rest e = rest e
oldest_is ready v n (m ∷ ms) other at rest e = let same : n ≡ m = claimed_is m n e in (v, ms, rw same at)

stolen_is : (ready : ℕ → List ℕ) (workers from many n : ℕ) → choice_steal ready workers from many ≡ Some (Claim n) → IsOldest ready n
unfolding choice_steal
stolen_is ready workers from zero n e = absurd (grind arith)
stolen_is ready workers from (suc many) n e =
    oldest_is ready (from % workers) n (ready (from % workers)) (choice_steal ready workers (from + 1) many) refl (stolen_is ready workers (from + 1) many n) e

pub idle_leaves : (job : CoreJob) (node : ℕ → Progress) (ready : ℕ → List ℕ) (w n : ℕ) (ns : List ℕ) → ReadyListsInvariant job.workers node ready → ready w ≡ ns
    → choice_idle job ready w ns ≡ Some (Claim n) → LeavesAnEnd ready w n
idle_leaves job node ready w n (m ∷ ms) lists at e =
    let ends = ends_with m n ms (claimed_is (last_of m ms) n e) in
    inl (ends.0, at ∙ ends.1, claim_newest job.workers node ready w w n ends.0 lists (at ∙ ends.1))
idle_leaves job node ready w n [] lists at e =
    let oldest = stolen_is ready job.workers (w + 1) (job.workers - 1) n e in
    inr (oldest.0, oldest.1, at, oldest.2, claim_oldest job.workers node ready w oldest.0 n oldest.1 lists oldest.2)

-- a worker that is not trapped does not have the flag
pub free_holds_not : (job : CoreJob) (s : State) (w : ℕ) → InductiveParts job s → s.status w ≡ Free → HoldsNot s w
free_holds_not job s w h free hd held mine =
    let stands : HoldInvariant job.workers s.status s.call (Some hd) = rw held at h.hold in
    not_out job s.book (s.task w) (s.status w) (s.call w) (is_taken_by s.hold w) free (h.statuses w) (rw mine at stands.0)

pub not_under : (job : CoreJob) (s : CoreState) (w : ℕ) (o : Option Hold) → ((h : Hold) → o ≡ Some h → h.worker ≢ w) → choice_under job s w o ≡ choice_by job s w (s.state.status w)
not_under job s w None away = refl
not_under job s w (Some h) away = let other = away h refl in grind (arith, nat_tests)

-- the turn of a worker that is not trapped and whose task is idle
pub choice_of_idle : (job : CoreJob) (s : CoreState) (w : ℕ) → InductiveParts job s.state → s.state.status w ≡ Free → s.state.task w ≡ Idle → choice job s w ≡ choice_idle job s.ready w (s.ready w)
choice_of_idle job s w h free idle =
    not_under job s w s.state.hold (free_holds_not job s.state w h free) ∙ (ap (choice_by job s w) free ∙ ap (choice_free job s w) idle)

-- where a turn claims a node, the node leaves the right end of its list
pub choice_ready : (job : CoreJob) (s : CoreState) (w n : ℕ) → IsPlan job.plan → HasSources job → w < job.workers → InductiveParts job s.state → ReadyListsInvariant job.workers s.state.node s.ready
    → choice job s w ≡ Some (Claim n) → LeavesAnEnd s.ready w n
choice_ready job s w n laws sources among h lists chosen =
    let needs = choice_needs job s w (Claim n) laws sources among h lists chosen in
    idle_leaves job s.state.node s.ready w n (s.ready w) lists refl (sym (choice_of_idle job s w h needs.0 needs.1) ∙ chosen)
