-- Each event keeps the lists of ready nodes.
use Rattle.std.proofs.Common.{ℕ, ◌≡◌, ◌≢◌, ◌<◌, ◌+◌, ◌==◌, true, if◌then◌else◌, Option, Some, None, List, [], ◌∷◌, ◌++◌, arith, refl, subst, sym, ◌∙◌, ap}
use Rattle.core_model.specs.Lists.{without, times, ready_after}
use Rattle.core_model.specs.Invariant.ReadyLists.{ReadyListsInvariant}
use Rattle.core_model.proofs.Inductive.Lists.{stands_in, InductiveLists}
use Rattle.core_model.specs.State.{opening_core}
use Rattle.std.proofs.lemmas.Bool.Decides.{nat_tests}
use Rattle.core_model.proofs.Words.{SeqNode, ParNode, IsPlan, parent_of, Progress, Waiting, Ready, Taken, Done, Ran, Task, Run, Half, Ended, Whole, Handed, Event, Claim, Start, OpenParRight, OpenParLeft, OpenSeqLeft, OpenSeqRight, Post, Win, Take, Publish, Answer, Release, Leave, Keep, End, FinishLeaf, FinishSeq, FinishPar, ArriveFirst, ArriveSecond, put, CoreJob, State, is_done}
use Rattle.core_model.specs.State.{opening_state}
use Rattle.core_model.specs.Invariant.Tasks.{TaskFits}
use Rattle.core_model.specs.Events.{Needs, Does}
use Rattle.core_model.proofs.Inductive.Parts.{InductiveParts}

-- how often a number stands in two lists
times_append : (n : ℕ) (xs ys : List ℕ) → times n (xs ++ ys) ≡ times n xs + times n ys
times_append n [] ys = omega arith
times_append n (x ∷ xs) ys = let h = times_append n xs ys in omega (arith, h)

-- a number is dropped, where it stands first
dropped : (n x : ℕ) (xs : List ℕ) → times n (without n xs) ≡ 0 → times n (if x == n then without n xs else x ∷ without n xs) ≡ 0
dropped n x xs h = grind (arith, nat_tests)

-- it stands no more in the list without it
times_without : (n : ℕ) (xs : List ℕ) → times n (without n xs) ≡ 0
times_without n [] = refl
times_without n (x ∷ xs) = dropped n x xs (times_without n xs)

-- another number is left in
left_in : (n m x : ℕ) (xs : List ℕ) → m ≢ n → times m (without n xs) ≡ times m xs → times m (if x == n then without n xs else x ∷ without n xs) ≡ (if x == m then 1 else 0) + times m xs
left_in n m x xs other h = grind (arith, nat_tests)

-- and stands there as often as before
times_without_other : (n m : ℕ) (xs : List ℕ) → m ≢ n → times m (without n xs) ≡ times m xs
times_without_other n m [] other = refl
times_without_other n m (x ∷ xs) other = left_in n m x xs other (times_without_other n m xs other)

-- a node that w makes ready goes to the newest end of its list
open_lists : (workers : ℕ) (node : ℕ → Progress) (ready : ℕ → List ℕ) (w n : ℕ) → InductiveLists workers node ready → w < workers → node n ≡ Waiting → InductiveLists workers (put node n Ready) (put ready w (ready w ++ n ∷ []))
open_lists workers node ready w n h below waits = record {
  home = put h.home n (Some w);
  homes = λ m e. grind (arith, nat_tests, h.homes m);
  among = λ m v e. grind (arith, nat_tests, h.among m v);
  stands = λ v m. grind (arith, nat_tests, h.stands v m, h.stands w m, times_append m (ready w) (n ∷ []));
}

-- a claimed node leaves the list that it stands in
claim_lists : (workers : ℕ) (node : ℕ → Progress) (ready : ℕ → List ℕ) (n : ℕ) → InductiveLists workers node ready → InductiveLists workers (put node n Taken) (λ v. without n (ready v))
claim_lists workers node ready n h = record {
  home = h.home;
  homes = λ m e. grind (arith, nat_tests, h.homes m);
  among = h.among;
  stands = λ v m. grind (arith, nat_tests, h.stands v m, times_without n (ready v), times_without_other n m (ready v));
}

-- a taken node is done
finish_lists : (workers : ℕ) (node : ℕ → Progress) (ready : ℕ → List ℕ) (n : ℕ) (x : Progress) → InductiveLists workers node ready → node n ≡ Taken → is_done x ≡ true → InductiveLists workers (put node n x) ready
finish_lists workers node ready n x h taken done = record {
  home = h.home;
  homes = λ m e. grind (arith, nat_tests, h.homes m);
  among = h.among;
  stands = λ v m. grind (arith, nat_tests, h.stands v m);
}

-- the opening lists
pub opening_lists : (workers : ℕ) → 0 < workers → InductiveLists workers (opening_core.state.node) (opening_core.ready)
unfolding opening_core opening_state
opening_lists workers some = record {
  home = λ n. Some 0;
  homes = λ n e none. cc;
  among = λ n w e. let f : 0 ≡ w = cc in rw (← f) some;
  stands = λ w n. grind (arith, nat_tests);
}

module _ (job : CoreJob) (s : State) (w : ℕ) (ready : ℕ → List ℕ) (laws : IsPlan job.plan) (h : InductiveParts job s) (below : w < job.workers) (lists : InductiveLists job.workers s.node ready) where
  -- what the worker's task says
  says : (t : Task) → s.task w ≡ t → TaskFits job.plan s.node s.mark t
  says t mine = rw mine at (h.tasks.fits w)

  -- the right side of a parallel block is made ready
  open_par_right : (p l r : ℕ) → Needs job s w (OpenParRight p l r) → InductiveLists job.workers (put s.node r Ready) (put ready w (ready w ++ r ∷ []))
  open_par_right p l r needs = open_lists job.workers s.node ready w r lists below ((says (Run p) needs.1).1 r (ap parent_of (laws.right_of_par p l r needs.2)))

  -- the left side of a block that is half open waits
  half_left : (p l r : ℕ) → s.task w ≡ Half p → job.plan.kind p ≡ Some (ParNode l r) → s.node l ≡ Waiting
  half_left p l r mine kind = let fits = says (Half p) mine in grind arith

  -- the left side of a series is made ready
  open_seq_left : (p l r : ℕ) → Needs job s w (OpenSeqLeft p l r) → InductiveLists job.workers (put s.node l Ready) (put ready w (ready w ++ l ∷ []))
  open_seq_left p l r needs = open_lists job.workers s.node ready w l lists below ((says (Run p) needs.1).1 l (ap parent_of (laws.left_of_seq p l r needs.2)))

  -- the right side of a series waits while a task is whole of the left one
  whole_right : (p l r : ℕ) → s.task w ≡ Whole l → job.plan.kind p ≡ Some (SeqNode l r) → s.node r ≡ Waiting
  whole_right p l r mine kind =
      let fits = says (Whole l) mine in
      let same : fits.1 ≡ p = let e : parent_of (job.plan.after l) ≡ Some p = ap parent_of (laws.left_of_seq p l r kind) in let f = fits.2 in cc in
      fits.4 r (ap job.plan.kind same ∙ kind)

  -- a series is taken while a task is whole of its right side
  whole_above : (p l r : ℕ) → s.task w ≡ Whole r → job.plan.kind p ≡ Some (SeqNode l r) → s.node p ≡ Taken
  whole_above p l r mine kind =
      let fits = says (Whole r) mine in
      let same : fits.1 ≡ p = let e : parent_of (job.plan.after r) ≡ Some p = ap parent_of (laws.right_of_seq p l r kind) in let f = fits.2 in cc in
      ap s.node (sym same) ∙ fits.3

  -- the lists after an event
  abbrev Keeps : Event → State → Type 0
  Keeps event new = InductiveLists job.workers new.node (ready_after w event ready)

  -- row by row
  pub lists_after : (event : Event) (new : State) → Needs job s w event → Does job s w event new → Keeps event new
  lists_after (Claim n) new needs does = subst (Keeps (Claim n)) (sym does) (claim_lists job.workers s.node ready n lists)
  lists_after (Start n) new needs does = subst (Keeps (Start n)) (sym does) lists
  lists_after (OpenParRight p l r) new needs does = subst (Keeps (OpenParRight p l r)) (sym does) (open_par_right p l r needs)
  lists_after (OpenParLeft p l r) new needs does = subst (Keeps (OpenParLeft p l r)) (sym does) (open_lists job.workers s.node ready w l lists below (half_left p l r needs.1 needs.2))
  lists_after (OpenSeqLeft p l r) new needs does = subst (Keeps (OpenSeqLeft p l r)) (sym does) (open_seq_left p l r needs)
  lists_after (OpenSeqRight p l r) new needs does = subst (Keeps (OpenSeqRight p l r)) (sym does) (open_lists job.workers s.node ready w r lists below (whole_right p l r needs.1 needs.2))
  lists_after (Post n t) new needs does = subst (Keeps (Post n t)) (sym does) lists
  lists_after Win new needs does = subst (Keeps Win) (sym does) lists
  lists_after (Take u) new needs does = subst (Keeps (Take u)) (sym does) lists
  lists_after Publish new needs does = subst (Keeps Publish) (sym does.2) lists
  lists_after (Answer u r) new needs does = subst (Keeps (Answer u r)) (sym does) lists
  lists_after Release new needs does = subst (Keeps Release) (sym does) lists
  lists_after (Leave r) new needs does = subst (Keeps (Leave r)) (sym does) lists
  lists_after (Keep n t v) new needs does = subst (Keeps (Keep n t v)) (sym does) lists
  lists_after (End n t) new needs does = subst (Keeps (End n t)) (sym does) lists
  lists_after (FinishLeaf n t e) new needs does = subst (Keeps (FinishLeaf n t e)) (sym does) (finish_lists job.workers s.node ready n (Ran w t e) lists (says (Ended n t e) needs.1).1 refl)
  lists_after (FinishSeq p l r) new needs does = subst (Keeps (FinishSeq p l r)) (sym does) (finish_lists job.workers s.node ready p Done lists (whole_above p l r needs.1 needs.2) refl)
  lists_after (FinishPar p l r) new needs does = subst (Keeps (FinishPar p l r)) (sym does) (finish_lists job.workers s.node ready p Done lists (says (Handed p) needs.1).3 refl)
  lists_after (ArriveFirst p l r n) new needs does = subst (Keeps (ArriveFirst p l r n)) (sym does) lists
  lists_after (ArriveSecond p l r n) new needs does = subst (Keeps (ArriveSecond p l r n)) (sym does) lists

-- what is to stand in a list is ready
is_ready : (x : Progress) (o : Option ℕ) (w : ℕ) → stands_in x o w ≢ 0 → x ≡ Ready
is_ready Ready o w h = refl
is_ready _ o w h = absurd (h refl)

-- a ready node is in one worker's list, its home, and in no other
at_home : (x : Progress) (w : ℕ) → x ≡ Ready → (stands_in x (Some w) w ≡ 1) × ((v : ℕ) → v ≢ w → stands_in x (Some w) v ≡ 0)
at_home x w ready = (grind (arith, nat_tests), λ v other. grind (arith, nat_tests))

-- the inductive invariant of the lists implies what the invariant says of them
pub lists_fit : (workers : ℕ) (node : ℕ → Progress) (ready : ℕ → List ℕ) → InductiveLists workers node ready → ReadyListsInvariant workers node ready
lists_fit workers node ready h = record {
  each = λ n e. one n e (h.home n) refl;
  only = λ n w some. is_ready (node n) (h.home n) w (λ z. some (h.stands w n ∙ z));
} where
  one : (n : ℕ) → node n ≡ Ready → (o : Option ℕ) → h.home n ≡ o → (w : ℕ) × (w < workers) × (times n (ready w) ≡ 1) × ((v : ℕ) → v ≢ w → times n (ready v) ≡ 0)
  one n e None at = absurd (h.homes n e at)
  one n e (Some w) at =
      let there = at_home (node n) w e in
      (w, h.among n w at, h.stands w n ∙ (rw at there.0), λ v other. h.stands v n ∙ (rw at (there.1 v other)))
