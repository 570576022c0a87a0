-- The three finishes keep the inductive invariant.
use Rattle.std.proofs.Common.{ℕ, ◌≡◌, ◌≢◌, ◌<◌, ◌+◌, ◌⊎◌, Bool, true, Option, Some, None, arith, refl, inl, inr, sym, ◌∙◌, ap, add_comm}
use Rattle.std.proofs.lemmas.Bool.Decides.{nat_tests}
use Rattle.std.proofs.lemmas.Bool.{cases_eq}
use Rattle.core_model.proofs.Words.{LeafNode, SeqNode, ParNode, Root, FinishParent, Arrive, Nodes, IsPlan, IsSide, parent_of, Progress, Taken, Done, Ran, Task, Idle, Ended, Whole, Handed, Status, CallState, FinishLeaf, FinishSeq, FinishPar, put, CoreJob, State, is_done}
use Rattle.core_model.specs.Invariant.Tasks.{TaskFits}
use Rattle.core_model.specs.Events.{Needs, task_after}
use Rattle.core_model.specs.Invariant.Hold.{is_published}
use Rattle.core_model.proofs.Inductive.Nodes.{HoldersFit, passed_if}
use Rattle.core_model.proofs.Inductive.Ticks.{stamps}
use Rattle.core_model.proofs.Inductive.Book.{booked_by, valued_by}
use Rattle.core_model.proofs.Inductive.Parts.{InductiveParts}
use Rattle.core_model.proofs.InvariantLemmas.NodeSteps.{finish_nodes}
use Rattle.core_model.proofs.InvariantLemmas.Holders.{apart}
use Rattle.core_model.proofs.InvariantLemmas.FinishTasks as leaves
use Rattle.core_model.proofs.ReportLemmas.RootTasks as roots
use Rattle.core_model.proofs.InvariantLemmas.JobSide.{still_ran, job_keeps}

-- a leaf is done: no stamp changes, nor which calls are in the book, nor which leaves have their values
leaf_same : (node : ℕ → Progress) (task : ℕ → Task) (status : ℕ → Status) (call : ℕ → CallState) (b : Bool) (holder : ℕ → Option ℕ) (w n s e m : ℕ) → HoldersFit task holder
    → task w ≡ Ended n s e → node n ≡ Taken
    → (stamps (put node n (Ran w s e)) (put task w (Whole n)) holder m ≡ stamps node task holder m)
    × (booked_by (put node n (Ran w s e) m) (holder m) (put task w (Whole n)) status call b ≡ booked_by (node m) (holder m) task status call b)
    × (valued_by (put node n (Ran w s e) m) (holder m) (put task w (Whole n)) ≡ valued_by (node m) (holder m) task)
leaf_same node task status call b holder w n s e m h mine taken = grind (arith, nat_tests, h.holds w m, h.named w n)

-- the node p, which held no stamp, is done
seq_same : (node : ℕ → Progress) (task : ℕ → Task) (status : ℕ → Status) (call : ℕ → CallState) (b : Bool) (holder : ℕ → Option ℕ) (w p r m : ℕ) → HoldersFit task holder
    → task w ≡ Whole r → node p ≡ Taken → is_done (node r) ≡ true → holder p ≡ None
    → (stamps (put node p Done) (put task w (Whole p)) (put (put holder r None) p (Some w)) m ≡ stamps node task holder m)
    × (booked_by (put node p Done m) (put (put holder r None) p (Some w) m) (put task w (Whole p)) status call b ≡ booked_by (node m) (holder m) task status call b)
    × (valued_by (put node p Done m) (put (put holder r None) p (Some w) m) (put task w (Whole p)) ≡ valued_by (node m) (holder m) task)
seq_same node task status call b holder w p r m h mine taken done free = grind (arith, nat_tests, h.holds w m, h.named w r)

-- a mark of 2 says that both sides are done
both_full : (a b : Bool) (o q : Option ℕ) → 2 ≡ passed_if a o + passed_if b q → (a ≡ true) × (b ≡ true)
both_full a b o q e = grind arith

-- the node p, which w holds, is done
par_same : (node : ℕ → Progress) (task : ℕ → Task) (status : ℕ → Status) (call : ℕ → CallState) (b : Bool) (holder : ℕ → Option ℕ) (w p m : ℕ) → HoldersFit task holder
    → task w ≡ Handed p → node p ≡ Taken
    → (stamps (put node p Done) (put task w (Whole p)) holder m ≡ stamps node task holder m)
    × (booked_by (put node p Done m) (holder m) (put task w (Whole p)) status call b ≡ booked_by (node m) (holder m) task status call b)
    × (valued_by (put node p Done m) (holder m) (put task w (Whole p)) ≡ valued_by (node m) (holder m) task)
par_same node task status call b holder w p m h mine taken = grind (arith, nat_tests, h.holds w m, h.named w p)

-- one of two sides that are done is done
both_done : (node : ℕ → Progress) (l r m : ℕ) → (m ≡ l) ⊎ (m ≡ r) → is_done (node l) ≡ true → is_done (node r) ≡ true → is_done (node m) ≡ true
both_done node l r m which a b = grind arith

-- the root n, which held this stamp or none, is done, and its worker is idle
root_same : (node : ℕ → Progress) (task : ℕ → Task) (status : ℕ → Status) (call : ℕ → CallState) (b : Bool) (holder : ℕ → Option ℕ) (w n k m : ℕ) (x : Progress) → HoldersFit task holder → node n ≡ Taken
    → ((task w ≡ Whole k) × (is_done (node k) ≡ true) × (x ≡ Done) × (holder n ≡ None)) ⊎ (((task w ≡ Handed k) × (k ≡ n) × (x ≡ Done)) ⊎ ((t : ℕ) × (e : ℕ) × (task w ≡ Ended k t e) × (k ≡ n) × (x ≡ Ran w t e)))
    → (stamps (put node n x) (put task w Idle) (put holder k None) m ≡ stamps node task holder m)
    × (booked_by (put node n x m) (put holder k None m) (put task w Idle) status call b ≡ booked_by (node m) (holder m) task status call b)
    × (valued_by (put node n x m) (put holder k None m) (put task w Idle) ≡ valued_by (node m) (holder m) task)
root_same node task status call b holder w n k m x h taken how = grind (arith, nat_tests, h.holds w m, h.named w k)

-- after the root its worker is idle
pub idle_after : (n : ℕ) → n ≡ 0 → task_after n ≡ Idle
idle_after n e = grind (arith, nat_tests)

-- after another node it has the whole node
pub whole_after : (n : ℕ) → n ≢ 0 → task_after n ≡ Whole n
whole_after n e = grind (arith, nat_tests)

-- a side of a parallel block is not the right side of a series
not_arrive : (plan : Nodes) (k q r p : ℕ) → plan.after k ≡ Arrive q → plan.after r ≡ FinishParent p → k ≢ r
not_arrive plan k q r p a b e = grind arith

-- a node has one parent
same_parent : (plan : Nodes) (q p r : ℕ) → IsSide plan q r → IsSide plan p r → q ≡ p
same_parent plan q p r a b = cc

-- if neither side has a holder, neither does the one in question
side_unheld : (holder : ℕ → Option ℕ) (l r m v : ℕ) → (m ≡ l) ⊎ (m ≡ r) → holder l ≡ None → holder r ≡ None → holder m ≢ Some v
side_unheld holder l r m v which a b e = grind arith

module _ (job : CoreJob) (s : State) (w : ℕ) (laws : IsPlan job.plan) (below : w < job.workers) (h : InductiveParts job s) where
  -- a leaf has no sides
  leaf_side : (n u m : ℕ) → job.plan.kind n ≡ Some (LeafNode u) → IsSide job.plan n m → ⊥
  leaf_side n u m leaf side = rw leaf at (laws.has_side n m side)

  -- the sides of a series that are both done
  sides_done : (p l r m : ℕ) → job.plan.kind p ≡ Some (SeqNode l r) → IsSide job.plan p m → is_done (s.node l) ≡ true → is_done (s.node r) ≡ true → is_done (s.node m) ≡ true
  sides_done p l r m seq side done_l done_r = both_done s.node l r m (rw seq at (laws.has_side p m side)) done_l done_r

  -- the sides of a parallel block that are both done
  par_sides_done : (p l r m : ℕ) → job.plan.kind p ≡ Some (ParNode l r) → IsSide job.plan p m → is_done (s.node l) ≡ true → is_done (s.node r) ≡ true → is_done (s.node m) ≡ true
  par_sides_done p l r m par side done_l done_r = both_done s.node l r m (rw par at (laws.has_side p m side)) done_l done_r

  -- a series is no leaf
  seq_not_leaf : (p l r m u : ℕ) → job.plan.kind p ≡ Some (SeqNode l r) → job.plan.kind m ≡ Some (LeafNode u) → m ≡ p → ⊥
  seq_not_leaf p l r m u seq leaf e = grind arith

  -- a leaf that is not the root is done
  pub finish_leaf_keeps : (n t e : ℕ) → n ≢ 0 → Needs job s w (FinishLeaf n t e) → InductiveParts job (record s { node = put s.node n (Ran w t e); task = put s.task w (Whole n) })
  finish_leaf_keeps n t e inner needs =
      let mine : s.task w ≡ Ended n t e = needs.1 in
      let fits : TaskFits job.plan s.node s.mark (Ended n t e) = rw mine at (h.tasks.fits w) in
      let same = λ (m : ℕ). leaf_same s.node s.task s.status s.call (is_published s.hold) h.holder w n t e m h.tasks.holders mine fits.1 in
      job_keeps job s w below (put s.node n (Ran w t e)) s.mark (Whole n) h h.holder needs.0 (rw mine (λ x. x))
      (finish_nodes job.plan s.node n (Ran w t e) laws h.nodes fits.1 refl (λ m side. absurd (leaf_side n fits.0.0 m fits.0.1 side)) (λ m u k q. λ f. cc) (λ v x y q. fits.0))
      (leaves.finish_leaf job.plan s.node s.mark s.task h.holder w laws h.nodes h.tasks n fits.0.0 t e mine fits.0.1 inner)
      (λ m. (same m).0) (λ m u leaf. (same m).1) (λ m. (same m).2) (still_ran s.node n (Ran w t e) (rw fits.1 refl))

  -- a series that is not the root is done
  pub finish_seq_keeps : (p l r : ℕ) → p ≢ 0 → Needs job s w (FinishSeq p l r) → InductiveParts job (record s { node = put s.node p Done; task = put s.task w (Whole p) })
  finish_seq_keeps p l r inner needs =
      let mine : s.task w ≡ Whole r = needs.1 in
      let fits : TaskFits job.plan s.node s.mark (Whole r) = rw mine at (h.tasks.fits w) in
      let side : IsSide job.plan p r = ap parent_of (laws.right_of_seq p l r needs.2) in
      let taken : s.node p ≡ Taken = grind arith in
      let done_r : is_done (s.node r) ≡ true = fits.0 in
      let done_l : is_done (s.node l) ≡ true = grind (arith, h.nodes.second p l r needs.2) in
      let free : h.holder p ≡ None = leaves.seq_free job.plan s.node s.mark s.task h.holder w laws h.nodes h.tasks p l r needs.2 taken done_l done_r in
      let same = λ (m : ℕ). seq_same s.node s.task s.status s.call (is_published s.hold) h.holder w p r m h.tasks.holders mine taken done_r free in
      job_keeps job s w below (put s.node p Done) s.mark (Whole p) h (put (put h.holder r None) p (Some w)) needs.0 (rw mine (λ x. x))
      (finish_nodes job.plan s.node p Done laws h.nodes taken refl (λ m side. sides_done p l r m needs.2 side done_l done_r) (λ m u k q. absurd (seq_not_leaf p l r m u needs.2 k q)) (λ v x y q. cc))
      (leaves.finish_seq job.plan s.node s.mark s.task h.holder w laws h.nodes h.tasks p l r mine needs.2 inner)
      (λ m. (same m).0) (λ m u leaf. (same m).1) (λ m. (same m).2) (still_ran s.node p Done (rw taken refl))

  -- a parallel block is no leaf
  par_not_leaf : (p l r m u : ℕ) → job.plan.kind p ≡ Some (ParNode l r) → job.plan.kind m ≡ Some (LeafNode u) → m ≡ p → ⊥
  par_not_leaf p l r m u par leaf e = grind arith

  -- a parallel block that is not the root is done
  pub finish_par_keeps : (p l r : ℕ) → p ≢ 0 → Needs job s w (FinishPar p l r) → InductiveParts job (record s { node = put s.node p Done; task = put s.task w (Whole p) })
  finish_par_keeps p l r inner needs =
      let mine : s.task w ≡ Handed p = needs.1 in
      let fits : TaskFits job.plan s.node s.mark (Handed p) = rw mine at (h.tasks.fits w) in
      let taken : s.node p ≡ Taken = fits.3 in
      let both : (is_done (s.node l) ≡ true) × (is_done (s.node r) ≡ true) = both_full (is_done (s.node l)) (is_done (s.node r)) (h.holder l) (h.holder r) (sym fits.4 ∙ h.tasks.marks p l r needs.2) in
      let same = λ (m : ℕ). par_same s.node s.task s.status s.call (is_published s.hold) h.holder w p m h.tasks.holders mine taken in
      job_keeps job s w below (put s.node p Done) s.mark (Whole p) h h.holder needs.0 (rw mine (λ x. x))
      (finish_nodes job.plan s.node p Done laws h.nodes taken refl (λ m side. par_sides_done p l r m needs.2 side both.0 both.1) (λ m u k q. absurd (par_not_leaf p l r m u needs.2 k q)) (λ v x y q. cc))
      (leaves.finish_par job.plan s.node s.mark s.task h.holder w laws h.nodes h.tasks p l r mine needs.2 inner)
      (λ m. (same m).0) (λ m u leaf. (same m).1) (λ m. (same m).2) (still_ran s.node p Done (rw taken refl))

  -- a leaf that is the root is done
  root_leaf_keeps : (n t e : ℕ) → job.plan.after n ≡ Root → Needs job s w (FinishLeaf n t e) → InductiveParts job (record s { node = put s.node n (Ran w t e); task = put s.task w Idle })
  root_leaf_keeps n t e top needs =
      let mine : s.task w ≡ Ended n t e = needs.1 in
      let fits : TaskFits job.plan s.node s.mark (Ended n t e) = rw mine at (h.tasks.fits w) in
      let same = λ (m : ℕ). root_same s.node s.task s.status s.call (is_published s.hold) h.holder w n n m (Ran w t e) h.tasks.holders fits.1 (inr (inr (t, e, mine, refl, refl))) in
      job_keeps job s w below (put s.node n (Ran w t e)) s.mark Idle h (put h.holder n None) needs.0 (rw mine (λ x. x))
      (finish_nodes job.plan s.node n (Ran w t e) laws h.nodes fits.1 refl (λ m side. absurd (leaf_side n fits.0.0 m fits.0.1 side)) (λ m u k q. λ f. cc) (λ v x y q. fits.0))
      (roots.finish_root job.plan s.node s.mark s.task h.holder w laws h.nodes h.tasks n n (Ran w t e) top fits.1 refl (rw mine refl) (inl refl)
      (λ q l r par. (roots.not_top job.plan s.node s.mark s.task h.holder w laws h.nodes h.tasks n q l top (ap parent_of (laws.left_of_par q l r par)), roots.not_top job.plan s.node s.mark s.task h.holder w laws h.nodes h.tasks n q r top (ap parent_of (laws.right_of_par q l r par))))
      (λ p side. absurd (roots.not_top job.plan s.node s.mark s.task h.holder w laws h.nodes h.tasks n p n top side refl))
      (λ v other. apart s.task h.holder h.tasks.holders v w n (rw mine refl) other)
      (λ v m other side. absurd (leaf_side n fits.0.0 m fits.0.1 side)))
      (λ m. (same m).0) (λ m u leaf. (same m).1) (λ m. (same m).2) (still_ran s.node n (Ran w t e) (rw fits.1 refl))

  -- a leaf is done
  pub leaf_keeps : (n t e : ℕ) → Needs job s w (FinishLeaf n t e) → InductiveParts job (record s { node = put s.node n (Ran w t e); task = put s.task w (task_after n) })
  leaf_keeps n t e needs = elim (cases_eq n 0) [
    | inl z ↦ rw (idle_after n z) (root_leaf_keeps n t e (rw z laws.root) needs)
    | inr z ↦ rw (whole_after n z) (finish_leaf_keeps n t e z needs)
  ]

  -- a series that is the root is done
  root_seq_keeps : (p l r : ℕ) → job.plan.after p ≡ Root → Needs job s w (FinishSeq p l r) → InductiveParts job (record s { node = put s.node p Done; task = put s.task w Idle })
  root_seq_keeps p l r top needs =
      let mine : s.task w ≡ Whole r = needs.1 in
      let fits : TaskFits job.plan s.node s.mark (Whole r) = rw mine at (h.tasks.fits w) in
      let after_r : job.plan.after r ≡ FinishParent p = laws.right_of_seq p l r needs.2 in
      let side : IsSide job.plan p r = ap parent_of after_r in
      let taken : s.node p ≡ Taken = grind arith in
      let done_r : is_done (s.node r) ≡ true = fits.0 in
      let done_l : is_done (s.node l) ≡ true = grind (arith, h.nodes.second p l r needs.2) in
      let free : h.holder p ≡ None = leaves.seq_free job.plan s.node s.mark s.task h.holder w laws h.nodes h.tasks p l r needs.2 taken done_l done_r in
      let same = λ (m : ℕ). root_same s.node s.task s.status s.call (is_published s.hold) h.holder w p r m Done h.tasks.holders taken (inl (mine, done_r, refl, free)) in
      job_keeps job s w below (put s.node p Done) s.mark Idle h (put h.holder r None) needs.0 (rw mine (λ x. x))
      (finish_nodes job.plan s.node p Done laws h.nodes taken refl (λ m side. sides_done p l r m needs.2 side done_l done_r) (λ m u k q. absurd (seq_not_leaf p l r m u needs.2 k q)) (λ v x y q. cc))
      (roots.finish_root job.plan s.node s.mark s.task h.holder w laws h.nodes h.tasks p r Done top taken refl (rw mine refl) (inr done_r)
      (λ q k m par. (not_arrive job.plan k q r p (laws.left_of_par q k m par) after_r, not_arrive job.plan m q r p (laws.right_of_par q k m par) after_r))
      (λ q side'. same_parent job.plan q p r side' side)
      (λ v other. leaves.seq_busy job.plan s.node s.mark s.task h.holder w laws h.nodes h.tasks p l r needs.2 taken done_l (s.task v) (h.tasks.fits v))
      (λ v m other side'. leaves.seq_sides job.plan s.node s.mark s.task h.holder w laws h.nodes h.tasks p l r m v mine needs.2 side' done_l done_r other))
      (λ m. (same m).0) (λ m u leaf. (same m).1) (λ m. (same m).2) (still_ran s.node p Done (rw taken refl))

  -- a parallel block that is the root is done
  root_par_keeps : (p l r : ℕ) → job.plan.after p ≡ Root → Needs job s w (FinishPar p l r) → InductiveParts job (record s { node = put s.node p Done; task = put s.task w Idle })
  root_par_keeps p l r top needs =
      let mine : s.task w ≡ Handed p = needs.1 in
      let fits : TaskFits job.plan s.node s.mark (Handed p) = rw mine at (h.tasks.fits w) in
      let taken : s.node p ≡ Taken = fits.3 in
      let full : 2 ≡ passed_if (is_done (s.node l)) (h.holder l) + passed_if (is_done (s.node r)) (h.holder r) = sym fits.4 ∙ h.tasks.marks p l r needs.2 in
      let both : (is_done (s.node l) ≡ true) × (is_done (s.node r) ≡ true) = both_full (is_done (s.node l)) (is_done (s.node r)) (h.holder l) (h.holder r) full in
      let free_l : h.holder l ≡ None = leaves.passed_free (is_done (s.node l)) (h.holder l) (is_done (s.node r)) (h.holder r) full in
      let free_r : h.holder r ≡ None = leaves.passed_free (is_done (s.node r)) (h.holder r) (is_done (s.node l)) (h.holder l) (full ∙ add_comm _ _) in
      let same = λ (m : ℕ). root_same s.node s.task s.status s.call (is_published s.hold) h.holder w p p m Done h.tasks.holders taken (inr (inl (mine, refl, refl))) in
      job_keeps job s w below (put s.node p Done) s.mark Idle h (put h.holder p None) needs.0 (rw mine (λ x. x))
      (finish_nodes job.plan s.node p Done laws h.nodes taken refl (λ m side. par_sides_done p l r m needs.2 side both.0 both.1) (λ m u k q. absurd (par_not_leaf p l r m u needs.2 k q)) (λ v x y q. cc))
      (roots.finish_root job.plan s.node s.mark s.task h.holder w laws h.nodes h.tasks p p Done top taken refl (rw mine refl) (inl refl)
      (λ q k m par. (roots.not_top job.plan s.node s.mark s.task h.holder w laws h.nodes h.tasks p q k top (ap parent_of (laws.left_of_par q k m par)), roots.not_top job.plan s.node s.mark s.task h.holder w laws h.nodes h.tasks p q m top (ap parent_of (laws.right_of_par q k m par))))
      (λ q side. absurd (roots.not_top job.plan s.node s.mark s.task h.holder w laws h.nodes h.tasks p q p top side refl))
      (λ v other. apart s.task h.holder h.tasks.holders v w p (rw mine refl) other)
      (λ v m other side name. side_unheld h.holder l r m v (leaves.par_side job.plan s.node s.mark s.task h.holder w laws h.nodes h.tasks p l r m needs.2 side) free_l free_r (h.tasks.holders.named v m name)))
      (λ m. (same m).0) (λ m u leaf. (same m).1) (λ m. (same m).2) (still_ran s.node p Done (rw taken refl))

  -- a series is done
  pub seq_keeps : (p l r : ℕ) → Needs job s w (FinishSeq p l r) → InductiveParts job (record s { node = put s.node p Done; task = put s.task w (task_after p) })
  seq_keeps p l r needs = elim (cases_eq p 0) [
    | inl z ↦ rw (idle_after p z) (root_seq_keeps p l r (rw z laws.root) needs)
    | inr z ↦ rw (whole_after p z) (finish_seq_keeps p l r z needs)
  ]

  -- a parallel block is done
  pub par_keeps : (p l r : ℕ) → Needs job s w (FinishPar p l r) → InductiveParts job (record s { node = put s.node p Done; task = put s.task w (task_after p) })
  par_keeps p l r needs = elim (cases_eq p 0) [
    | inl z ↦ rw (idle_after p z) (root_par_keeps p l r (rw z laws.root) needs)
    | inr z ↦ rw (whole_after p z) (finish_par_keeps p l r z needs)
  ]
