-- The tasks, as a leaf goes on, a node is done, or a side arrives.
use Rattle.std.proofs.Common.{ℕ, ◌≡◌, ◌≢◌, ◌<◌, ◌+◌, ◌⊎◌, Bool, true, Option, Some, None, arith, refl, inl, inr, sym, ◌∙◌, ap, add_comm}
use Rattle.std.proofs.lemmas.Bool.Decides.{nat_tests}
use Rattle.core_model.proofs.Words.{Kind, LeafNode, SeqNode, ParNode, Move, Root, OpenSecond, FinishParent, Arrive, Nodes, IsPlan, IsSide, HasSide, parent_of, Progress, Waiting, Taken, Done, Ran, Task, Idle, Ended, Whole, Handed, put, is_done, names}
use Rattle.core_model.specs.Invariant.Tasks.{TaskFits}
use Rattle.core_model.proofs.Inductive.Nodes.{InductiveNodes, passed_if, LeftAlone, InductiveTasks}
use Rattle.core_model.proofs.InvariantLemmas.Puts.{put_at, put_each}
use Rattle.core_model.proofs.InvariantLemmas.Holders.{apart, keep_task, drop_task, move_task}
use Rattle.core_model.proofs.InvariantLemmas.TaskFrames.{finish_task, arrive_task}

-- a side that is counted has no holder
pub passed_free : (a : Bool) (o : Option ℕ) (b : Bool) (q : Option ℕ) → 2 ≡ passed_if a o + passed_if b q → o ≡ None
passed_free a o b q e = grind arith

-- what no task names stays so, when the node n is done and its worker keeps it or takes it
finish_alone : (node : ℕ → Progress) (mark : ℕ → ℕ) (holder : ℕ → Option ℕ) (n : ℕ) (x : Progress) (k : Option Kind) (q : ℕ) → is_done x ≡ true → holder n ≢ None
    → LeftAlone k node mark holder q → LeftAlone k (put node n x) mark holder q
finish_alone node mark holder n x k q done held h = grind (arith, nat_tests)

-- a task that names the done left of a Seq says that the right is waiting
whole_left : (plan : Nodes) (node : ℕ → Progress) (mark : ℕ → ℕ) (p l r : ℕ) → plan.kind p ≡ Some (SeqNode l r) → IsSide plan p l → is_done (node l) ≡ true → is_done (node r) ≡ true
    → (t : Task) → TaskFits plan node mark t → names t ≢ Some l
whole_left plan node mark p l r seq side done_l done_r t fits name = grind arith

-- a mark below 2 becomes one below 2
put_low : (mark : ℕ → ℕ) (p i q : ℕ) → i < 2 → mark q < 2 → put mark p i q < 2
put_low mark p i q low h = grind (arith, nat_tests)

-- a series, when a node that is no side of it is given up
arrive_alone_seq : (node : ℕ → Progress) (holder : ℕ → Option ℕ) (n l r : ℕ) → l ≢ n → r ≢ n
    → (node l ≢ Waiting) × (is_done (node l) ≡ true → holder l ≡ None → node r ≢ Waiting) × (is_done (node r) ≡ true → holder r ≢ None)
    → (node l ≢ Waiting) × (is_done (node l) ≡ true → put holder n None l ≡ None → node r ≢ Waiting) × (is_done (node r) ≡ true → put holder n None r ≢ None)
arrive_alone_seq node holder n l r left right h = grind (arith, nat_tests)

-- what no task names stays so, when n of a Par has arrived
arrive_alone : (node : ℕ → Progress) (mark : ℕ → ℕ) (holder : ℕ → Option ℕ) (n p i : ℕ) (k : Option Kind) (q : ℕ) → i < 2
    → ((l r : ℕ) → k ≡ Some (SeqNode l r) → l ≢ n) → ((l r : ℕ) → k ≡ Some (SeqNode l r) → r ≢ n)
    → LeftAlone k node mark holder q → LeftAlone k node (put mark p i) (put holder n None) q
arrive_alone node mark holder n p i (Some (SeqNode l r)) q low left right h = arrive_alone_seq node holder n l r (left l r refl) (right l r refl) h
arrive_alone node mark holder n p i (Some (ParNode l r)) q low left right h = (h.0, h.1, put_low mark p i q low h.2)
arrive_alone node mark holder n p i _ q low left right h = h

-- a series, when its worker gives up a node that is no side of it and holds p
hand_alone_seq : (node : ℕ → Progress) (holder : ℕ → Option ℕ) (n p w l r : ℕ) → l ≢ n → r ≢ n
    → (node l ≢ Waiting) × (is_done (node l) ≡ true → holder l ≡ None → node r ≢ Waiting) × (is_done (node r) ≡ true → holder r ≢ None)
    → (node l ≢ Waiting) × (is_done (node l) ≡ true → put (put holder n None) p (Some w) l ≡ None → node r ≢ Waiting) × (is_done (node r) ≡ true → put (put holder n None) p (Some w) r ≢ None)
hand_alone_seq node holder n p w l r left right h = grind (arith, nat_tests)

-- another mark stays below 2
put_elsewhere : (mark : ℕ → ℕ) (p i q : ℕ) → q ≢ p → mark q < 2 → put mark p i q < 2
put_elsewhere mark p i q other h = grind (arith, nat_tests)

-- what no task names stays so, when the second side of p has arrived and p is held
hand_alone : (node : ℕ → Progress) (mark : ℕ → ℕ) (holder : ℕ → Option ℕ) (n p w i : ℕ) (k : Option Kind) (q : ℕ) → q ≢ p
    → ((l r : ℕ) → k ≡ Some (SeqNode l r) → l ≢ n) → ((l r : ℕ) → k ≡ Some (SeqNode l r) → r ≢ n)
    → LeftAlone k node mark holder q → LeftAlone k node (put mark p i) (put (put holder n None) p (Some w)) q
hand_alone node mark holder n p w i (Some (SeqNode l r)) q other left right h = hand_alone_seq node holder n p w l r (left l r refl) (right l r refl) h
hand_alone node mark holder n p w i (Some (ParNode l r)) q other left right h = (h.0, h.1, put_elsewhere mark p i q other h.2)
hand_alone node mark holder n p w i _ q other left right h = h

-- no task names a Par whose sides are done, unless it is handed
par_busy : (plan : Nodes) (node : ℕ → Progress) (mark : ℕ → ℕ) (p l r : ℕ) → plan.kind p ≡ Some (ParNode l r) → IsSide plan p l → is_done (node l) ≡ true → is_done (node r) ≡ true
    → node p ≡ Taken → mark p ≢ 2 → (t : Task) → TaskFits plan node mark t → names t ≢ Some p
par_busy plan node mark p l r par side done_l done_r taken low t fits name = grind arith

module _ (plan : Nodes) (node : ℕ → Progress) (mark : ℕ → ℕ) (task : ℕ → Task) (holder : ℕ → Option ℕ) (w : ℕ)
    (laws : IsPlan plan) (nodes : InductiveNodes plan node) (h : InductiveTasks plan node mark task holder) where
  -- the parent of a taken node is taken
  parent_taken : (p n : ℕ) → IsSide plan p n → node n ≡ Taken → node p ≡ Taken
  parent_taken p n side taken = grind (arith, nodes.below_waiting p n side, nodes.below_ready p n side, nodes.below_done p n side)

  -- the right side of a series waits while the left one is taken
  second_waits : (p n r : ℕ) → node n ≡ Taken → plan.kind p ≡ Some (SeqNode n r) → node r ≡ Waiting
  second_waits p n r taken seq = grind (arith, nodes.second p n r seq)

  -- the sides of a series are two
  right_apart : (p n r : ℕ) → plan.kind p ≡ Some (SeqNode n r) → n ≢ r
  right_apart p n r seq = grind (arith, laws.left_of_seq p n r seq, laws.right_of_seq p n r seq)

  -- what is said of a side of p that was taken and now is done
  whole_under : (p n : ℕ) (x : Progress) → node n ≡ Taken → is_done x ≡ true → IsSide plan p n → TaskFits plan (put node n x) mark (Whole n)
  whole_under p n x taken done side =
      let up : node p ≡ Taken = parent_taken p n side taken in
      let pn : p < n = laws.deeper p n side in
      (grind (arith, nat_tests), p, side, grind (arith, nat_tests), λ r seq. grind (arith, nat_tests, second_waits p n r taken seq, right_apart p n r seq))

  -- and so, by the move after it
  whole_at : (m : Move) (n : ℕ) (x : Progress) → node n ≡ Taken → is_done x ≡ true → plan.after n ≡ m → m ≢ Root → TaskFits plan (put node n x) mark (Whole n)
  whole_at Root n x taken done e inner = absurd (inner refl)
  whole_at (OpenSecond p) n x taken done e inner = whole_under p n x taken done (ap parent_of e)
  whole_at (FinishParent p) n x taken done e inner = whole_under p n x taken done (ap parent_of e)
  whole_at (Arrive p) n x taken done e inner = whole_under p n x taken done (ap parent_of e)

  -- a node that no task names has no holder
  pub unnamed : (n : ℕ) → ((v : ℕ) → names (task v) ≢ Some n) → holder n ≡ None
  unnamed n none =
      elim (holder n) as (λ o. holder n ≡ o → holder n ≡ None) [
        | None ↦ λ e. e
        | Some v ↦ λ e. absurd (none v (h.holders.holds v n e))
      ] refl

  -- a side of a parallel block is its left or its right one
  pub par_side : (p l r m : ℕ) → plan.kind p ≡ Some (ParNode l r) → IsSide plan p m → (m ≡ l) ⊎ (m ≡ r)
  par_side p l r m par side = rw par at (laws.has_side p m side)

  -- no worker is handed a block with no mark
  not_full : (t : Task) (p : ℕ) → TaskFits plan node mark t → mark p ≡ 0 → t ≢ Handed p
  not_full t p fits none e = grind arith

  -- a leaf has no sides
  leaf_side : (n u m : ℕ) → plan.kind n ≡ Some (LeafNode u) → IsSide plan n m → ⊥
  leaf_side n u m leaf side = rw leaf at (laws.has_side n m side)

  -- what is said of a node that was taken and now is done
  pub whole : (n : ℕ) (x : Progress) → node n ≡ Taken → is_done x ≡ true → plan.after n ≢ Root → TaskFits plan (put node n x) mark (Whole n)
  whole n x taken done inner = whole_at (plan.after n) n x taken done refl inner

  -- start, keep and end: the task goes on at its leaf
  pub go_on : (n : ℕ) (t : Task) → names (task w) ≡ Some n → names t ≡ Some n → TaskFits plan node mark t
      → InductiveTasks plan node mark (put task w t) holder
  go_on n t mine name fits = record {
    holders = keep_task task holder w t h.holders (grind arith);
    fits = put_each (TaskFits plan node mark) task w t fits (λ v other. h.fits v);
    alone = h.alone;
    marks = h.marks;
  }

  -- a leaf that isn't the root is done
  pub finish_leaf : (n u s e : ℕ) → task w ≡ Ended n s e → plan.kind n ≡ Some (LeafNode u) → n ≢ 0
      → InductiveTasks plan (put node n (Ran w s e)) mark (put task w (Whole n)) holder
  finish_leaf n u s e mine leaf inner =
      let mine' : TaskFits plan node mark (Ended n s e) = rw mine at (h.fits w) in
      let taken : node n ≡ Taken = mine'.1 in
      let held : holder n ≡ Some w = h.holders.named w n (grind arith) in
      let has_parent : plan.after n ≢ Root = λ r. inner (laws.one_root n (grind arith) r) in
      record {
        holders = keep_task task holder w (Whole n) h.holders (grind arith);
        fits = put_each (TaskFits plan (put node n (Ran w s e)) mark) task w (Whole n)
            (whole n (Ran w s e) taken refl has_parent)
            (λ v other. finish_task plan node mark n (Ran w s e) laws taken refl (task v) (apart task holder h.holders v w n (grind arith) other)
            (λ m side. absurd (leaf_side n u m leaf side)) (h.fits v));
        alone = λ q t nobody. finish_alone node mark holder n (Ran w s e) (plan.kind q) q refl (grind arith) (h.alone q (grind (arith, nat_tests)) nobody);
        marks = λ q k m k'. grind (arith, nat_tests, h.marks q k m k');
      }

  -- no task names a taken Seq whose left is done
  pub seq_busy : (p l r : ℕ) → plan.kind p ≡ Some (SeqNode l r) → node p ≡ Taken → is_done (node l) ≡ true → (t : Task) → TaskFits plan node mark t → names t ≢ Some p
  seq_busy p l r seq taken done t fits name =
      let after_l : plan.after l ≡ OpenSecond p = laws.left_of_seq p l r seq in
      grind arith

  -- so no worker holds it
  pub seq_free : (p l r : ℕ) → plan.kind p ≡ Some (SeqNode l r) → node p ≡ Taken → is_done (node l) ≡ true → is_done (node r) ≡ true → holder p ≡ None
  seq_free p l r seq taken done_l done_r =
      elim (holder p) as (λ o. holder p ≡ o → holder p ≡ None) [
        | None ↦ λ e. e
        | Some v ↦ λ e. absurd (seq_busy p l r seq taken done_l (task v) (h.fits v) (h.holders.holds v p e))
      ] refl

  -- no other task names a side of it
  pub seq_sides : (p l r m v : ℕ) → task w ≡ Whole r → plan.kind p ≡ Some (SeqNode l r) → IsSide plan p m → is_done (node l) ≡ true → is_done (node r) ≡ true → v ≢ w → names (task v) ≢ Some m
  seq_sides p l r m v mine seq side done_l done_r other name =
      let fits : TaskFits plan node mark (task v) = h.fits v in
      let which : HasSide (Some (SeqNode l r)) m = rw seq at (laws.has_side p m side) in
      elim which [
        | inl e ↦ whole_left plan node mark p l r seq (rw e at side) done_l done_r (task v) fits (rw e at name)
        | inr e ↦ apart task holder h.holders v w r (rw mine refl) other (rw e at name)
      ]

  -- a Seq whose right is whole is done
  pub finish_seq : (p l r : ℕ) → task w ≡ Whole r → plan.kind p ≡ Some (SeqNode l r) → p ≢ 0
      → InductiveTasks plan (put node p Done) mark (put task w (Whole p)) (put (put holder r None) p (Some w))
  finish_seq p l r mine seq inner =
      let mine' : TaskFits plan node mark (Whole r) = rw mine at (h.fits w) in
      let after_l : plan.after l ≡ OpenSecond p = laws.left_of_seq p l r seq in
      let after_r : plan.after r ≡ FinishParent p = laws.right_of_seq p l r seq in
      let side_l : IsSide plan p l = ap parent_of after_l in
      let side_r : IsSide plan p r = ap parent_of after_r in
      let pr : p < r = laws.deeper p r side_r in
      let taken : node p ≡ Taken = grind arith in
      let done_r : is_done (node r) ≡ true = grind arith in
      let done_l : is_done (node l) ≡ true = grind (arith, nodes.second p l r seq) in
      let held : holder r ≡ Some w = h.holders.named w r (grind arith) in
      let has_parent : plan.after p ≢ Root = λ e. inner (laws.one_root p (grind arith) e) in
      record {
        holders = move_task task holder w r p (Whole p) h.holders (grind arith) refl (seq_free p l r seq taken done_l done_r);
        fits = put_each (TaskFits plan (put node p Done) mark) task w (Whole p)
            (whole p Done taken refl has_parent)
            (λ v other. finish_task plan node mark p Done laws taken refl (task v) (seq_busy p l r seq taken done_l (task v) (h.fits v))
            (λ m side. seq_sides p l r m v mine seq side done_l done_r other) (h.fits v));
        alone = λ q t nobody. grind (arith, nat_tests, h.alone q);
        marks = λ q k m k'. grind (arith, nat_tests, h.marks q k m k', laws.left_of_par q k m k', laws.right_of_par q k m k');
      }

  -- a Par of which both sides have arrived is done
  pub finish_par : (p l r : ℕ) → task w ≡ Handed p → plan.kind p ≡ Some (ParNode l r) → p ≢ 0
      → InductiveTasks plan (put node p Done) mark (put task w (Whole p)) holder
  finish_par p l r mine par inner =
      let mine' : TaskFits plan node mark (Handed p) = rw mine at (h.fits w) in
      let after_l : plan.after l ≡ Arrive p = laws.left_of_par p l r par in
      let after_r : plan.after r ≡ Arrive p = laws.right_of_par p l r par in
      let side_r : IsSide plan p r = ap parent_of after_r in
      let pr : p < r = laws.deeper p r side_r in
      let taken : node p ≡ Taken = grind arith in
      let full : mark p ≡ 2 = grind arith in
      let held : holder p ≡ Some w = h.holders.named w p (grind arith) in
      let free_l : holder l ≡ None = passed_free (is_done (node l)) (holder l) (is_done (node r)) (holder r) (sym full ∙ h.marks p l r par) in
      let free_r : holder r ≡ None = passed_free (is_done (node r)) (holder r) (is_done (node l)) (holder l) (sym full ∙ h.marks p l r par ∙ add_comm _ _) in
      let has_parent : plan.after p ≢ Root = λ e. inner (laws.one_root p (grind arith) e) in
      record {
        holders = keep_task task holder w (Whole p) h.holders (grind arith);
        fits = put_each (TaskFits plan (put node p Done) mark) task w (Whole p)
            (whole p Done taken refl has_parent)
            (λ v other. finish_task plan node mark p Done laws taken refl (task v) (apart task holder h.holders v w p (rw mine refl) other)
            (λ m side name. grind (arith, h.holders.named v m name, par_side p l r m par side)) (h.fits v));
        alone = λ q t nobody. finish_alone node mark holder p Done (plan.kind q) q refl (grind arith) (h.alone q (grind (arith, nat_tests)) nobody);
        marks = λ q k m k'. grind (arith, nat_tests, h.marks q k m k');
      }

  -- the first side of a Par arrives
  pub arrive_first : (p l r n : ℕ) → task w ≡ Whole n → plan.kind p ≡ Some (ParNode l r) → IsSide plan p n → mark p ≡ 0
      → InductiveTasks plan node (put mark p 1) (put task w Idle) (put holder n None)
  arrive_first p l r n mine par side none =
      let mine' : TaskFits plan node mark (Whole n) = rw mine at (h.fits w) in
      let which : (n ≡ l) ⊎ (n ≡ r) = par_side p l r n par side in
      let lr : l ≢ r = laws.apart p l r par in
      let after_n : plan.after n ≡ Arrive p = grind (arith, laws.left_of_par p l r par, laws.right_of_par p l r par) in
      let held : holder n ≡ Some w = h.holders.named w n (rw mine refl) in
      let counted : mark p ≡ passed_if (is_done (node l)) (holder l) + passed_if (is_done (node r)) (holder r) = h.marks p l r par in
      record {
        holders = drop_task task holder w n Idle h.holders (rw mine refl) refl;
        fits = put_each (TaskFits plan node (put mark p 1)) task w Idle tt
            (λ v other. arrive_task plan node mark p 1 (task v) (λ e. not_full (task v) p (h.fits v) none e) (h.fits v));
        alone = λ q t nobody. arrive_alone node mark holder n p 1 (plan.kind q) q (grind arith) (λ k m e. grind (arith, laws.left_of_seq q k m e)) (λ k m e. grind (arith, laws.right_of_seq q k m e))
            (h.alone q t (grind (arith, nat_tests)));
        marks = λ q k m e. grind (arith, nat_tests, h.marks q k m e, laws.left_of_par q k m e, laws.right_of_par q k m e, laws.apart q k m e);
      }

  -- as the second side arrives at a block, the block is taken, both its sides are done, and no worker holds it
  second_finds : (p l r n : ℕ) → task w ≡ Whole n → plan.kind p ≡ Some (ParNode l r) → IsSide plan p n → mark p ≡ 1
      → (node p ≡ Taken) × (is_done (node l) ≡ true) × (is_done (node r) ≡ true) × (holder p ≡ None)
  second_finds p l r n mine par side one =
      let mine' : TaskFits plan node mark (Whole n) = rw mine at (h.fits w) in
      let which : (n ≡ l) ⊎ (n ≡ r) = par_side p l r n par side in
      let lr : l ≢ r = laws.apart p l r par in
      let taken : node p ≡ Taken = grind arith in
      let after_n : plan.after n ≡ Arrive p = grind (arith, laws.left_of_par p l r par, laws.right_of_par p l r par) in
      let held : holder n ≡ Some w = h.holders.named w n (rw mine refl) in
      let counted : mark p ≡ passed_if (is_done (node l)) (holder l) + passed_if (is_done (node r)) (holder r) = h.marks p l r par in
      let both : (is_done (node l) ≡ true) × (is_done (node r) ≡ true) = grind arith in
      let side_l : IsSide plan p l = ap parent_of (laws.left_of_par p l r par) in
      (taken, both.0, both.1, unnamed p (λ v. par_busy plan node mark p l r par side_l both.0 both.1 taken (grind arith) (task v) (h.fits v)))

  pub second_free : (p l r n : ℕ) → task w ≡ Whole n → plan.kind p ≡ Some (ParNode l r) → IsSide plan p n → mark p ≡ 1 → holder p ≡ None
  second_free p l r n mine par side one = (second_finds p l r n mine par side one).3

  -- the second side of a Par arrives: the worker is handed the Par
  pub arrive_second : (p l r n : ℕ) → task w ≡ Whole n → plan.kind p ≡ Some (ParNode l r) → IsSide plan p n → mark p ≡ 1
      → InductiveTasks plan node (put mark p 2) (put task w (Handed p)) (put (put holder n None) p (Some w))
  arrive_second p l r n mine par side one =
      let mine' : TaskFits plan node mark (Whole n) = rw mine at (h.fits w) in
      let found = second_finds p l r n mine par side one in
      let taken : node p ≡ Taken = found.0 in
      let left : is_done (node l) ≡ true = found.1 in
      let right : is_done (node r) ≡ true = found.2 in
      let free : holder p ≡ None = found.3 in
      let which : (n ≡ l) ⊎ (n ≡ r) = par_side p l r n par side in
      let lr : l ≢ r = laws.apart p l r par in
      let after_n : plan.after n ≡ Arrive p = grind (arith, laws.left_of_par p l r par, laws.right_of_par p l r par) in
      let held : holder n ≡ Some w = h.holders.named w n (rw mine refl) in
      let side_l : IsSide plan p l = ap parent_of (laws.left_of_par p l r par) in
      record {
        holders = move_task task holder w n p (Handed p) h.holders (rw mine refl) refl free;
        fits = put_each (TaskFits plan node (put mark p 2)) task w (Handed p) (l, r, par, taken, put_at mark p p 2 refl)
            (λ v other. arrive_task plan node mark p 2 (task v) (λ e. par_busy plan node mark p l r par side_l left right taken (grind arith) (task v) (h.fits v) (rw e refl)) (h.fits v));
        alone = λ q t nobody. hand_alone node mark holder n p w 2 (plan.kind q) q (grind (arith, nat_tests)) (λ k m e. grind (arith, laws.left_of_seq q k m e)) (λ k m e. grind (arith, laws.right_of_seq q k m e))
            (h.alone q t (grind (arith, nat_tests)));
        marks = λ q k m e. grind (arith, nat_tests, h.marks q k m e, laws.left_of_par q k m e, laws.right_of_par q k m e, laws.apart q k m e);
      }
