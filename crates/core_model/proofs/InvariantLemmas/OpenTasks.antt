-- The tasks, as a side of a block is made ready.
use Rattle.std.proofs.Common.{ℕ, ◌≡◌, ◌≢◌, ◌<◌, ◌≤◌, Bool, false, Option, Some, None, arith, refl, inl, inr}
use Rattle.std.proofs.lemmas.Bool.Decides.{nat_tests}
use Rattle.std.proofs.lemmas.Bool.{cases_eq}
use Rattle.core_model.proofs.Words.{Kind, SeqNode, ParNode, OpenSecond, FinishParent, Nodes, IsPlan, IsSide, Progress, Waiting, Ready, Taken, Task, Idle, Run, Half, Whole, put, is_done, names}
use Rattle.core_model.specs.Invariant.Tasks.{TaskFits}
use Rattle.core_model.proofs.Inductive.Nodes.{InductiveNodes, passed_if, LeftAlone, InductiveTasks}
use Rattle.core_model.proofs.InvariantLemmas.Puts.{put_each}
use Rattle.core_model.proofs.InvariantLemmas.Holders.{apart, keep_task, drop_task}
use Rattle.core_model.proofs.InvariantLemmas.TaskFrames.{open_task}

-- a series has one left side
seq_left : (plan : Nodes) {p l k r : ℕ} → plan.kind p ≡ Some (SeqNode l r) → plan.kind p ≡ Some (SeqNode k r) → l ≡ k
seq_left plan d e = cc

-- what no task names stays so, when n becomes ready and m, which isn't done, is named no more
open_alone : (node : ℕ → Progress) (mark : ℕ → ℕ) (holder : ℕ → Option ℕ) (n m : ℕ) (k : Option Kind) (q : ℕ) → node n ≡ Waiting → is_done (node m) ≡ false
    → LeftAlone k node mark holder q → LeftAlone k (put node n Ready) mark (put holder m None) q
open_alone node mark holder n m k q waits undone h = grind (arith, nat_tests)

-- a side counts at most once
passed_most : (b : Bool) (o : Option ℕ) → passed_if b o ≤ 1
passed_most b o = grind arith

module _ (plan : Nodes) (node : ℕ → Progress) (mark : ℕ → ℕ) (task : ℕ → Task) (holder : ℕ → Option ℕ) (w : ℕ)
    (laws : IsPlan plan) (nodes : InductiveNodes plan node) (h : InductiveTasks plan node mark task holder) where
  -- no task names a Seq whose left is done, while it is taken
  pub busy : (t : Task) (p l r : ℕ) → plan.kind p ≡ Some (SeqNode l r) → IsSide plan p l → node p ≡ Taken → node l ≢ Waiting → TaskFits plan node mark t → names t ≢ Some p
  busy t p l r seq side taken there fits name = grind arith

  -- the right of a Par is made ready
  pub open_right : (p l r : ℕ) → task w ≡ Run p → plan.kind p ≡ Some (ParNode l r)
      → InductiveTasks plan (put node r Ready) mark (put task w (Half p)) holder
  open_right p l r mine par =
      let mine' : TaskFits plan node mark (Run p) = rw mine at (h.fits w) in
      let side : IsSide plan p r = grind (arith, laws.right_of_par p l r par) in
      let side_l : IsSide plan p l = grind (arith, laws.left_of_par p l r par) in
      let waits : node r ≡ Waiting = mine'.1 r side in
      let waits_l : node l ≡ Waiting = mine'.1 l side_l in
      let lr : l ≢ r = laws.apart p l r par in
      let pr : p < r = laws.deeper p r side in
      record {
        holders = keep_task task holder w (Half p) h.holders (grind arith);
        fits = put_each (TaskFits plan (put node r Ready) mark) task w (Half p)
            (l, r, par, grind (arith, nat_tests), grind (arith, nat_tests), grind (arith, nat_tests))
            (λ v other. open_task plan node mark p r laws.left_of_par laws.right_of_seq side waits (task v) (apart task holder h.holders v w p (grind arith) other)
            (λ k seq. grind arith) (h.fits v));
        alone = λ q taken nobody. grind (arith, nat_tests, h.alone q);
        marks = λ q k m e. grind (arith, nat_tests, h.marks q k m e);
      }

  -- its left is made ready, and the worker is idle
  pub open_left : (p l r : ℕ) → task w ≡ Half p → plan.kind p ≡ Some (ParNode l r)
      → InductiveTasks plan (put node l Ready) mark (put task w Idle) (put holder p None)
  open_left p l r mine par =
      let mine' : TaskFits plan node mark (Half p) = rw mine at (h.fits w) in
      let side : IsSide plan p l = grind (arith, laws.left_of_par p l r par) in
      let side_r : IsSide plan p r = grind (arith, laws.right_of_par p l r par) in
      let waits : node l ≡ Waiting = grind arith in
      let there : node r ≢ Waiting = grind arith in
      let taken_p : node p ≡ Taken = grind arith in
      let lr : l ≢ r = laws.apart p l r par in
      let pl : p < l = laws.deeper p l side in
      let pr : p < r = laws.deeper p r side_r in
      let low : mark p < 2 = grind (arith, h.marks p l r par, passed_most (is_done (node r)) (holder r)) in
      record {
        holders = drop_task task holder w p Idle h.holders (grind arith) refl;
        fits = put_each (TaskFits plan (put node l Ready) mark) task w Idle tt
            (λ v other. open_task plan node mark p l laws.left_of_par laws.right_of_seq side waits (task v) (apart task holder h.holders v w p (grind arith) other)
            (λ k seq. grind arith) (h.fits v));
        alone = λ q taken nobody. elim (cases_eq q p) [
          | inl e ↦ rw e (rw par (grind (arith, nat_tests)))
          | inr e ↦ open_alone node mark holder l p (plan.kind q) q waits (grind arith) (h.alone q (grind (arith, nat_tests)) (grind (arith, nat_tests)))
        ];
        marks = λ q k m e. grind (arith, nat_tests, h.marks q k m e);
      }

  -- the left of a Seq is made ready, and the worker is idle
  pub open_first : (p l r : ℕ) → task w ≡ Run p → plan.kind p ≡ Some (SeqNode l r)
      → InductiveTasks plan (put node l Ready) mark (put task w Idle) (put holder p None)
  open_first p l r mine seq =
      let mine' : TaskFits plan node mark (Run p) = rw mine at (h.fits w) in
      let after_l : plan.after l ≡ OpenSecond p = laws.left_of_seq p l r seq in
      let after_r : plan.after r ≡ FinishParent p = laws.right_of_seq p l r seq in
      let side : IsSide plan p l = grind arith in
      let side_r : IsSide plan p r = grind arith in
      let waits : node l ≡ Waiting = mine'.1 l side in
      let waits_r : node r ≡ Waiting = mine'.1 r side_r in
      let pl : p < l = laws.deeper p l side in
      let pr : p < r = laws.deeper p r side_r in
      record {
        holders = drop_task task holder w p Idle h.holders (grind arith) refl;
        fits = put_each (TaskFits plan (put node l Ready) mark) task w Idle tt
            (λ v other. open_task plan node mark p l laws.left_of_par laws.right_of_seq side waits (task v) (apart task holder h.holders v w p (grind arith) other)
            (λ k e. grind arith) (h.fits v));
        alone = λ q taken nobody. grind (arith, nat_tests, h.alone q);
        marks = λ q k m e. grind (arith, nat_tests, h.marks q k m e);
      }

  -- the left of a Seq is done, so its right is made ready, and the worker is idle
  pub open_second : (p l r : ℕ) → task w ≡ Whole l → plan.kind p ≡ Some (SeqNode l r)
      → InductiveTasks plan (put node r Ready) mark (put task w Idle) (put holder l None)
  open_second p l r mine seq =
      let mine' : TaskFits plan node mark (Whole l) = rw mine at (h.fits w) in
      let after_l : plan.after l ≡ OpenSecond p = laws.left_of_seq p l r seq in
      let after_r : plan.after r ≡ FinishParent p = laws.right_of_seq p l r seq in
      let side : IsSide plan p l = grind arith in
      let side_r : IsSide plan p r = grind arith in
      let pl : p < l = laws.deeper p l side in
      let pr : p < r = laws.deeper p r side_r in
      let taken_p : node p ≡ Taken = grind arith in
      let waits : node r ≡ Waiting = grind arith in
      record {
        holders = drop_task task holder w l Idle h.holders (grind arith) refl;
        fits = put_each (TaskFits plan (put node r Ready) mark) task w Idle tt
            (λ v other. open_task plan node mark p r laws.left_of_par laws.right_of_seq side_r waits (task v)
            (busy (task v) p l r seq side taken_p (grind arith) (h.fits v))
            (λ k e. rw (seq_left plan seq e) at (apart task holder h.holders v w l (grind arith) other)) (h.fits v));
        alone = λ q taken nobody. grind (arith, nat_tests, h.alone q);
        marks = λ q k m e. grind (arith, nat_tests, h.marks q k m e, laws.left_of_par q k m e, laws.right_of_par q k m e);
      }
