-- The tasks, as the root is done.
use Rattle.std.proofs.Common.{ℕ, ◌≡◌, ◌≢◌, ◌<◌, ◌+◌, ◌⊎◌, true, Option, Some, None, arith, refl, ap}
use Rattle.std.proofs.lemmas.Bool.Decides.{nat_tests}
use Rattle.core_model.proofs.Words.{Kind, SeqNode, ParNode, Root, Nodes, IsPlan, IsSide, parent_of, Progress, Waiting, Taken, Task, Idle, put, is_done, names}
use Rattle.core_model.specs.Invariant.Tasks.{TaskFits}
use Rattle.core_model.proofs.Inductive.Nodes.{InductiveNodes, passed_if, LeftAlone, InductiveTasks}
use Rattle.core_model.proofs.InvariantLemmas.Puts.{put_each}
use Rattle.core_model.proofs.InvariantLemmas.Holders.{drop_task}
use Rattle.core_model.proofs.InvariantLemmas.TaskFrames.{finish_task}

-- a series, when the root is done and its worker is idle
root_alone_seq : (node : ℕ → Progress) (holder : ℕ → Option ℕ) (n k l r : ℕ) (x : Progress) → (l ≢ n) × (r ≢ n) × (l ≢ k) × (r ≢ k)
    → (node l ≢ Waiting) × (is_done (node l) ≡ true → holder l ≡ None → node r ≢ Waiting) × (is_done (node r) ≡ true → holder r ≢ None)
    → (put node n x l ≢ Waiting) × (is_done (put node n x l) ≡ true → put holder k None l ≡ None → put node n x r ≢ Waiting) × (is_done (put node n x r) ≡ true → put holder k None r ≢ None)
root_alone_seq node holder n k l r x away h = grind (arith, nat_tests)

-- a parallel block, when the root is done
root_alone_par : (node : ℕ → Progress) (mark : ℕ → ℕ) (n l r q : ℕ) (x : Progress) → is_done x ≡ true
    → (node l ≢ Waiting) × (node r ≢ Waiting) × (mark q < 2) → (put node n x l ≢ Waiting) × (put node n x r ≢ Waiting) × (mark q < 2)
root_alone_par node mark n l r q x done h = grind (arith, nat_tests)

-- what no task names stays so, when the root n is done and its worker gives up k
root_alone : (node : ℕ → Progress) (mark : ℕ → ℕ) (holder : ℕ → Option ℕ) (n k : ℕ) (x : Progress) (a : Option Kind) (q : ℕ) → is_done x ≡ true
    → ((l r : ℕ) → a ≡ Some (SeqNode l r) → (l ≢ n) × (r ≢ n) × (l ≢ k) × (r ≢ k))
    → LeftAlone a node mark holder q → LeftAlone a (put node n x) mark (put holder k None) q
root_alone node mark holder n k x (Some (SeqNode l r)) q done away h = root_alone_seq node holder n k l r x (away l r refl) h
root_alone node mark holder n k x (Some (ParNode l r)) q done away h = root_alone_par node mark n l r q x done h
root_alone node mark holder n k x _ q done away h = h

module _ (plan : Nodes) (node : ℕ → Progress) (mark : ℕ → ℕ) (task : ℕ → Task) (holder : ℕ → Option ℕ) (w : ℕ)
    (laws : IsPlan plan) (nodes : InductiveNodes plan node) (h : InductiveTasks plan node mark task holder) where
  -- a side is not the root
  pub not_top : (n q l : ℕ) → plan.after n ≡ Root → IsSide plan q l → l ≢ n
  not_top n q l top side e = grind arith

  -- the sides of another node are neither the root nor the node that is given up
  away : (n k q l r : ℕ) → plan.after n ≡ Root → ((p : ℕ) → IsSide plan p k → p ≡ n) → q ≢ n → IsSide plan q l → IsSide plan q r → (l ≢ n) × (r ≢ n) × (l ≢ k) × (r ≢ k)
  away n k q l r top under apart a b = (λ e. not_top n q l top a e, λ e. not_top n q r top b e, λ e. apart (under q (rw e at a)), λ e. apart (under q (rw e at b)))

  -- a node that is taken and that no worker holds then was so before
  root_free : (n k q : ℕ) (x : Progress) → node n ≡ Taken → is_done x ≡ true → (k ≡ n) ⊎ (is_done (node k) ≡ true) → put node n x q ≡ Taken → put holder k None q ≡ None → holder q ≡ None
  root_free n k q x taken done held t nobody = grind (arith, nat_tests)

  -- the marks stay the counts
  root_marks : (n k q l r : ℕ) (x : Progress) → plan.after n ≡ Root → (l ≢ k) × (r ≢ k) → plan.kind q ≡ Some (ParNode l r) → IsSide plan q l → IsSide plan q r
      → mark q ≡ passed_if (is_done (put node n x l)) (put holder k None l) + passed_if (is_done (put node n x r)) (put holder k None r)
  root_marks n k q l r x top apart par a b =
      let ln : l ≢ n = not_top n q l top a in
      let rn : r ≢ n = not_top n q r top b in
      grind (arith, nat_tests, h.marks q l r par)

  -- the root n is done, and the worker, whose task named k, is idle
  pub finish_root : (n k : ℕ) (x : Progress) → plan.after n ≡ Root → node n ≡ Taken → is_done x ≡ true → names (task w) ≡ Some k
      → (k ≡ n) ⊎ (is_done (node k) ≡ true) → ((q l r : ℕ) → plan.kind q ≡ Some (ParNode l r) → (l ≢ k) × (r ≢ k))
      → ((p : ℕ) → IsSide plan p k → p ≡ n)
      → ((v : ℕ) → v ≢ w → names (task v) ≢ Some n) → ((v m : ℕ) → v ≢ w → IsSide plan n m → names (task v) ≢ Some m)
      → InductiveTasks plan (put node n x) mark (put task w Idle) (put holder k None)
  finish_root n k x top taken done mine held apart_par under other sides = record {
    holders = drop_task task holder w k Idle h.holders mine refl;
    fits = put_each (TaskFits plan (put node n x) mark) task w Idle tt
        (λ v e. finish_task plan node mark n x laws taken done (task v) (other v e) (λ m side. sides v m e side) (h.fits v));
    alone = λ q t nobody.
        let apart : q ≢ n = grind (arith, nat_tests) in
        root_alone node mark holder n k x (plan.kind q) q done
        (λ l r seq. away n k q l r top under apart (ap parent_of (laws.left_of_seq q l r seq)) (ap parent_of (laws.right_of_seq q l r seq)))
        (h.alone q (grind (arith, nat_tests)) (root_free n k q x taken done held t nobody));
    marks = λ q l r par. root_marks n k q l r x top (apart_par q l r par) par (ap parent_of (laws.left_of_par q l r par)) (ap parent_of (laws.right_of_par q l r par));
  }
