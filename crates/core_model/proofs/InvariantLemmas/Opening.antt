-- The opening state has the inductive invariant.
use Rattle.std.proofs.Common.{ℕ, ◌≡◌, ◌≢◌, Bool, false, Option, None, arith, refl, sym, ap}
use Rattle.std.proofs.lemmas.Bool.Decides.{nat_tests}
use Rattle.core_model.proofs.Words.{Nodes, IsPlan, parent_of, Progress, Waiting, Ready, Taken, Task, Idle, Status, Free, CallState, NotCalled, put, CoreJob}
use Rattle.core_model.specs.State.{opening_state}
use Rattle.core_model.specs.Operations.{place_of}
use Rattle.core_model.proofs.Inductive.Nodes.{InductiveNodes, InductiveTasks}
use Rattle.core_model.proofs.Inductive.Ticks.{Stamp, stamps, StartOf, InductiveTicks}
use Rattle.core_model.proofs.Inductive.Book.{booked_by, valued_by}
use Rattle.core_model.proofs.Inductive.Parts.{InductiveParts}

-- the nodes
opening_nodes : (plan : Nodes) → IsPlan plan → (plan.kind 0 ≢ None) → InductiveNodes plan (put (λ n. Waiting) 0 Ready)
opening_nodes plan laws inside = record {
  root = grind (arith, nat_tests);
  below_waiting = λ p n side w. grind (arith, nat_tests, laws.deeper p n side);
  below_ready = λ p n side w. grind (arith, nat_tests, laws.deeper p n side);
  second = λ p l r seq. grind (arith, nat_tests, laws.deeper p r (ap parent_of (laws.right_of_seq p l r seq)));
  below_done = λ p n side d. grind (arith, nat_tests);
  outside = λ n out. grind (arith, nat_tests);
  leaf_ran = λ n u k. grind (arith, nat_tests);
  ran_leaf = λ n w s e k. absurd (grind (arith, nat_tests));
}

-- no node is taken
not_taken : (p : ℕ) → put (λ n. Waiting) 0 Ready p ≢ Taken
not_taken p e = grind (arith, nat_tests)

-- the tasks
opening_tasks : (plan : Nodes) → InductiveTasks plan (put (λ n. Waiting) 0 Ready) (λ n. 0) (λ w. Idle) (λ n. None)
opening_tasks plan = record {
  holders = record { named = λ w n e. cc; holds = λ w n e. cc };
  fits = λ w. tt;
  alone = λ p taken free. absurd (not_taken p taken);
  marks = λ p l r par. grind (arith, nat_tests);
}

-- no leaf has a stamp
opening_stamp : (n : ℕ) → stamps (put (λ n. Waiting) 0 Ready) (λ w. Idle) (λ n. None) n ≡ None
opening_stamp n = grind (arith, nat_tests)

-- the ticks
opening_ticks : (plan : Nodes) (workers : ℕ) (stamps : ℕ → Option Stamp) (node : ℕ → Progress) → ((n : ℕ) → stamps n ≡ None) → InductiveTicks plan workers node 0 stamps
opening_ticks plan workers stamps node none = record {
  draw = λ t. StartOf 0;
  start_drawn = λ n w s e k. let f = none n in cc;
  end_drawn = λ n w s e k. let f = none n in cc;
  start_at = λ t n l k. absurd (omega arith);
  end_at = λ t n l k. absurd (omega arith);
  workers_below = λ n w s e k. let f = none n in cc;
  in_order = λ n m w s e b k. let f = none m in cc;
  one_at_once = λ n m w s t d e i j l. let f = none n in cc;
}

-- no worker is in the book
opening_booked : (n : ℕ) (task : ℕ → Task) (status : ℕ → Status) (call : ℕ → CallState) (b : Bool)
    → booked_by (put (λ n. Waiting) 0 Ready n) None task status call b ≡ None
opening_booked n task status call b = grind (arith, nat_tests)

-- no leaf has its value
opening_valued : (n : ℕ) (task : ℕ → Task) → valued_by (put (λ n. Waiting) 0 Ready n) None task ≡ false
opening_valued n task = grind (arith, nat_tests)

-- all of it
pub opening_kept : (job : CoreJob) → IsPlan job.plan → job.plan.kind 0 ≢ None → InductiveParts job opening_state
unfolding place_of opening_state
opening_kept job laws inside = record {
  holder = λ n. None;
  nodes = opening_nodes job.plan laws inside;
  tasks = opening_tasks job.plan;
  beyond = λ w far. refl;
  ticks = opening_ticks job.plan job.workers (stamps (put (λ n. Waiting) 0 Ready) (λ w. Idle) (λ n. None)) (put (λ n. Waiting) 0 Ready) opening_stamp;
  statuses = λ w. refl;
  hold = tt;
  book = record {
    legal = tt;
    objects_after = refl;
    batches = tt;
    leaves = tt;
    among = tt;
    operations = tt;
    entries = λ u p e. cc;
    sources = λ u r o p is from e. cc;
    in_order = λ n m u v w x s t d e ln lm call i j l. tt;
  };
  booked = λ n u leaf call. sym (opening_booked n (λ w. Idle) (λ w. Free) (λ w. NotCalled) false);
  values = λ n u leaf k. let f = opening_valued n (λ w. Idle) in absurd cc;
}
