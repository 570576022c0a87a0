-- What the holder of the flag has in hand in the course of a launch.
use Rattle.std.specs.Prelude.{ℕ, ◌≡◌, false, Some, List, [], take}
use Rattle.seq_objects.specs.declared.call.Call.{Call}
use Rattle.batch_history.specs.declared.batch.Entry.{Entry}
use Rattle.table_rule.specs.declared.view.HoldView.{HoldView}
use Rattle.core_table.specs.declared.table.CoreTable.{CoreTable}
use Rattle.core_table.specs.declared.table.Pass.{Pass}
use Rattle.core_table.specs.Passes.{IsPassOf, job_in, pass_view}
use Rattle.worker_turns.specs.Holds.{workers_in, AreFit, IsPublished}

-- The hold has looked at the workers below this number, and taken exactly these calls. They can be served as one batch.
pub record HasTaken (n : ℕ) (calls : List Call) (h : HoldView) : Type 0 where
  pub looks : h.looks ≡ n
  pub taken : h.taken ≡ calls
  pub fit : AreFit h
  pub early : h.published ≡ false
  pub none : h.answered ≡ []

-- the pass has the flag, which it won with this book
pub record HasFlag {B : Type 0} (table : CoreTable B) (before : List (List Entry)) (n : ℕ) (calls : List Call) (pass : Pass) : Type 0 where
  pub own : IsPassOf table pass
  pub h : HoldView
  pub hold : (pass_view pass).hold ≡ Some h
  pub book : h.book ≡ before
  pub taken : HasTaken n calls h

-- The batch is published after this book, and of its entries the first so many are answered.
pub record HasAnswered (size : ℕ) (before : List (List Entry)) (batch : List Entry) (n : ℕ) (h : HoldView) : Type 0 where
  pub looks : h.looks ≡ size
  pub published : IsPublished before batch h
  pub answered : h.answered ≡ take n (workers_in batch)

pub record Answers {B : Type 0} (table : CoreTable B) (before : List (List Entry)) (batch : List Entry) (n : ℕ) (pass : Pass) : Type 0 where
  pub own : IsPassOf table pass
  pub h : HoldView
  pub hold : (pass_view pass).hold ≡ Some h
  pub answered : HasAnswered (job_in table).workers before batch n h
