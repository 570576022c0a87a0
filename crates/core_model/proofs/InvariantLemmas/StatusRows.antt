-- What the status, the call and the task of one worker say of each other.
use Rattle.std.proofs.Common.{◌≡◌, ◌≢◌, Bool, true, List, arith}
use Rattle.core_model.proofs.Words.{Entry, Task, Idle, Status, Free, Executing, CallState, NotCalled, Out, CoreJob}
use Rattle.core_model.proofs.Inductive.Book.{StatusFits}

module _ (job : CoreJob) (book : List (List Entry)) (t : Task) (st : Status) (c : CallState) (b : Bool) where
  -- a trapped worker's call is out
  pub call_out : st ≢ Free → StatusFits job book t st c b → c ≡ Out
  call_out busy h = grind arith

  -- and that of a free one is not
  pub not_out : st ≡ Free → StatusFits job book t st c b → c ≢ Out
  not_out free h out = grind arith

  -- a worker is executing exactly where it is taken and not answered
  pub executing_taken : st ≡ Executing → StatusFits job book t st c b → b ≡ true
  executing_taken executing h = grind arith

  pub taken_executing : b ≡ true → StatusFits job book t st c b → st ≡ Executing
  taken_executing taken h = grind arith

  -- a worker whose call is out has a task
  pub out_busy : c ≡ Out → StatusFits job book t st c b → t ≢ Idle
  out_busy out h idle = grind arith

  -- an idle worker is free, and has made no call
  pub idle_free : t ≡ Idle → StatusFits job book t st c b → (st ≡ Free) × (c ≡ NotCalled)
  idle_free idle h = grind arith
