-- What a turn or a launch leaves unchanged.
use Rattle.std.specs.Prelude.{◌≡◌}
use Rattle.worker_crew.specs.Words.{Receipt, Got}
use Rattle.worker_turns.specs.declared.trapped.Trapped.{Trapped}
use Rattle.worker_turns.specs.declared.trapped.Trapped.TheVariants.{Left, Piece, Launched, Nothing}
use Rattle.table_rule.specs.declared.view.PassView.{PassView}
use Rattle.worker_crew.specs.Passes.{IsFree, IsTrapped}
use Rattle.worker_turns.specs.Pieces.{Desk}
use Rattle.worker_crew.specs.Workers.{WorkerView}
use Rattle.worker_turns.specs.Trapped.{IsJobSame, IsCallSame}

-- the record of what `since` answered is unchanged
pub record IsToldSame (old new : PassView) : Type 0 where
  pub greatest : new.greatest ≡ old.greatest
  pub before : new.before ≡ old.before
  pub after : new.after ≡ old.after
  pub first : new.first_since ≡ old.first_since

-- The call is still outstanding, and the worker does not have the flag. Its task, its call, its receipts and its record
-- of what `since` answered are unchanged, and the book seen has only grown.
pub record IsStillTrapped (old new : PassView) : Type 0 where
  pub trapped : IsTrapped new
  pub same : IsCallSame old new

-- The worker is free, its call has this receipt, and its task and its record of what `since` answered are unchanged.
pub record IsAnswered (receipt : Receipt) (old new : PassView) : Type 0 where
  pub free : IsFree new
  pub task : new.task ≡ old.task
  pub got : new.call ≡ Got receipt
  pub told : IsToldSame old new

-- the state of the call after a trapped turn, by its answer
abbrev pub CallAfter : Trapped → PassView → PassView → Type 0
CallAfter (Left receipt) old new = IsAnswered receipt old new
CallAfter Piece old new = IsStillTrapped old new
CallAfter Launched old new = IsStillTrapped old new
CallAfter Nothing old new = IsStillTrapped old new

-- The worker's ends of the deques of nodes are unchanged, and so is all that `IsJobSame` lists, among it the nodes
-- claimed, refused and opened.
pub record KeepsNodes (old new : WorkerView) : Type 0 where
  pub core : new.core ≡ old.core
  pub job : IsJobSame old.pass new.pass

-- the worker claimed no piece and finished none
pub record HelpsNone (old new : Desk) : Type 0 where
  pub given : new.given ≡ old.given
  pub finishes : new.finishes ≡ old.finishes
