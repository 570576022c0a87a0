-- The refinement mapping: the model's state that a stored state represents.
use Rattle.core_state.specs.Holds.{hold_view}
use Rattle.core_state.specs.Places.{at}
use Rattle.core_model.specs.State.{CoreState, Hold, State}
use Rattle.core_state.specs.declared.state.State.{State as StoredState}
use Rattle.core_state.specs.declared.hold.Hold.{Hold as StoredHold}
use Rattle.core_model.specs.declared.progress.Progress.TheVariants.{Waiting}
use Rattle.core_model.specs.declared.status.CallState.TheVariants.{NotCalled}
use Rattle.core_model.specs.declared.status.Status.TheVariants.{Free}
use Rattle.core_model.specs.declared.task.Task.TheVariants.{Idle}
use Rattle.batch_history.specs.Serving.{served_book}
use Rattle.batch_history.specs.declared.batch.Entry.{Entry}
use Rattle.std.specs.Prelude.{List, None, Option, Some, [], ℕ}

-- the hold, if the flag is owned
abbrev pub hold_of : Option StoredHold → Option Hold
hold_of None = None
hold_of (Some h) = Some (hold_view h)

-- the batches that the shop has served, or none if the shop is gone after an allocation failure
abbrev pub book_of : Option (List (List Entry)) → List (List Entry)
book_of None = []
book_of (Some book) = book

-- the represented state; its shared objects are the serial ones after all operations of the book
unfoldable pub state_of : StoredState → State
state_of t = record {
  node = at t.nodes.items Waiting;
  mark = at t.marks.items 0;
  value = at t.values.items None;
  task = at t.tasks.items Idle;
  status = at t.statuses.items Free;
  call = at t.calls.items NotCalled;
  hold = hold_of t.hold;
  tick = t.tick;
  book = book_of t.shop;
  objects = served_book (book_of t.shop);
}

-- the represented lists of ready nodes
unfoldable pub ready_of : StoredState → ℕ → List ℕ
ready_of t = at t.ready []

abbrev pub core_state_of : StoredState → CoreState
core_state_of t = record { state = state_of t; ready = ready_of t }
