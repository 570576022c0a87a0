-- The hold and the pass at each stage of a launch.
use Rattle.std.specs.Prelude.{ℕ, ◌≡◌, ◌≤◌, true, Option, None, Some, List, [], ◌∷◌, ◌++◌, length, map}
use Rattle.seq_objects.specs.declared.call.Call.{Call}
use Rattle.core_model.specs.Words.{Entry}
use Rattle.launch_batch.specs.Calls.{IsServiceOf}
use Rattle.table_rule.specs.declared.view.HoldView.{HoldView}
use Rattle.table_rule.specs.Passes.{new_hold, in_hold, without_first}
use Rattle.worker_turns.specs.Holds.{workers_in, IsPublished}
use Rattle.table_rule.specs.declared.view.PassView.{PassView}
use Rattle.worker_crew.specs.Workers.{WorkerView}
use Rattle.worker_turns.specs.Launches.{ExecutesPieces, HandsOut, spots_of, LooksWhileWaiting, ArePlaces, AreFound, look_events, answer_events, serve_events}

-- there is a hold, and it satisfies P
abbrev pub Holds : (HoldView → Type 0) → Option HoldView → Type 0
Holds P None = ⊥
Holds P (Some h) = P h

-- the hold is that just after a win: no look, no call taken, nothing published
abbrev pub IsNewHold : HoldView → Type 0
IsNewHold h = h ≡ new_hold h.book

-- the hold, and the pass, after `looks` looks from worker 0 on that found these statuses and took these calls
abbrev pub after_looks : ℕ → List ℕ → List Call → HoldView → HoldView
after_looks looks found calls h = record h { looks = looks; found = found; taken = calls; owed = map (λ call. call.worker) calls }

abbrev pub looked : ℕ → List ℕ → List Call → PassView → PassView
looked looks found calls p = record p {
  hold = in_hold (after_looks looks found calls) p.hold;
  events = p.events ++ look_events looks;
}

-- The pass has looked at the first `looks` workers, and has taken `calls`, exactly those of the workers found pending.
abbrev pub HasLooked : ℕ → List Call → PassView → PassView → Type 0
HasLooked looks calls old new = (found : List ℕ) × AreFound looks found calls × (new ≡ looked looks found calls old)

-- the list without the first occurrence of each of these numbers
abbrev pub without_all : List ℕ → List ℕ → List ℕ
without_all [] xs = xs
without_all (u ∷ us) xs = without_all us (without_first u xs)

-- the hold after these workers were answered, and the pass after these first entries of the batch of this number were
abbrev pub after_answers : List ℕ → HoldView → HoldView
after_answers workers h = record h { answered = workers; owed = without_all workers h.owed }

abbrev pub answered_all : ℕ → List Entry → PassView → PassView
answered_all number entries p = record p {
  hold = in_hold (after_answers (workers_in entries)) p.hold;
  events = p.events ++ answer_events number 0 entries;
}

-- `batch` is published with this number, and no call of it is answered yet
pub record IsAnswerable (number : ℕ) (batch : List Entry) (h : HoldView) : Type 0 where
  pub before : List (List Entry)
  pub published : IsPublished before batch h
  pub numbered : number ≡ length before
  pub none : h.answered ≡ []

-- the hold after a win that found this book, and one look at each worker, which took these calls
abbrev pub taken_hold : ℕ → List ℕ → List Call → List (List Entry) → HoldView
taken_hold workers found calls book = after_looks workers found calls (new_hold book)

-- the hold is such a one, for some found statuses
abbrev pub HasTaken : ℕ → List Call → List (List Entry) → Option HoldView → Type 0
HasTaken workers calls book hold = (found : List ℕ) × (hold ≡ Some (taken_hold workers found calls book))

-- the hold after its calls were served as `batch`, which was published, and answered
abbrev pub after_service : List Entry → HoldView → HoldView
after_service batch h = record h {
  answered = workers_in batch;
  owed = without_all (workers_in batch) h.owed;
  published = true;
  book = h.book ++ batch ∷ [];
}

-- The calls were served as one batch after `book`, with its pieces posted and collected; the batch was published, and
-- answered; and the book is `after` then. Meanwhile the worker may have looked at the stop word, and found it unset.
pub record ServesBatch (book : List (List Entry)) (calls : List Call) (after : List (List Entry))
    (old new : WorkerView) : Type 0 where
  pub batch : List Entry
  pub posted : List ℕ
  pub service : IsServiceOf book calls batch
  pub places : ArePlaces book calls posted
  pub grown : after ≡ book ++ batch ∷ []
  pub pass : new.pass ≡ record old.pass {
    hold = in_hold (after_service batch) old.pass.hold;
    stop_looks = new.pass.stop_looks;
    events = old.pass.events ++ serve_events (length book) batch;
  }
  pub looks : old.pass.stop_looks ≤ new.pass.stop_looks
  pub waits : LooksWhileWaiting old new
  pub desk : ExecutesPieces posted old.desk new.desk
  pub handed : HandsOut (spots_of old.desk.row posted) old.batch new.batch
  pub core : new.core ≡ old.core
