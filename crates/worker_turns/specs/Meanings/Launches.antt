-- The meaning of a launch, in counts and lists that grew.
use Rattle.std.specs.Prelude.{ℕ, ◌≡◌, ◌+◌, ◌⊎◌, true, false, None, Some, List, [], ◌∷◌, length}
use Rattle.batch_history.specs.Serving.{calls_in}
use Rattle.launch_batch.specs.Calls.{ArePermutations, IsServiceOf}
use Rattle.core_model.specs.Words.{Entry}
use Rattle.table_rule.specs.declared.view.HoldView.{HoldView}
use Rattle.worker_turns.specs.Holds.{workers_in}
use Rattle.worker_turns.specs.Launches.{ArePlaces, AreFound}
use Rattle.worker_turns.specs.Pieces.{Desk}
use Rattle.worker_crew.specs.Workers.{WorkerView}
use Rattle.worker_turns.specs.Meanings.Gains.{GrewBy}

-- No call was taken, nothing was published, and the book is unchanged.
pub record FoundNone (book : List (List Entry)) (done : HoldView) : Type 0 where
  pub none : done.taken ≡ []
  pub unpublished : done.published ≡ false
  pub unchanged : done.book ≡ book

-- The calls taken, and no others, form the batch, which serves them after the book. It was published behind the book,
-- and each of its calls was answered, in batch order.
pub record Served (book : List (List Entry)) (batch : List Entry) (done : HoldView) : Type 0 where
  pub published : done.published ≡ true
  pub behind : GrewBy (batch ∷ []) book done.book
  pub exactly : ArePermutations done.taken (calls_in batch)
  pub service : IsServiceOf book done.taken batch
  pub answered : done.answered ≡ workers_in batch

-- Pieces were posted at exactly these places, in this order, as many results were collected, and the row is free.
pub record Passed (places : List ℕ) (old new : Desk) : Type 0 where
  pub posts : GrewBy places old.posts new.posts
  pub collects : new.collects ≡ old.collects + length places
  pub free : new.posted ≡ []

-- no piece was posted or collected, and the row is free
pub record PassedNone (old new : Desk) : Type 0 where
  pub posts : new.posts ≡ old.posts
  pub collects : new.collects ≡ old.collects
  pub free : new.posted ≡ []

-- After a launch the flag is released, and `done` is the hold as of the release. It looked at each worker exactly once,
-- as its look number u is at worker u. If no call was found pending, nothing was published and no piece was posted.
-- Otherwise the calls found form one batch, whose pieces were posted at their places and collected. The book that the
-- pass has seen is that of the hold, with this batch.
pub record HasLaunched (workers : ℕ) (book : List (List Entry)) (old new : WorkerView) : Type 0 where
  pub done : HoldView
  pub last : new.pass.last ≡ Some done
  pub released : new.pass.hold ≡ None
  pub looks : done.looks ≡ workers
  pub pending : AreFound workers done.found done.taken
  pub seen : new.pass.book_seen ≡ done.book
  pub found : (FoundNone book done × PassedNone old.desk new.desk)
      ⊎ ((batch : List Entry) × (places : List ℕ) × Served book batch done × ArePlaces book done.taken places
      × Passed places old.desk new.desk)

-- `Launched`: one leave was refused, one win succeeded and none was refused, and for some book the turn launched.
pub record DidLaunch (workers : ℕ) (old new : WorkerView) : Type 0 where
  pub leaves : new.pass.refused_leaves ≡ old.pass.refused_leaves + 1
  pub wins : new.pass.wins ≡ old.pass.wins + 1
  pub refused_wins : new.pass.refused_wins ≡ old.pass.refused_wins
  pub book : List (List Entry)
  pub launched : HasLaunched workers book old new
