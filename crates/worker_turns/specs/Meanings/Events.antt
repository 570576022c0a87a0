-- The core model's events that a turn made, by its answer.
use Rattle.std.specs.Prelude.{ℕ, ◌≡◌, ◌⊎◌, Some, List, [], ◌∷◌, ◌++◌, length}
use Rattle.core_model.specs.declared.event.Event.TheVariants.{Claim, Win, Leave as LeaveOf}
use Rattle.core_model.specs.Words.{Entry}
use Rattle.worker_turns.specs.declared.trapped.Trapped.{Trapped}
use Rattle.worker_turns.specs.declared.trapped.Trapped.TheVariants.{Left, Piece, Launched, Nothing}
use Rattle.worker_turns.specs.declared.free.Did.{Did}
use Rattle.worker_turns.specs.declared.free.Did.TheVariants as did
use Rattle.worker_crew.specs.Words.{Event}
use Rattle.table_rule.specs.declared.view.HoldView.{HoldView}
use Rattle.table_rule.specs.declared.view.PassView.{PassView}
use Rattle.worker_turns.specs.Launches.{serve_events, launch_events}
use Rattle.worker_turns.specs.Meanings.Gains.{GrewBy}

-- If no call was taken, there are no events. Otherwise they are the `Publish` of the one batch behind the book, and its
-- answers.
abbrev pub AreServed : List (List Entry) → HoldView → List Event → Type 0
AreServed book done served =
    ((done.taken ≡ []) × (served ≡ []))
    ⊎ ((batch : List Entry) × (done.book ≡ book ++ batch ∷ []) × (served ≡ serve_events (length book) batch))

-- A trapped turn makes events only if the worker leaves, or wins the flag and launches.
abbrev pub HasTrappedEvents : ℕ → Trapped → PassView → PassView → Type 0
HasTrappedEvents workers (Left receipt) old new = GrewBy (LeaveOf receipt ∷ []) old.events new.events
HasTrappedEvents workers Piece old new = new.events ≡ old.events
HasTrappedEvents workers Launched old new =
    (book : List (List Entry)) × (done : HoldView) × (served : List Event) × (new.last ≡ Some done)
    × AreServed book done served × GrewBy (Win ∷ launch_events workers served) old.events new.events
HasTrappedEvents workers Nothing old new = new.events ≡ old.events

-- A free turn makes events only if it claims a node: first the `Claim` of that node, and then any others (those of
-- carrying it on).
abbrev pub HasFreeEvents : Did → PassView → PassView → Type 0
HasFreeEvents did.Ran old new =
    (node : ℕ) × (more : List Event) × GrewBy (node ∷ []) old.claimed new.claimed
    × GrewBy (Claim node ∷ more) old.events new.events
HasFreeEvents did.Piece old new = new.events ≡ old.events
HasFreeEvents did.Nothing old new = new.events ≡ old.events
