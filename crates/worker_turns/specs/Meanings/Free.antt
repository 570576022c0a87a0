-- The meaning of each answer of a free worker's turn, in counts and lists that grew.
use Rattle.std.specs.Prelude.{ℕ, ◌≡◌, ◌<◌, ◌+◌, ◌⊎◌, List, [], ◌∷◌, ◌++◌}
use Rattle.two_deques.specs.declared.spot.Spot.{Spot}
use Rattle.two_deques.specs.declared.tries.Deck.{Deck}
use Rattle.two_deques.specs.declared.tries.Deck.TheVariants.{CoreDeck, BatchDeck}
use Rattle.two_deques.specs.Ends.{HeldEnds}
use Rattle.two_deques.specs.Tries.{try_of}
use Rattle.table_rule.specs.declared.view.PassView.{PassView}
use Rattle.worker_crew.specs.Workers.{WorkerView}
use Rattle.worker_turns.specs.Meanings.Gains.{GrewBy, on_board, EmptyPopsRose, FailedRose, Took, Gained, GainedNone}

-- the victim of the next steal, at either of its deques
abbrev pub next_worker : WorkerView → ℕ
next_worker m = (try_of m.tries).victim

-- the count of failed steals at this kind of deque of the victim rose by one
abbrev pub TryFailed : Deck → ℕ → WorkerView → WorkerView → Type 0
TryFailed CoreDeck victim old new = FailedRose victim old.core new.core
TryFailed BatchDeck victim old new = FailedRose victim old.batch new.batch

-- the worker claimed no node
pub record ClaimedNone (old new : PassView) : Type 0 where
  pub claims : new.claims ≡ old.claims
  pub claimed : new.claimed ≡ old.claimed

-- Exactly this task was got from the deques of its kind: it was popped, the newest of the own list, or the hand took it
-- from the victim's deque.
abbrev pub GotOne : {T : Type 0} → ℕ → T → HeldEnds T → HeldEnds T → Type 0
GotOne victim x old new = Gained victim (x ∷ []) [] old new ⊎ Gained victim [] (x ∷ []) old new

-- Where the node came from. Either it was the newest of the own list, `rest` is the list without it, and the hand took
-- nothing; or `rest` is the own list, and the hand took the node, and no other, from the next victim.
abbrev pub CameBy : ℕ → List ℕ → WorkerView → WorkerView → Type 0
CameBy node rest old new =
    ((old.core.own ≡ rest ++ node ∷ []) × (new.core.stolen ≡ old.core.stolen))
    ⊎ ((rest ≡ old.core.own) × Took (next_worker old) (node ∷ []) old.core new.core)

-- `Ran`: one node was claimed, and none refused. The own list is the old one, without the node if that was popped, with
-- the nodes opened behind it, in order.
pub record DidRun (old new : WorkerView) : Type 0 where
  pub node : ℕ
  pub claims : new.pass.claims ≡ old.pass.claims + 1
  pub claimed : GrewBy (node ∷ []) old.pass.claimed new.pass.claimed
  pub refused : new.pass.refused_nodes ≡ old.pass.refused_nodes
  pub opened : List ℕ
  pub opens : GrewBy opened old.pass.opened new.pass.opened
  pub rest : List ℕ
  pub own : new.core.own ≡ rest ++ opened
  pub came : CameBy node rest old new

-- `Piece`: one piece was claimed and finished, and none posted. Its spot is all that was got from the deques. No node
-- was claimed, and no node or spot was refused.
pub record DidRunPiece (old new : WorkerView) : Type 0 where
  pub spot : Spot
  pub finishes : new.desk.finishes ≡ old.desk.finishes + 1
  pub posts : new.desk.posts ≡ old.desk.posts
  pub none : ClaimedNone old.pass new.pass
  pub nodes : GainedNone old.core new.core
  pub got : GotOne (next_worker old) spot old.batch new.batch
  pub given : GrewBy (on_board spot ∷ []) old.desk.given new.desk.given
  pub refused_nodes : new.pass.refused_nodes ≡ old.pass.refused_nodes
  pub refused : new.desk.refused ≡ old.desk.refused

-- Both own pops found nothing, and so did the steal if there is more than one worker. Nothing was got from the deques,
-- and nothing was refused.
pub record FoundNothing (old new : WorkerView) : Type 0 where
  pub nodes : GainedNone old.core new.core
  pub spots : GainedNone old.batch new.batch
  pub refused_nodes : new.pass.refused_nodes ≡ old.pass.refused_nodes
  pub refused : new.desk.refused ≡ old.desk.refused
  pub core_pops : EmptyPopsRose old.core new.core
  pub batch_pops : EmptyPopsRose old.batch new.batch
  pub steal : 1 < old.tries.workers → TryFailed (try_of old.tries).deck (next_worker old) old new

-- One node was got, and its claim was refused; no spot was got or refused.
pub record FoundNode (old new : WorkerView) : Type 0 where
  pub node : ℕ
  pub got : GotOne (next_worker old) node old.core new.core
  pub refused_nodes : GrewBy (node ∷ []) old.pass.refused_nodes new.pass.refused_nodes
  pub spots : GainedNone old.batch new.batch
  pub refused : new.desk.refused ≡ old.desk.refused

-- One spot was got, and its claim was refused; no node was got or refused.
pub record FoundSpot (old new : WorkerView) : Type 0 where
  pub spot : Spot
  pub got : GotOne (next_worker old) spot old.batch new.batch
  pub refused : GrewBy (on_board spot ∷ []) old.desk.refused new.desk.refused
  pub nodes : GainedNone old.core new.core
  pub refused_nodes : new.pass.refused_nodes ≡ old.pass.refused_nodes

-- `Nothing`: no node was claimed, and nothing was found, or exactly one node or spot, whose claim was refused.
pub record DidFindNothing (old new : WorkerView) : Type 0 where
  pub none : ClaimedNone old.pass new.pass
  pub found : FoundNothing old new ⊎ (FoundNode old new ⊎ FoundSpot old new)
