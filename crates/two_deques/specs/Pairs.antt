-- One worker's two deques before they are joined with those of the other workers, and which deques are joined from
-- which pairs.
use Rattle.std.specs.Prelude.{ℕ, ◌≡◌, ◌≤◌, List, map}
use Rattle.crossbeam_deque.specs.Handles.{worker_deque, stealer_deque, worker_capacity}
use Rattle.two_deques.specs.declared.ends.Ends.{Ends}
use Rattle.two_deques.specs.declared.pair.Rooms.{Rooms}
use Rattle.two_deques.specs.declared.pair.Stealers.{Stealers}
use Rattle.two_deques.specs.declared.pair.DeckPair.{DeckPair}
use Rattle.two_deques.specs.declared.decks.Decks.{Decks}
use Rattle.two_deques.specs.Reaches.{Thief}
use Rattle.two_deques.specs.Ends.{held_ends, fresh_ends}

-- A new deque: what thieves steal from is the owner's deque, the capacity is at least `room`, and the owner has done
-- nothing and reaches into no deque yet.
abbrev pub IsNewDeque : {T : Type 0} → ℕ → Ends T → Thief T → Type 0
IsNewDeque {T} room e thief =
    (stealer_deque thief ≡ worker_deque e.own) × (room ≤ worker_capacity e.own) × (held_ends e ≡ fresh_ends T 0)

-- both deques of the pair are new, with these rooms
abbrev pub IsNewPair : Rooms → DeckPair → Type 0
IsNewPair rooms pair =
    IsNewDeque rooms.core pair.core pair.stealers.core × IsNewDeque rooms.batch pair.batch pair.stealers.batch

-- the deques of worker w are those of pair w
abbrev pub AreDecksOf : List DeckPair → Decks → Type 0
AreDecksOf pairs d = (d.core.items ≡ map (λ pair. pair.stealers.core) pairs)
    × (d.batch.items ≡ map (λ pair. pair.stealers.batch) pairs)

-- what thieves steal from of these deques, in the order of the workers
abbrev pub AreStealersOf : Decks → List Stealers → Type 0
AreStealersOf d all = (map (λ s. s.core) all ≡ d.core.items) × (map (λ s. s.batch) all ≡ d.batch.items)
