-- The own deque of pieces at each stage of a launch: its spots are pushed, then popped, and then the worker steals.
use Rattle.std.specs.Prelude.{◌≡◌, ◌+◌, ◌++◌, List, length}
use Rattle.two_deques.specs.declared.spot.Spot.{Spot}
use Rattle.two_deques.specs.Ends.{HeldEnds, risen}

-- the ends after these spots were pushed on the own deque
abbrev pub after_pushes : List Spot → HeldEnds Spot → HeldEnds Spot
after_pushes spots e = record e { own = e.own ++ spots; pushes = e.pushes + length spots }

-- the own deque was popped some times, and each pop gave a spot
pub record Pops (old new : HeldEnds Spot) : Type 0 where
  pub popped : List Spot
  pub own : old.own ≡ new.own ++ popped
  pub is : new ≡ record old { own = new.own }

-- then once more, and this pop gave nothing
pub record PopsUntilEmpty (old new : HeldEnds Spot) : Type 0 where
  pub popped : List Spot
  pub own : old.own ≡ new.own ++ popped
  pub is : new ≡ record old { own = new.own; empty_pops = risen old.empty_pops }

-- only what was stolen from other deques may have changed
pub record OnlyStole (old new : HeldEnds Spot) : Type 0 where
  pub own : new.own ≡ old.own
  pub pushes : new.pushes ≡ old.pushes
  pub pops : new.empty_pops ≡ old.empty_pops
