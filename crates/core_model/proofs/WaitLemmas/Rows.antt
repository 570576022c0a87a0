-- What each event of the gate makes of how a trapped worker waits, by its status.
use Rattle.std.proofs.Common.{ℕ, ◌≡◌, ◌≢◌, ◌<◌, ◌+◌, Bool, true, false, Option, Some, None, arith}
use Rattle.core_model.proofs.Words.{Status, Free, Pending, Executing, Served, Receipt, Hold}
use Rattle.core_model.specs.Operations.{Place}
use Rattle.core_model.specs.Events.{new_hold, looked, published, answered}
use Rattle.core_model.specs.Invariant.Hold.{is_published}
use Rattle.core_model.specs.Waits.{StandsBy, StatusWaits}

-- now
pub now_row : (st : Status) (count : ℕ) (o : Option Hold) (p : Option Place) (w : ℕ) → st ≢ Free
    → (st ≡ Executing → is_published o ≡ true → StandsBy p (count + 1)) → ((r : Receipt) → st ≡ Served r → StandsBy p (count + 1))
    → StatusWaits st count o p w count
now_row st count o p w trapped executing served = grind arith

-- the flag is won
pub win_row : (st : Status) (count : ℕ) (p : Option Place) (w v since : ℕ) → st ≢ Executing
    → StatusWaits st count None p v since → StatusWaits st count (Some (new_hold w)) p v since
win_row st count p w v since none h = grind arith

-- the worker is pending, and is taken
pub take_row : (count : ℕ) (h : Hold) (p : Option Place) (u v since : ℕ) → h.published ≡ false
    → StatusWaits Pending count (Some h) p v since → StatusWaits Executing count (looked (Some h) true u) p v since
take_row count h p u v since un waits = grind arith

-- the worker is not pending, or another one is looked at
pub look_row : (st : Status) (count : ℕ) (h : Hold) (p : Option Place) (takes : Bool) (u v since : ℕ) → u ≡ h.looks → (st ≡ Pending → v ≢ u)
    → StatusWaits st count (Some h) p v since → StatusWaits st count (looked (Some h) takes u) p v since
look_row st count h p takes u v since at other waits = grind arith

-- a batch is published
pub publish_row : (st : Status) (count : ℕ) (h : Hold) (p q : Option Place) (v since workers : ℕ) → h.published ≡ false → h.looks ≡ workers → v < workers
    → (st ≡ Executing → StandsBy q count) → (StandsBy p (since + 1) → StandsBy q (since + 1))
    → StatusWaits st count (Some h) p v since → StatusWaits st (count + 1) (published (Some h)) q v since
publish_row st count h p q v since workers un looks below executing same waits = grind arith

-- the worker is answered
pub answer_row : (count : ℕ) (h : Hold) (p : Option Place) (r : Receipt) (v since : ℕ) → h.published ≡ true
    → StatusWaits Executing count (Some h) p v since → StatusWaits (Served r) count (Some h) p v since
answer_row count h p r v since there waits = waits.1 there

-- another one is answered
pub other_row : (st : Status) (count : ℕ) (h : Hold) (p : Option Place) (u v since : ℕ)
    → StatusWaits st count (Some h) p v since → StatusWaits st count (answered (Some h) u) p v since
other_row Free count h p u v since waits = waits
other_row _ count h p u v since waits = waits

-- the flag is released
pub release_row : (st : Status) (count : ℕ) (o : Option Hold) (p : Option Place) (v since : ℕ) → st ≢ Executing
    → StatusWaits st count o p v since → StatusWaits st count None p v since
release_row st count o p v since none waits = grind arith
