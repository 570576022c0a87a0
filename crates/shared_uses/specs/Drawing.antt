-- Tickets that are drawn from a counter by additions of 1.
use Rattle.std.specs.Prelude.{ℕ, ◌≡◌, List, [], ◌∷◌, map, replicate, Result, Ok, Err, ⊤}
use Rattle.std.specs.declared.vec.Vec.{Vec}
use Rattle.std.specs.declared.alloc.Global.{Global}
use Rattle.shared_calls.specs.declared.shared.Caller.{Caller}
use Rattle.shared_calls.specs.declared.combined.Combined.{Ghosts}
use Rattle.shared_calls.specs.Views.{made}
use Rattle.shared_uses.specs.declared.tickets.Hand.{Hand}

-- the caller made so many additions of 1 and nothing else, and these are their sums
pub record HasDrawn {T : Type 0} {g : Ghosts T ℕ ℕ} (count : ℕ) (caller : Caller T ℕ ℕ g) (tickets : List ℕ) : Type 0 where
  pub ones : map (λ e. e.op) (made caller) ≡ replicate count 1
  pub sums : map (λ e. e.reply) (made caller) ≡ tickets

-- each hand is there, and these are their callers and their tickets
abbrev pub AreApart : {C E : Type 0} → (Hand → C) → List (Result Hand E) → List C → List (Vec ℕ Global) → Type 0
AreApart f [] [] [] = ⊤
AreApart f [] [] (d ∷ drawn) = ⊥
AreApart f [] (c ∷ callers) drawn = ⊥
AreApart f (Err e ∷ hands) callers drawn = ⊥
AreApart f (Ok hand ∷ hands) [] drawn = ⊥
AreApart f (Ok hand ∷ hands) (c ∷ callers) [] = ⊥
AreApart f (Ok hand ∷ hands) (c ∷ callers) (d ∷ drawn) = (f hand ≡ c) × (hand.tickets ≡ d) × AreApart f hands callers drawn
