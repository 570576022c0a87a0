-- The round-robin choice of steal victims.
use Rattle.std.specs.Prelude.{ℕ, ◌+◌, ◌-◌, ◌*◌, ◌/◌, ◌%◌, ◌==◌, if◌then◌else◌}
use Rattle.two_deques.specs.declared.tries.Deck.{Deck}
use Rattle.two_deques.specs.declared.tries.Deck.TheVariants.{CoreDeck, BatchDeck}
use Rattle.two_deques.specs.declared.tries.Try.{Try}

-- What contracts see of `Tries`: its worker, the number of workers, and the number of the next try.
-- A cycle has two tries for each other worker.
pub record TriesView : Type 0 where
  pub worker : ℕ
  pub workers : ℕ
  pub next : ℕ

abbrev pub first_tries : ℕ → ℕ → TriesView
first_tries worker workers = record { worker = worker; workers = workers; next = 0 }

-- even tries go to deques of nodes, odd ones to deques of pieces
abbrev pub deck_of : ℕ → Deck
deck_of number = if number % 2 == 0 then CoreDeck else BatchDeck

-- the next try
abbrev pub try_of : TriesView → Try
try_of t = record { deck = deck_of t.next; victim = (t.worker + 1 + t.next / 2) % t.workers }

abbrev pub after_try : TriesView → TriesView
after_try t = record t { next = (t.next + 1) % (2 * (t.workers - 1)) }
