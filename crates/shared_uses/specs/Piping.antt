-- Items that threads pass on through one FIFO queue.
use Rattle.std.specs.Prelude.{ℕ, ◌≡◌, ◌<◌, ◌≤◌, ◌==◌, List, [], ◌∷◌, length, if◌then◌else◌, flat_map, vec_len, vec_capacity, false, Some, slice_get}
use Rattle.std.specs.List.{AllByRecursion}
use Rattle.shared_calls.specs.declared.view.Entry.{Entry}
use Rattle.shared_calls.specs.Views.{IsCallerOf, number_of, made, is_lost}
use Rattle.shared_collections.specs.declared.shared_fifo.SharedFifo.{SharedFifo}
use Rattle.shared_collections.specs.declared.fifo.FifoOp.{FifoOp}
use Rattle.shared_collections.specs.declared.fifo.FifoOp.TheVariants.{Put}
use Rattle.shared_collections.specs.declared.fifo.FifoReply.{FifoReply}
use Rattle.shared_collections.specs.declared.fifo.FifoReply.TheVariants.{Got}
use Rattle.shared_uses.specs.declared.passing.Part.{Part}
use Rattle.shared_uses.specs.declared.passing.Work.{Work}

-- an item that was passed on, with the numbers of the threads that put it and took it
pub record Passed : Type 0 where
  pub putter : ℕ
  pub taker : ℕ
  pub item : ℕ

-- the items that a thread put, in the order of the line, and those that it took
abbrev pub put_by : ℕ → List Passed → List ℕ
put_by n [] = []
put_by n (p ∷ line) = if p.putter == n then p.item ∷ put_by n line else put_by n line

abbrev pub taken_by : ℕ → List Passed → List ℕ
taken_by n [] = []
taken_by n (p ∷ line) = if p.taker == n then p.item ∷ taken_by n line else taken_by n line

-- There is one line of all items. In it stand the items of each thread that it put, in the order in which it put them,
-- and those that it took, in the order in which it took them.
pub record ArePassedOn (puts taken : List (List ℕ)) : Type 0 where
  pub line : List Passed
  pub known : AllByRecursion (λ (p : Passed). (p.putter < length puts) × (p.taker < length taken)) line
  pub puts_stand : (n : ℕ) (items : List ℕ) → slice_get puts n ≡ Some items → put_by n line ≡ items
  pub taken_stand : (n : ℕ) (items : List ℕ) → slice_get taken n ≡ Some items → taken_by n line ≡ items

-- What only the code and its proofs cite, from here on.

-- the items that calls put, and those that they took
abbrev pub item_put : FifoOp → List ℕ
item_put (Put item) = item ∷ []
item_put _ = []

abbrev pub item_taken : FifoReply → List ℕ
item_taken (Got (Some item)) = item ∷ []
item_taken _ = []

abbrev pub puts_of : List (Entry FifoOp FifoReply) → List ℕ
puts_of es = flat_map (λ e. item_put e.op) es

abbrev pub takes_of : List (Entry FifoOp FifoReply) → List ℕ
takes_of es = flat_map (λ e. item_taken e.reply) es

-- the part has taken no more than it shall, and has room for the rest
abbrev pub HasRoom : Part → Type 0
HasRoom part = (vec_len part.taken ≤ part.work.takes) × (part.work.takes ≤ vec_capacity part.taken)

-- the part has taken nothing, and has room for what it shall take
abbrev pub HasAllRoom : Part → Type 0
HasAllRoom part = (part.taken.items ≡ []) × HasRoom part

-- the part of thread n, which has yet to begin, and has room for what it shall take
pub record IsReady (queue : SharedFifo) (n : ℕ) (part : Part) : Type 0 where
  pub caller : IsCallerOf queue.shared part.caller × (number_of part.caller ≡ n)
  pub new : (is_lost part.caller ≡ false) × (made part.caller ≡ [])
  pub room : HasAllRoom part

-- the part of thread n after the first round: it has put the items of its work, and taken some, unless the queue is lost
pub record HasPassed (queue : SharedFifo) (n : ℕ) (work : Work) (part : Part) : Type 0 where
  pub caller : IsCallerOf queue.shared part.caller × (number_of part.caller ≡ n)
  pub same : part.work ≡ work
  pub room : HasRoom part
  pub passed : is_lost part.caller ≡ false → (puts_of (made part.caller) ≡ work.puts.items) × (takes_of (made part.caller) ≡ part.taken.items)

-- the part of thread n, which had this work: it has done all of it, unless the queue is lost
pub record IsDone (queue : SharedFifo) (n : ℕ) (work : Work) (part : Part) : Type 0 where
  pub caller : IsCallerOf queue.shared part.caller × (number_of part.caller ≡ n)
  pub done : is_lost part.caller ≡ false → (puts_of (made part.caller) ≡ work.puts.items) × (takes_of (made part.caller) ≡ part.taken.items) × (length part.taken.items ≡ work.takes)
