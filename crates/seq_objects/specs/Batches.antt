-- The calls of one batch, and the object that each operation belongs to: one of a kind, with a number.
use Rattle.std.specs.Prelude.{◌≡◌, ◌<◌, ◌==◌, ℕ, List, length, map, filter}
use Rattle.std.specs.List.{AllByRecursion}
use Rattle.limits.specs.declared.TheConstants.{MOST_WORKERS}
use Rattle.seq_objects.specs.declared.call.Call.{Call}
use Rattle.seq_objects.specs.Objects.{number_of}
use Rattle.seq_objects.specs.BatchOrder.{ComesFirst}
use Rattle.seq_objects.specs.Pairs.{AllPairsByRecursion, AreDistinct}
-- the kinds, and the kind of the object that an operation belongs to
pub use Rattle.seq_objects.specs.Verbs.{Kind, same_kind}
pub use Rattle.seq_objects.specs.Parts.{kind_of}

-- each call precedes each later one in the batch order
abbrev pub AreInBatchOrder : List Call → Type 0
AreInBatchOrder calls = AllPairsByRecursion (λ first second. ComesFirst first.op first.worker second.op second.worker) calls

-- the calls form a batch: there is at least one, they are in batch order, and their workers are distinct and below
-- `MOST_WORKERS`
pub record AreOneBatch (calls : List Call) : Type 0 where
  pub some : 0 < length calls
  pub order : AreInBatchOrder calls
  pub workers : AreDistinct (map (λ call. call.worker) calls)
  pub below : AllByRecursion (λ call. call.worker < MOST_WORKERS) calls

-- all calls are of one kind
abbrev pub AreOf : Kind → List Call → Type 0
AreOf kind calls = AllByRecursion (λ call. kind_of call.op ≡ kind) calls

-- all calls are of objects with one number
abbrev pub AreOfOneNumber : List Call → Type 0
AreOfOneNumber calls = (number : ℕ) × AllByRecursion (λ call. number_of call.op ≡ number) calls

-- the calls of one kind, in their order
abbrev pub calls_of : Kind → List Call → List Call
calls_of kind calls = filter (λ call. same_kind kind (kind_of call.op)) calls

-- the calls of objects with one number, in their order
abbrev pub calls_at : ℕ → List Call → List Call
calls_at number calls = filter (λ call. number_of call.op == number) calls
