-- The invariant of the book.
use Rattle.seq_objects.specs.Stores.{opening_store}
use Rattle.batch_history.specs.Book.{IsBatch, IsLegal, flat}
use Rattle.core_model.specs.Invariant.Ticks.{HasEnd, HasStart}
use Rattle.core_model.specs.Operations.{IsCall, Place, op_of, origin_of, place_of}
use Rattle.core_model.specs.Serving.{served}
use Rattle.core_model.specs.State.{CoreJob, State}
use Rattle.seq_objects.specs.Pairs.{AreDistinct}
use Rattle.sp_order.specs.declared.node.Kind.TheVariants.{LeafNode}
use Rattle.std.specs.List.{AllByRecursion}
use Rattle.std.specs.Prelude.{Some, map, ℕ, ◌<◌, ◌≡◌}

-- The entries of the book, and their order.
pub record BookInvariant (job : CoreJob) (s : State) : Type 0 where
  -- the book is legal, and the objects are those after serving it
  pub legal : IsLegal s.book
  pub objects_after : s.objects ≡ served opening_store (flat s.book)
  -- each batch is not empty, in batch order and of distinct workers; all workers are workers of the job
  pub batches : AllByRecursion IsBatch s.book
  pub among : AllByRecursion (λ entry. entry.worker < job.workers) (flat s.book)
  -- the leaves are distinct, and each is a calling leaf with its operation under this book
  pub leaves : AreDistinct (map (λ entry. entry.leaf) (flat s.book))
  pub operations : AllByRecursion (λ entry. op_of job s.book entry.leaf ≡ Some entry.op) (flat s.book)
  -- the entry from which the value of a leaf's source comes stands in an earlier batch
  pub sources : (leaf source origin : ℕ) (later : Place) → job.source leaf ≡ Some source → origin_of job source ≡ Some origin
      → place_of s.book leaf ≡ Some later → (earlier : Place) × (place_of s.book origin ≡ Some earlier) × (earlier.batch < later.batch)
  -- real-time order: if calling leaf `u` ended before leaf `v` started and `v` has an entry, `u` has one in an earlier
  -- batch
  pub in_order : (n m u v w x a b d : ℕ) → job.plan.kind n ≡ Some (LeafNode u) → job.plan.kind m ≡ Some (LeafNode v) → IsCall job u
      → HasEnd s.node s.task n w a d → HasStart s.node s.task m x b → d < b
      → (later : Place) → place_of s.book v ≡ Some later
      → (earlier : Place) × (place_of s.book u ≡ Some earlier) × (earlier.batch < later.batch)
