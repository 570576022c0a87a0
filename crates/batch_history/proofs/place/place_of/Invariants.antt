use Rattle.std.proofs.Common.{◌≡◌, ◌≤◌, length, take, map}
use Rattle.batch_history.specs.Book.{flat}
use Rattle.seq_objects.specs.Pairs.{AreDistinct}
use Rattle.batch_history.specs.Places.{place_of}
use Rattle.batch_history.proofs.place.place_of.Given as goal

abbrev pub invariant-loop-number : goal.invariant-loop-number
invariant-loop-number l = record {
  within : l.number ≤ length l.batches;
  same : place_of l.batches l.leaf ≡ place_of (take l.number l.batches) l.leaf;
  distinct : AreDistinct (map (λ entry. entry.leaf) (flat (take l.number l.batches)));
}

abbrev pub decreases-loop-number : goal.decreases-loop-number
decreases-loop-number l = l.number
