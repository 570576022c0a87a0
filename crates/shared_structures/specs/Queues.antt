-- The serial object of a priority queue.
use Rattle.std.specs.Prelude.{ℕ, List, []}
use Rattle.shared_calls.specs.Serial.{SerialObject}
use Rattle.seq_objects.specs.Objects.{with_item, least, without_least}
use Rattle.shared_structures.specs.declared.queue.QueueOp.{QueueOp}
use Rattle.shared_structures.specs.declared.queue.QueueOp.TheVariants.{Insert, Take}
use Rattle.shared_structures.specs.declared.queue.QueueReply.{QueueReply}
use Rattle.shared_structures.specs.declared.queue.QueueReply.TheVariants.{Inserted, Taken}

-- the items after an operation, ascending; an item may occur several times
abbrev pub queue_after : List ℕ → QueueOp → List ℕ
queue_after items (Insert item) = with_item item items
queue_after items Take = without_least items

-- the reply to it
abbrev pub queue_reply : List ℕ → QueueOp → QueueReply
queue_reply items (Insert item) = Inserted
queue_reply items Take = Taken (least items)

-- a queue, which is empty at first
abbrev pub queue : SerialObject QueueOp QueueReply
queue = record { State = List ℕ; opening = []; after = queue_after; reply = queue_reply }
