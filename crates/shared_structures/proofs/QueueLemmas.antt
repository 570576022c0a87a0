-- A shared queue as the bag of the shared objects.
use Rattle.std.proofs.Common.{◌≡◌, ℕ, List, [], ◌∷◌, map, Some, None, refl, sym, subst}
use Rattle.std.specs.declared.option.Option.{Option}
use Rattle.std.specs.List.{AllByRecursion}
use Rattle.seq_objects.specs.declared.op.Op.{Op}
use Rattle.seq_objects.specs.declared.reply.Reply.{Reply}
use Rattle.seq_objects.specs.Objects.{Objects, after, reply_to, least, number_or_empty}
use Rattle.seq_objects.specs.declared.kind.Kind.TheVariants.{Queue}
use Rattle.seq_objects.specs.Batches.{kind_of}
use Rattle.seq_objects.specs.Serial.{of_bag}
use Rattle.shared_calls.specs.Serial.{IsServedInSomeOrder}
use Rattle.shared_structures.specs.declared.queue.QueueOp.{QueueOp}
use Rattle.shared_structures.specs.declared.queue.QueueOp.TheVariants.{Insert, Take}
use Rattle.shared_structures.specs.declared.queue.QueueReply.{QueueReply}
use Rattle.shared_structures.specs.declared.queue.QueueReply.TheVariants.{Taken}
use Rattle.shared_structures.specs.Queues.{queue, queue_after, queue_reply}
use Rattle.shared_structures.specs.Code.Batches.{objects}
use Rattle.shared_structures.specs.Code.Queues.{op_of, answer_of}
use Rattle.shared_structures.proofs.Carrying.{carried}

pub are_of_queue : (ops : List QueueOp) → AllByRecursion (λ (op : Op). kind_of op ≡ Queue) (map op_of ops)
are_of_queue [] = tt
are_of_queue (Insert item ∷ ops) = (refl, are_of_queue ops)
are_of_queue (Take ∷ ops) = (refl, are_of_queue ops)

steps : (items : List ℕ) (op : QueueOp) → after (of_bag items) (op_of op) ≡ of_bag (queue_after items op)
steps items (Insert item) = refl
steps items Take = refl

taken : (item : Option ℕ) → answer_of (number_or_empty item) ≡ Taken item
taken None = refl
taken (Some item) = refl

replies : (items : List ℕ) (op : QueueOp) → answer_of (reply_to (of_bag items) (op_of op)) ≡ queue_reply items op
replies items (Insert item) = refl
replies items Take = taken (least items)

pub queue_served : (before : List ℕ) (ops : List QueueOp) (rs : List Reply) (given : List QueueReply) (now : List ℕ) → given ≡ map answer_of rs
    → IsServedInSomeOrder objects (of_bag before) (map op_of ops) rs (of_bag now) → IsServedInSomeOrder queue before ops given now
queue_served before ops rs given now are is =
    subst (λ l. IsServedInSomeOrder queue before ops l now) (sym are)
    (carried queue objects op_of answer_of of_bag (λ (o : Objects). o.bag) (λ s. refl) steps replies before ops rs (of_bag now) is)
