use Rattle.std.proofs.Common.{◌++◌, ◌∙◌, ap}
use Rattle.batched_queue.specs.Fifo.{fifo_replies, numbers_got}
use Rattle.batched_queue.specs.Batches.{after_batches, operations_of}
use Rattle.batched_queue.proofs.Serial.{after_is, replies_are, got_and_left}
use Rattle.batched_queue.proofs.laws.numbers_leave_in_the_order_in_which_they_came.Goals as goal

pub returns : goal.returns
returns c = λ queue batches.
    ap (λ replies. numbers_got replies ++ after_batches queue batches) (replies_are queue batches)
    ∙ ap (λ left. numbers_got (fifo_replies queue (operations_of batches)) ++ left) (after_is queue batches)
    ∙ got_and_left queue (operations_of batches)
