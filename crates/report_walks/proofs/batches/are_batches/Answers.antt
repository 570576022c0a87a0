use Rattle.std.proofs.Common.{List, sym, subst}
use Rattle.std.specs.List.{AllByRecursion}
use Rattle.batch_history.specs.declared.batch.Entry.{Entry}
use Rattle.report_walks.specs.Code.Neighbours.{AreInOrder}
use Rattle.report_walks.proofs.BatchWalk.{batches_of_order, order_of_batches}
use Rattle.report_walks.proofs.batches.are_batches.Goals as goal

pub returns : goal.returns
returns c job report same is_job rows order calls ticks = (
  λ is. batches_of_order job report is_job rows order calls ticks (subst (λ (book : List (List Entry)). AllByRecursion AreInOrder book) (sym same) (c.are_in_order.ensures.0 is)),
  λ all. c.are_in_order.ensures.1 (subst (λ (book : List (List Entry)). AllByRecursion AreInOrder book) same (order_of_batches report.history all)),
)
