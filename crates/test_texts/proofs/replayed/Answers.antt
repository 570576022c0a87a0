use Rattle.batch_history.proofs.Few.{few_entries}
use Rattle.test_texts.proofs.replayed.Goals as goal

-- a history has few entries
pub are_legal-requires : goal.are_legal-requires
are_legal-requires c = rw c.batches-batches.ensures.batches (few_entries _ c.batches-batches.ensures.history)
