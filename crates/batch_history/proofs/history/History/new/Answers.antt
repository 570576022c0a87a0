use Rattle.batch_history.proofs.history.History.new.Goals as goal

-- the empty book is a history
pub invariant_of-result : goal.invariant_of-result
invariant_of-result c = rw c.new.ensures.items (record { legal = tt; batches = tt; workers = tt; leaves = tt; numbers = tt })
