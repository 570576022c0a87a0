use Rattle.bulk_calls.proofs.set.BulkSet.begin.Goals as goal

pub returns-clause-remembers : goal.returns-clause-remembers
returns-clause-remembers c = record {
  ascends = rw c.self.view_is at c.keys_ascend.ensures.ascends;
  cut = rw (c.deref.ensures.value, c.in_ok-operations.ensures, c.self.view_is) at c.in_ok-groups.ensures.cut;
}
