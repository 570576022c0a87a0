use Rattle.std.proofs.Common.{◌≡◌, ◌≤◌, ◌++◌, length}
use Rattle.shared_uses.specs.Adding.{AreJobs}
use Rattle.shared_uses.proofs.sums.jobs_of.Given as goal

abbrev pub invariant-loop-caller : goal.invariant-loop-caller
invariant-loop-caller l = record {
  jobs : AreJobs (λ job. job.caller) 0 l.from l.jobs.items l.yielded;
  within : l.from ≤ l.end;
  left : l.left ≡ length l.caller-iterator.rest.items;
  ends : l.left ≡ 0 → l.from ≡ l.end;
  all : l.yielded ++ l.caller-iterator.rest.items ≡ l.initial.caller-iterator.rest.items;
}
