use Rattle.std.proofs.Common.{ℕ, ◌≡◌, ◌+◌, ◌*◌, ◌<◌, ◌≤◌, List, length}
use Rattle.std.specs.Prelude.{sum}
use Rattle.job_uses.proofs.SumJobs.{adding}
use Rattle.job_uses.proofs.sums.sum_job.Given as goal

abbrev pub invariant-loop-rest : goal.invariant-loop-rest
invariant-loop-rest l = record {
  numbers : List ℕ;
  added : l.job ≡ adding numbers;
  comes_to : sum numbers + sum l.rest ≡ sum l.fn.items;
  covered : length l.fn.items ≤ length numbers * l.width + length l.rest;
  last : length numbers * l.width < length l.fn.items + l.width;
  whole : 0 < length l.rest → length numbers * l.width + length l.rest ≡ length l.fn.items;
}

abbrev pub decreases-loop-rest : goal.decreases-loop-rest
decreases-loop-rest l = length l.rest
