use Rattle.std.proofs.Common.{◌≡◌, ◌≤◌, take, drop, reverse, length}
use Rattle.job_names.specs.Scopes.{last_of, lets_shown}
use Rattle.job_names.specs.Code.Kept.{AreStarts, scope_of, view}
use Rattle.job_names.proofs.scopes.Scopes.look.Given as goal

abbrev pub invariant-loop-i : goal.invariant-loop-i
invariant-loop-i l =
    record {
      within : l.end ≤ length l.self.lets.items;
      starts : AreStarts (drop l.i (reverse l.self.blocks.items)) l.end;
      same : last_of l.name (lets_shown (scope_of (drop l.i (reverse l.self.blocks.items)) (take l.end l.self.lets.items))) ≡ last_of l.name (lets_shown (view l.self));
    }
