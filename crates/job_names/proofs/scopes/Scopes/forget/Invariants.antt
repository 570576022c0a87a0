use Rattle.std.proofs.Common.{◌≡◌, ◌≤◌, ◌-◌, take, length}
use Rattle.job_names.specs.Code.Kept.{ArePlaced}
use Rattle.job_names.proofs.scopes.Scopes.forget.Given as goal

abbrev pub invariant-loop : goal.invariant-loop
invariant-loop l =
    record {
      placed : ArePlaced l.self;
      from : l.fn.first ≤ l.counter;
      to : l.counter ≤ length l.fn.self.lets.items;
      end : l.end ≡ length l.fn.self.lets.items;
      lets : l.self.lets.items ≡ take (length l.fn.self.lets.items - (l.counter - l.fn.first)) l.fn.self.lets.items;
      blocks : l.self.blocks ≡ l.fn.self.blocks;
    }
