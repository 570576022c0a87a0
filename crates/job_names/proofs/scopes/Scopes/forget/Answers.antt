use Rattle.std.proofs.Common.{◌≡◌, ◌≤◌, ◌+◌, ◌-◌, ◌∙◌, length, arith}
use Rattle.job_names.proofs.ScopeLemmas.{fewer}
use Rattle.job_names.proofs.scopes.Scopes.forget.Goals as goal

pub loop-preserved : goal.loop-preserved
loop-preserved c =
    let all = c.args.self.now.lets.items in
    let low = c.loop.invariant.from in
    let n : c.len-end.result ≡ length all = c.loop.invariant.end in
    let within : c.args.first ≤ length all = c.requires.within in
    let less : c.loop.counter + 1 ≤ length all = omega (arith, n) in
    let low2 : c.args.first ≤ c.loop.counter + 1 = omega (arith, low) in
    record {
      placed = c.forget_last.ensures.placed;
      from = low2;
      to = less;
      end = n;
      lets = c.forget_last.ensures.lets
          ∙ fewer c.loop.self.lets.items all (length all - (c.loop.counter - c.args.first)) (length all - (c.loop.counter + 1 - c.args.first)) c.loop.invariant.lets (omega arith) (omega (arith, low, less));
      blocks = c.forget_last.ensures.blocks ∙ c.loop.invariant.blocks;
    }
