use Rattle.std.proofs.Common.{arith, ◌≡◌}
use Rattle.std.proofs.lemmas.Grind.{common_steps}
use Rattle.piece_threads.proofs.BundleLemmas.{outs_more}
use Rattle.piece_threads.proofs.bundles.join_outs.Goals as goal

pub loop-result-preserved : goal.loop-result-preserved
loop-result-preserved g c = record {
  met = let r : c.in-Some.result ≡ _ = c.in_ok-result.was in rw (r, c.in_ok-append.ensures.items) (outs_more c.loop-result.yielded c.loop-result.outs.items c.in_ok-result.field-0 c.loop-result.invariant.met);
  all = grind (arith, common_steps, c.in-Some.ensures.steps, c.loop-result.invariant.all);
}
