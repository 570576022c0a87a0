use Rattle.std.proofs.Common.{arith}
use Rattle.std.proofs.lemmas.Grind.{common_steps}
use Rattle.seq_objects.proofs.Meets.{meets_more}
use Rattle.piece_threads.proofs.pieces.run_in_turn.Goals as goal

pub loop-input-preserved : goal.loop-input-preserved
loop-input-preserved g c = record {
  met = rw c.in_ok-push.ensures.items (meets_more _ _ _ _ _ c.loop-input.invariant.met c.in_ok-piece.ensures);
  all = grind (arith, common_steps, c.in-Some.ensures.steps, c.loop-input.invariant.all);
}
