use Rattle.std.proofs.Common.{arith, ◌≡◌}
use Rattle.std.proofs.lemmas.Grind.{common_steps}
use Rattle.seq_objects.proofs.Meets.{meets_more}
use Rattle.seq_objects.proofs.batched.run_in_turn.Goals as goal

pub loop-input-preserved : goal.loop-input-preserved
loop-input-preserved g c = record {
  met = rw c.in_ok-push.ensures.items (meets_more _ _ _ _ _ c.loop-input.invariant.met c.in_ok-piece.ensures);
  all = grind (arith, common_steps, c.in-Some.ensures.steps, c.loop-input.invariant.all);
}

pub returns : goal.returns
returns g c =
    let yielded : c.loop-input.yielded ≡ c.args.ins.items = grind (arith, common_steps, c.in-None.ensures.steps, c.loop-input.invariant.all, c.into_iter-input-iterator.ensures.into_iter_gives) in
    rw yielded at c.loop-input.invariant.met
