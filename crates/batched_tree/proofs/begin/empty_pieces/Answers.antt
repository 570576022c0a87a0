use Rattle.std.proofs.Common.{◌∙◌, arith}
use Rattle.std.proofs.lemmas.Grind.{common_steps}
use Rattle.batched_tree.proofs.BeginLemmas.Cuts.{pieces_more}
use Rattle.batched_tree.proofs.begin.empty_pieces.Goals as goal

pub loop-start-preserved : goal.loop-start-preserved
loop-start-preserved c =
    let at = c.loop-start in
    rw c.in_ok-push.ensures.items (record {
      pieces = pieces_more c.args.starts.now at.start-index at.rest c.args.set.keys at.pieces.items _ _ _ c.loop-start-test.true at.invariant.pieces c.in_ok-forest.ensures.split c.piece_of.ensures.keys_are c.piece_of.ensures.calls_are (c.piece_of.ensures.beyond_is ∙ c.least.ensures);
      count = grind (arith, common_steps, at.invariant.count);
    })
