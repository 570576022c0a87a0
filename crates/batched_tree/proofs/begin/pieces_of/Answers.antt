use Rattle.std.proofs.Common.{◌∙◌, refl, arith}
use Rattle.std.proofs.lemmas.Grind.{common_steps}
use Rattle.std.proofs.lemmas.List.{length-set}
use Rattle.batched_tree.proofs.BeginLemmas.Dealing.{group_less, dealt_more}
use Rattle.batched_tree.proofs.begin.pieces_of.Goals as goal

pub index_mut-requires : goal.index_mut-requires
index_mut-requires c =
    let less = group_less c.args.starts.now c.args.calls.now c.args.groups.now c.loop-place.place c.requires.groups c.loop-place-test.true in
    omega (arith, less, c.loop-place.invariant.count, c.loop-place.pieces.ok)

pub loop-place-preserved : goal.loop-place-preserved
loop-place-preserved c =
    let at = c.loop-place in
    record {
      pieces = dealt_more c.args.starts.now c.args.set.keys c.args.calls.now c.args.groups.now at.place _ at.pieces.items c.index_mut.result.now _ c.loop-place-test.true c.requires.groups at.invariant.pieces c.index_mut.ensures.value (record { forest = refl; calls = c.in_ok-push.ensures.items; beyond = refl });
      count = length-set at.pieces.items _ _ ∙ at.invariant.count;
      of_tree = grind (arith, common_steps, at.invariant.of_tree);
    }
