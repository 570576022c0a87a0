use Rattle.std.proofs.Common.{◌≡◌, ◌++◌}
use Rattle.keyed_pieces.specs.Dealing.{queued}
use Rattle.forest_cuts.specs.Parts.{keys_of_each}
use Rattle.bulk_calls.specs.Pieces.{ranges_after, answers_of}
use Rattle.bulk_calls.proofs.end.parts_of.Given as goal

abbrev pub invariant-loop-out : goal.invariant-loop-out
invariant-loop-out l = record {
  ranges : keys_of_each l.forests.items ++ ranges_after l.out-iterator.rest.items ≡ ranges_after l.fn.outs.items;
  answers : queued l.answers.items ++ answers_of l.out-iterator.rest.items ≡ answers_of l.fn.outs.items;
}
