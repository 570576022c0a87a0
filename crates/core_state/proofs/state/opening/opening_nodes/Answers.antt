use Rattle.std.proofs.Common.{◌<◌, length, replicate, ap, ◌∙◌}
use Rattle.std.proofs.lemmas.List.{length-replicate}
use Rattle.core_model.specs.State.{put, opening_state}
use Rattle.core_model.specs.declared.progress.Progress.TheVariants.{Waiting, Ready}
use Rattle.ready_lists.proofs.PlaceLemmas.Written.{at_written}
use Rattle.ready_lists.proofs.PlaceLemmas.Copies.{at_copies}
use Rattle.core_state.proofs.state.opening.opening_nodes.Goals as goal

pub returns-clause-items : goal.returns-clause-items
unfolding opening_state
returns-clause-items c =
    let some : 0 < length (replicate c.args.nodes Waiting) = rw (length-replicate c.args.nodes Waiting) c.requires in
    rw c.in_ok-progress.ensures (at_written (replicate c.args.nodes Waiting) 0 Ready Waiting some ∙ ap (λ f. put f 0 Ready) (at_copies c.args.nodes Waiting))
