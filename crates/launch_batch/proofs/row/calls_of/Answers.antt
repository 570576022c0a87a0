use Rattle.std.proofs.Common.{sym, ◌∙◌}
use Rattle.seq_objects.specs.Batches.{kind_of, same_kind}
use Rattle.launch_batch.proofs.MergeLemmas.Dealing.{all_pass}
use Rattle.launch_batch.proofs.row.calls_of.Goals as goal

pub returns-then-count-calls : goal.returns-then-count-calls
returns-then-count-calls g c =
    all_pass (λ call. same_kind g.T.Kind.kind (kind_of call.op)) c.args.calls.now (sym c.if-count-calls.true ∙ c.count_of-count.ensures)
