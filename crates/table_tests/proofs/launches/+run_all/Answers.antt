use Rattle.seq_objects.proofs.Meets.{meets_more}
use Rattle.launch_batch.specs.Pieces.{Meets}
use Rattle.table_tests.proofs.launches.+run_all.Goals as goal

pub returns-in_ok-push-in-Some : goal.returns-in_ok-push-in-Some
returns-in_ok-push-in-Some t c =
    rw (c.in_ok-push-in-Some.ensures.items, c.in-Some.ensures.items) (meets_more Meets _ _ _ _ c.in_ok-outs-in-Some.ensures c.in_ok-out-in-Some.ensures)
