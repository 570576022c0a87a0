use Rattle.object_rows.proofs.RowLists.{parts_meet}
use Rattle.object_rows.proofs.run.run_rows.Goals as goal

pub returns : goal.returns
returns g c =
    rw (c.into_parts-first.ensures, c.of_parts.ensures) (parts_meet g.T.Batched.meets _ _ _ _ c.in_ok-ones.ensures c.in_ok-others.ensures)
