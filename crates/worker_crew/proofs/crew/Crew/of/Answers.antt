use Rattle.worker_crew.proofs.OpeningLemmas.Seating.{seat_at}
use Rattle.worker_crew.proofs.crew.Crew.of.Goals as goal

pub make_workers-requires-clause-passes : goal.make_workers-requires-clause-passes
make_workers-requires-clause-passes g c =
    seat_at c.args.table c.args.passes.items c.args.workers c.requires.passes.0 c.requires.passes.1
