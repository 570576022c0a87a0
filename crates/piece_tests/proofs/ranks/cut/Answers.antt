use Rattle.rank_nodes.proofs.EntryLemmas.Sides.{parts_apart}
use Rattle.piece_tests.proofs.ranks.cut.Goals as goal

pub returns : goal.returns
returns c = parts_apart c.args.key c.args.map _ _ c.in_ok-sides.ensures.low c.in_ok-sides.ensures.high
