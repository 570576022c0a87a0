use Rattle.std.proofs.Common.{rules, ◌≡◌, refl, length}
use Rattle.std.specs.Vec.Iter.{into_iter_items, into_iter_len}
use Rattle.std.proofs.lemmas.Iterator.{items_from_collect}
use Rattle.std.proofs.lemmas.Iterator.Adapters.{YieldsList-from_skip, YieldsList-from_vec}
use Rattle.program_io.proofs.words.behind_first.Goals as goal

pub returns : goal.returns
returns c =
    let counted : into_iter_len c.args.words ≡ length (into_iter_items c.args.words) = search rules in
    items_from_collect c.collect.result c.collect.ensures.ran (YieldsList-from_skip 1 (YieldsList-from_vec (into_iter_items c.args.words) (rw c.skip.ensures.source refl) (rw c.skip.ensures.source counted)) c.skip.ensures.count)
