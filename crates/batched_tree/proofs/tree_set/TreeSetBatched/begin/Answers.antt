use Rattle.std.proofs.Common.{◌≡◌, ◌∙◌}
use Rattle.batched_tree.specs.Calls.{distinct_keys}
use Rattle.batched_tree.proofs.BeginLemmas.Cuts.{all_of_tree, some_key}
use Rattle.batched_tree.proofs.BeginLemmas.Ranges.{remembered, starts_ascend}
use Rattle.batched_tree.proofs.tree_set.TreeSetBatched.begin.Goals as goal

pub find_starts-requires : goal.find_starts-requires
find_starts-requires c = rw (c.deref.ensures.value, c.in_ok-find_keys.ensures) (some_key c.args.calls.now c.requires.batch.some)

pub find_groups-requires : goal.find_groups-requires
find_groups-requires c =
    let calls = c.args.calls.now in
    let keys : c.deref.result.now ≡ distinct_keys calls = c.deref.ensures.value ∙ c.in_ok-find_keys.ensures in
    rw c.deref-2.ensures.value (starts_ascend calls c.deref.result.now c.find_starts.new.starts.items c.requires.batch.some keys c.in_ok-find_starts.ensures.groups)

pub pieces_of-requires-clause-of_tree : goal.pieces_of-requires-clause-of_tree
pieces_of-requires-clause-of_tree c = all_of_tree c.args.calls.now c.requires.may

pub returns-clause-remembers : goal.returns-clause-remembers
returns-clause-remembers c =
    let calls = c.args.calls.now in
    let keys : c.deref.result.now ≡ distinct_keys calls = c.deref.ensures.value ∙ c.in_ok-find_keys.ensures in
    let are_pieces = rw (c.deref-3.ensures.value, c.self.view_is) at c.in_ok-pieces.ensures.pieces in
    let ascends = rw c.self.view_is at c.keys_ascend.ensures.ascends in
    let groups = rw c.deref-2.ensures.value at c.in_ok-find_groups.ensures in
    remembered c.args.self calls c.deref.result.now c.find_starts.new.starts.items c.in_ok-pieces.pieces.items _
    ascends c.requires.batch c.requires.may keys c.in_ok-find_starts.ensures.groups are_pieces groups

pub returns-clause-cut : goal.returns-clause-cut
returns-clause-cut c = (returns-clause-remembers c).cut
