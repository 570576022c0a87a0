use Rattle.std.proofs.Common.{◌≡◌, ◌+◌, length, ap, sym, ◌∙◌, arith}
use Rattle.std.proofs.lemmas.List.{length-map}
use Rattle.keyed_pieces.specs.Dealing.{lists}
use Rattle.keyed_pieces.proofs.Sides.{range_count}
use Rattle.forest_cuts.specs.Parts.{keys_of_each}
use Rattle.bulk_calls.proofs.RangeLemmas.{set_ranges, operation_ranges}
use Rattle.bulk_calls.proofs.BatchLemmas.{as_many}
use Rattle.bulk_calls.proofs.begin.cut_batch.Goals as goal

pub pieces_of-requires : goal.pieces_of-requires
pieces_of-requires c =
    let starts = c.in_ok-starts.starts.items in
    let operations = c.args.operations.now in
    let dealt = c.in_ok-groups.dealt.items in
    let forests = c.in_ok-forests.forests.items in
    let all : lists dealt ≡ operation_ranges starts operations = rw c.deref.ensures.value at c.in_ok-groups.ensures.dealt in
    let sets : keys_of_each forests ≡ set_ranges starts c.args.forest.keys = rw c.deref-2.ensures.value at c.in_ok-forests.ensures in
    sym (length-map dealt (λ v. v.items)) ∙ as_many starts c.args.forest.keys operations (lists dealt) (keys_of_each forests) all sets ∙ length-map forests (λ f. f.keys)

pub returns-clause-few : goal.returns-clause-few
returns-clause-few c =
    let starts = c.in_ok-starts.starts.items in
    let pieces = c.in_ok-pieces.pieces.items in
    let few = c.in_ok-starts.ensures.few in
    let sets : keys_of_each c.in_ok-forests.forests.items ≡ set_ranges starts c.args.forest.keys = rw c.deref-2.ensures.value at c.in_ok-forests.ensures in
    let count : length pieces ≡ length starts + 1 = sym (length-map pieces (λ piece. piece.forest.keys)) ∙ ap length (c.in_ok-pieces.ensures.ranges ∙ sets) ∙ range_count (λ key. key) starts c.args.forest.keys in
    omega (arith, few, count)
