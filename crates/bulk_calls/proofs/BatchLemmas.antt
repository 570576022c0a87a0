-- A whole batch: its keys served by ranges are its calls served one after another.
use Rattle.std.proofs.Common.{◌≡◌, ℕ, ◌<◌, List, length, false, refl, ap, sym, subst, ◌∙◌, arith}
use Rattle.key_sets.specs.Keys.{StrictlyAscends}
use Rattle.key_sets.specs.Groups.{distinct, group_size, AreStarts}
use Rattle.key_sets.proofs.GroupLemmas.Cutting.{starts_up}
use Rattle.key_sets.proofs.GroupLemmas.Distinct.{distinct_ascends}
use Rattle.keyed_pieces.specs.Ranges.{side_by_side, merged}
use Rattle.keyed_pieces.proofs.Sides.{range_count}
use Rattle.seq_objects.specs.Pieces.{AllMeet}
use Rattle.bulk_calls.specs.declared.piece.KeyOp.{KeyOp}
use Rattle.bulk_calls.specs.declared.piece.Piece.{Piece}
use Rattle.bulk_calls.specs.declared.piece.Served.{Served}
use Rattle.bulk_calls.specs.declared.piece.Rest.{Rest}
use Rattle.bulk_calls.specs.Views.{BulkView}
use Rattle.bulk_calls.specs.Bulk.{bulk_after, bulk_replies}
use Rattle.bulk_calls.specs.Singles.{singles, keys_in, chopped}
use Rattle.bulk_calls.specs.Pieces.{Meets, IsContextOf, ranges_after, answers_of}
use Rattle.bulk_calls.proofs.SetLaws.{ascends_after_each}
use Rattle.bulk_calls.proofs.CallLemmas.{answered_length, left_by_calls, replied_to_calls}
use Rattle.bulk_calls.proofs.RangeLemmas.{key_of, set_ranges, operation_ranges, joined, merged_answers}

-- the starts of the groups of a batch's keys ascend
pub starts_ascend : (operations : List KeyOp) (keys starts : List ℕ) → keys ≡ distinct (keys_in operations) → 0 < length keys
    → AreStarts (group_size (length keys)) keys starts → StrictlyAscends starts
starts_ascend operations keys starts is some are =
    starts_up (group_size (length keys)) keys starts (omega (arith, some)) (subst StrictlyAscends (sym is) (distinct_ascends (keys_in operations))) are

-- there are as many ranges of operations as of the set
pub as_many : (starts set : List ℕ) (operations : List KeyOp) (all : List (List KeyOp)) (sets : List (List ℕ))
    → all ≡ operation_ranges starts operations → sets ≡ set_ranges starts set → length all ≡ length sets
as_many starts set operations all sets all_are sets_are =
    ap length all_are ∙ range_count key_of starts operations ∙ sym (range_count (λ key. key) starts set) ∙ sym (ap length sets_are)

-- the outcome of a batch that is served in pieces
pub record IsServed (set : List ℕ) (calls : List BulkView) (groups : List ℕ) (outs : List Served) : Type 0 where
  pub ascends : StrictlyAscends (side_by_side (ranges_after outs))
  pub set_is : side_by_side (ranges_after outs) ≡ bulk_after set calls
  pub long : length (merged false groups (answers_of outs)) ≡ length (singles calls)
  pub replies_are : chopped calls (merged false groups (answers_of outs)) ≡ bulk_replies set calls

pub batch_served : (rest : Rest) (set : List ℕ) (calls : List BulkView) (pieces : List Piece) (outs : List Served)
    → IsContextOf rest set calls pieces → AllMeet Meets pieces outs → IsServed set calls rest.groups.items outs
batch_served rest set calls pieces outs context meet =
    let operations = singles calls in
    let groups = rest.groups.items in
    let left = joined set operations groups pieces outs context.ascends context.cut meet in
    let answers = merged_answers set operations groups pieces outs context.ascends context.cut meet in
    record {
      ascends = subst StrictlyAscends (sym left) (ascends_after_each set operations context.ascends);
      set_is = left ∙ left_by_calls set calls;
      long = ap length answers ∙ answered_length set operations;
      replies_are = ap (chopped calls) answers ∙ replied_to_calls set calls;
    }
