-- The outs of the pieces of a batch.
use Rattle.std.proofs.Common.{◌≡◌, ℕ, zero, suc, ◌+◌, ◌<◌, ◌≤◌, List, [], ◌∷◌, ◌++◌, Bool, true, false, ◌==◌, cond, length, map, filter, get_or, refl, ap, sym, subst, ◌∙◌, arith}
use Rattle.std.specs.List.{AllByRecursion}
use Rattle.key_sets.specs.Keys.{StrictlyAscends}
use Rattle.key_sets.specs.Groups.{group_of}
use Rattle.key_sets.proofs.GroupLemmas.Counting.{group_within}
use Rattle.keyed_pieces.specs.Keyed.{after_each, replies_to_each}
use Rattle.keyed_pieces.specs.Ranges.{ranges, side_by_side, after_by_range, replies_by_range, merged}
use Rattle.keyed_pieces.specs.Dealing.{of_group, HaveReplies}
use Rattle.keyed_pieces.proofs.Sides.{range_count, range_is}
use Rattle.keyed_pieces.proofs.Service.{ranges_after as served_ranges, ranges_replies as served_replies}
use Rattle.seq_objects.specs.Pieces.{AllMeet}
use Rattle.bulk_calls.specs.declared.piece.KeyOp.{KeyOp}
use Rattle.bulk_calls.specs.declared.piece.Piece.{Piece}
use Rattle.bulk_calls.specs.declared.piece.Served.{Served}
use Rattle.bulk_calls.specs.Singles.{after_one, answer_to}
use Rattle.bulk_calls.specs.Pieces.{Meets, IsCut, ranges_of, operations_of, ranges_after, answers_of}
use Rattle.bulk_calls.proofs.SetLaws.{ascends_by, keys_are_keyed}

-- the key of an operation
abbrev pub key_of : KeyOp → ℕ
key_of operation = operation.key

-- a set, and operations, by ranges of keys
abbrev pub set_ranges : List ℕ → List ℕ → List (List ℕ)
set_ranges starts set = ranges (λ key. key) starts set

abbrev pub operation_ranges : List ℕ → List KeyOp → List (List KeyOp)
operation_ranges starts ops = ranges key_of starts ops

-- the group of each operation
abbrev pub groups_in : List ℕ → List KeyOp → List ℕ
groups_in starts ops = map (λ op. group_of (key_of op) starts) ops

-- the outs have the ranges after their operations
outs_after : (pieces : List Piece) (outs : List Served) → AllMeet Meets pieces outs → ranges_after outs ≡ after_by_range after_one (ranges_of pieces) (operations_of pieces)
outs_after [] [] meet = refl
outs_after [] (out ∷ outs) meet = absurd meet
outs_after (piece ∷ pieces) [] meet = absurd meet
outs_after (piece ∷ pieces) (out ∷ outs) meet = rw (meet.0.keys, outs_after pieces outs meet.1) refl

outs_answers : (pieces : List Piece) (outs : List Served) → AllMeet Meets pieces outs → answers_of outs ≡ replies_by_range after_one answer_to (ranges_of pieces) (operations_of pieces)
outs_answers [] [] meet = refl
outs_answers [] (out ∷ outs) meet = absurd meet
outs_answers (piece ∷ pieces) [] meet = absurd meet
outs_answers (piece ∷ pieces) (out ∷ outs) meet = rw (meet.0.answers, outs_answers pieces outs meet.1) refl

pub joined : (set : List ℕ) (ops : List KeyOp) (groups : List ℕ) (pieces : List Piece) (outs : List Served) → StrictlyAscends set
    → IsCut set ops groups pieces → AllMeet Meets pieces outs → side_by_side (ranges_after outs) ≡ after_each after_one set ops
joined set ops groups pieces outs up cut meet =
    let out = rw (cut.ranges_are, cut.operations_are) at (outs_after pieces outs meet) in
    ap side_by_side out ∙ served_ranges (λ key. key) key_of after_one answer_to keys_are_keyed cut.starts set ops (ascends_by set up)

pub merged_answers : (set : List ℕ) (ops : List KeyOp) (groups : List ℕ) (pieces : List Piece) (outs : List Served) → StrictlyAscends set
    → IsCut set ops groups pieces → AllMeet Meets pieces outs
    → merged false groups (answers_of outs) ≡ replies_to_each after_one answer_to set ops
merged_answers set ops groups pieces outs up cut meet =
    let out = rw (cut.ranges_are, cut.operations_are) at (outs_answers pieces outs meet) in
    ap (λ gs. merged false gs (answers_of outs)) cut.groups_are ∙ ap (merged false (groups_in cut.starts ops)) out ∙ served_replies (λ key. key) key_of after_one answer_to keys_are_keyed false cut.starts set ops (ascends_by set up)

-- each range answers each of its operations
long : (set : List ℕ) (ops : List KeyOp) → length (replies_to_each after_one answer_to set ops) ≡ length ops
long set [] = refl
long set (op ∷ ops) = ap suc (long (after_one set op) ops)

each_long : (sets : List (List ℕ)) (all : List (List KeyOp)) (group : ℕ) → length sets ≡ length all
    → length (get_or (replies_by_range after_one answer_to sets all) group []) ≡ length (get_or all group [])
each_long [] [] group same = refl
each_long [] (ops ∷ all) group same = absurd (omega (arith, same))
each_long (set ∷ sets) [] group same = absurd (omega (arith, same))
each_long (set ∷ sets) (ops ∷ all) zero same = long set ops
each_long (set ∷ sets) (ops ∷ all) (suc group) same = each_long sets all group (omega (arith, same))

range_long : (sets : List (List ℕ)) (all : List (List KeyOp)) → length sets ≡ length all
    → length (replies_by_range after_one answer_to sets all) ≡ length sets
range_long [] all same = refl
range_long (set ∷ sets) [] same = absurd (omega (arith, same))
range_long (set ∷ sets) (ops ∷ all) same = ap suc (range_long sets all (omega (arith, same)))

of_group_long : (starts : List ℕ) (group : ℕ) (ops : List KeyOp) → length (of_group group (groups_in starts ops) (groups_in starts ops)) ≡ length (filter (λ op. group_of (key_of op) starts == group) ops)
of_group_long starts group [] = refl
of_group_long starts group (op ∷ ops) = step (group_of (key_of op) starts == group) (of_group_long starts group ops) where
  step : (t : Bool) → length (of_group group (groups_in starts ops) (groups_in starts ops)) ≡ length (filter (λ op. group_of (key_of op) starts == group) ops)
      → length (cond t (group_of (key_of op) starts ∷ of_group group (groups_in starts ops) (groups_in starts ops)) (of_group group (groups_in starts ops) (groups_in starts ops)))
      ≡ length (cond t (op ∷ filter (λ op. group_of (key_of op) starts == group) ops) (filter (λ op. group_of (key_of op) starts == group) ops))
  step true rest = ap suc rest
  step false rest = rest

groups_below : (n : ℕ) (starts : List ℕ) (ops : List KeyOp) → length starts < n → AllByRecursion (λ group. group < n) (groups_in starts ops)
groups_below n starts [] less = tt
groups_below n starts (op ∷ ops) less = (omega (arith, less, group_within (key_of op) starts), groups_below n starts ops less)

pub dealt_below : (starts : List ℕ) (ops : List KeyOp) → AllByRecursion (λ group. group < length starts + 1) (groups_in starts ops)
dealt_below starts ops = groups_below (length starts + 1) starts ops (omega arith)

-- what `merge` needs
pub record AreAnswered (groups : List ℕ) (replies : List (List Bool)) : Type 0 where
  pub below : AllByRecursion (λ group. group < length replies) groups
  pub enough : (group : ℕ) → group < length replies → length (of_group group groups groups) ≤ length (get_or replies group [])

pub are_answered : (set : List ℕ) (ops : List KeyOp) (groups : List ℕ) (pieces : List Piece) (outs : List Served)
    → IsCut set ops groups pieces → AllMeet Meets pieces outs → AreAnswered groups (answers_of outs)
are_answered set ops groups pieces outs cut meet =
    let starts = cut.starts in
    let sets = set_ranges starts set in
    let all = operation_ranges starts ops in
    let out : answers_of outs ≡ replies_by_range after_one answer_to sets all = rw (cut.ranges_are, cut.operations_are) at (outs_answers pieces outs meet) in
    let same : length sets ≡ length all = range_count (λ key. key) starts set ∙ sym (range_count key_of starts ops) in
    let many : length (answers_of outs) ≡ length starts + 1 = ap length out ∙ range_long sets all same ∙ range_count (λ key. key) starts set in
    let own : AreAnswered (groups_in starts ops) (answers_of outs) = record {
      below = rw many (dealt_below starts ops);
      enough = λ group less.
          let each : length (get_or (answers_of outs) group []) ≡ length (filter (λ op. group_of (key_of op) starts == group) ops) =
          ap (λ lists. length (get_or lists group [])) out ∙ each_long sets all group same ∙ ap length (range_is key_of starts ops group) in
          omega (arith, each, of_group_long starts group ops);
    } in
    subst (λ gs. AreAnswered gs (answers_of outs)) (sym cut.groups_are) own
