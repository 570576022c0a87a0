-- The pieces of a batch.
use Rattle.std.specs.Prelude.{◌≡◌, ℕ, ◌+◌, List, ◌++◌, length, map, drop}
use Rattle.key_sets.specs.Groups.{distinct, group_size, AreStarts}
use Rattle.keyed_pieces.specs.Dealing.{dealt}
use Rattle.keyed_pieces.specs.Ranges.{ranges, side_by_side}
use Rattle.rank_nodes.specs.declared.entry.Entry.{Entry}
use Rattle.rank_nodes.specs.Maps.{key_of}
use Rattle.seq_objects.specs.declared.reply.Reply.{Reply}
use Rattle.batched_map.specs.declared.call.MapOp.{MapOp}
use Rattle.batched_map.specs.declared.piece.Range.{Range}
use Rattle.batched_map.specs.declared.piece.Piece.{Piece}
use Rattle.batched_map.specs.declared.piece.Served.{Served}
use Rattle.batched_map.specs.Maps.{map_after, keys_in}
use Rattle.batched_map.specs.Code.Ranges.{sizes_before, range_of, replies_in}

-- the trees of ranges, and how many keys are before each
abbrev pub trees : List Range → List (List Entry)
trees ranges = map (λ range. range.tree) ranges

abbrev pub befores : List Range → List ℕ
befores ranges = map (λ range. range.before) ranges

-- the ranges of pieces, and their operations
abbrev pub ranges_in : List Piece → List Range
ranges_in pieces = map (λ piece. piece.range) pieces

abbrev pub operations_in : List Piece → List (List MapOp)
operations_in pieces = map (λ piece. piece.operations.items) pieces

-- the ranges of a map that is cut at these keys
pub record AreRanges (entries : List Entry) (starts : List ℕ) (all : List Range) : Type 0 where
  pub trees_are : trees all ≡ ranges key_of starts entries
  pub befores_are : befores all ≡ sizes_before 0 (ranges key_of starts entries)

-- `all` is `there` with, behind it, the ranges of a part that is cut at these keys and has `before` keys before it
pub record AreAdded (before : ℕ) (part : List Entry) (starts : List ℕ) (there all : List Range) : Type 0 where
  pub trees_are : trees all ≡ trees there ++ ranges key_of starts part
  pub befores_are : befores all ≡ befores there ++ sizes_before before (ranges key_of starts part)

-- the number of the range of each operation, where the map is cut into these ranges at these keys
abbrev pub groups_in : List ℕ → List Range → List MapOp → List ℕ
groups_in starts all operations = map (range_of starts (drop 1 (befores all))) operations

-- each piece has a range, and the operations that are dealt to it
pub record AreCut (entries : List Entry) (starts : List ℕ) (operations : List MapOp) (all : List Range) (pieces : List Piece) : Type 0 where
  pub ranges_are : AreRanges entries starts all
  pub each_has : ranges_in pieces ≡ all
  pub dealt_are : operations_in pieces ≡ dealt (length starts + 1) (groups_in starts all operations) operations

-- A batch that is cut into pieces by the rule for its keys: its distinct keys are cut into groups, and the map at the
-- least key of each group but the first. `groups` has the number of the range of each operation.
pub record AreDealt (entries : List Entry) (operations : List MapOp) (pieces : List Piece) (groups : List ℕ) : Type 0 where
  pub starts : List ℕ
  pub by_rule : AreStarts (group_size (length (distinct (keys_in operations)))) (distinct (keys_in operations)) starts
  pub all : List Range
  pub cut : AreCut entries starts operations all pieces
  pub groups_are : groups ≡ groups_in starts all operations

-- the operations of the piece were served one after another on its range
pub record Meets (piece : Piece) (served : Served) : Type 0 where
  pub tree : served.tree ≡ map_after piece.range.tree piece.operations.items
  pub replies : served.replies.items ≡ replies_in piece.range.before piece.range.tree piece.operations.items

-- `tree` has the entries of the last `count` trees of `all`, side by side, and the others are `left`
pub record IsJoined (all left : List (List Entry)) (count : ℕ) (tree : List Entry) : Type 0 where
  pub last : List (List Entry)
  pub all_are : all ≡ left ++ last
  pub count_is : length last ≡ count
  pub tree_is : tree ≡ side_by_side last

-- the ranges that pieces leave, and what they reply
abbrev pub trees_left : List Served → List (List Entry)
trees_left outs = map (λ out. out.tree) outs

abbrev pub replies_left : List Served → List (List Reply)
replies_left outs = map (λ out. out.replies.items) outs
