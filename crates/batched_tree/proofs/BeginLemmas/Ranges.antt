-- The pieces that are cut off one after another are the pieces of the groups.
use Rattle.std.proofs.Common.{◌≡◌, ℕ, suc, ◌<◌, ◌≤◌, ◌⊎◌, inl, inr, Bool, true, false, not, ◌&&◌, nat_lt, nat_le, List, [], ◌∷◌, ◌++◌, filter, length, map, get_or, take, drop, slice_get, Some, None, refl, sym, ap, ◌∙◌, subst, arith}
use Rattle.std.specs.List.{AllByRecursion}
use Rattle.std.specs.declared.option.Option.{Option}
use Rattle.std.specs.Option.{unwrap_or}
use Rattle.std.proofs.lemmas.Bool.Decides.{nat_tests}
use Rattle.std.proofs.lemmas.Grind.{common_steps}
use Rattle.key_sets.specs.Keys.{StrictlyAscends, has}
use Rattle.key_sets.specs.Splits.{below, from}
use Rattle.key_sets.specs.Groups.{group_of, group_size, AreGroups, AreStarts, least_of, starts_of, is_in, least_beyond}
use Rattle.key_sets.proofs.Filters.{filter_where, each_of, filter_all, filter_both, first_found, find_where}
use Rattle.key_sets.proofs.KeyLemmas.Ascending.{all_map}
use Rattle.key_sets.proofs.KeyLemmas.Beside.{absent, has_low, has_high}
use Rattle.key_sets.proofs.KeyLemmas.Members.{holds}
use Rattle.std.proofs.lemmas.Bool.{cases_lt}
use Rattle.key_sets.proofs.GroupLemmas.Distinct.{distinct_ascends}
use Rattle.key_sets.proofs.GroupLemmas.Cutting.{all_get, absent_above, AreApart, apart, take_drop, all_take, get_drop, get_less, groups_by, groups_are, least_is, starts_up, next_start, starts_again, all_from_0}
use Rattle.key_sets.proofs.GroupLemmas.Placing.{last_whole}
use Rattle.seq_objects.specs.declared.call.Call.{Call}
use Rattle.batched_tree.specs.declared.piece.Piece.{Piece}
use Rattle.batched_tree.specs.Calls.{key_of, keys_of, distinct_keys}
use Rattle.batched_tree.specs.Code.Sides.{calls_below, calls_from}
use Rattle.seq_objects.specs.declared.kind.Kind.TheVariants.{Tree}
use Rattle.seq_objects.specs.Batches.{AreOneBatch, AreOf}
use Rattle.batched_tree.specs.declared.piece.Rest.{Rest}
use Rattle.batched_tree.proofs.BeginLemmas.Cuts.{some_key}
use Rattle.batched_tree.specs.Pieces.{IsPiece, ArePieces, Cut, IsContextOf}
use Rattle.batched_tree.specs.Code.Begin.{IsCutPiece, AreCutPieces}
use Rattle.batched_tree.proofs.BeginLemmas.Asked.{AreAsked, all_asked}

-- tests of a key
not_less : (m n : ℕ) → not (nat_lt m n) ≡ nat_le n m
not_less m n = elim (cases_lt m n) [
  | inl less ↦
      let a : nat_lt m n ≡ true = grind (arith, nat_tests) in
      let b : nat_le n m ≡ false = grind (arith, nat_tests) in
      rw (a, b) refl
  | inr le ↦
      let a : nat_lt m n ≡ false = grind (arith, nat_tests) in
      let b : nat_le n m ≡ true = grind (arith, nat_tests) in
      rw (a, b) refl
]

not_less_further : (start b k : ℕ) → start ≤ b
    → (not (nat_lt k start) && not (nat_lt k b)) ≡ not (nat_lt k b)
not_less_further start b k le = elim (cases_lt k b) [
  | inl less ↦
      let a : nat_lt k b ≡ true = grind (arith, nat_tests) in
      rw a (false_behind (not (nat_lt k start)))
  | inr more ↦
      let a : nat_lt k b ≡ false = grind (arith, nat_tests) in
      let c : nat_lt k start ≡ false = grind (arith, nat_tests) in
      rw (a, c) refl
] where
  false_behind : (t : Bool) → (t && false) ≡ false
  false_behind true = refl
  false_behind false = refl

in_last : (start key : ℕ) (keys : List ℕ) → AllByRecursion (λ k. start ≤ k) keys
    → (key < start) ⊎ (has key keys ≡ true) → not (nat_lt key start) ≡ has key keys
in_last start key keys up (inl less) =
    let test : nat_lt key start ≡ true = grind (arith, nat_tests) in
    rw (test, absent key start keys less up) refl
in_last start key keys up (inr there) =
    let le : start ≤ key = holds (λ k. start ≤ k) key keys up there in
    let test : nat_lt key start ≡ false = grind (arith, nat_tests) in
    rw (test, there) refl

in_first : (start b key : ℕ) (low high : List ℕ) → AllByRecursion (λ k. start ≤ k) low
    → AllByRecursion (λ k. start ≤ k) (low ++ high) → AreApart b low high
    → (key < start) ⊎ (has key (low ++ high) ≡ true) → (not (nat_lt key start) && nat_lt key b) ≡ has key low
in_first start b key low high up both cut (inl less) =
    let test : nat_lt key start ≡ true = grind (arith, nat_tests) in
    rw (test, absent key start low less up) refl
in_first start b key low high up both cut (inr there) =
    let le : start ≤ key = holds (λ k. start ≤ k) key (low ++ high) both there in
    let test : nat_lt key start ≡ false = grind (arith, nat_tests) in
    elim (cases_lt key b) [
      | inl less ↦
          let test' : nat_lt key b ≡ true = grind (arith, nat_tests) in
          let own : has key low ≡ true = sym (has_low key b low high less cut.up) ∙ there in
          rw (test, test', own) refl
      | inr more ↦
          let test' : nat_lt key b ≡ false = grind (arith, nat_tests) in
          rw (test, test', absent_above key b low more cut.down) refl
    ]

in_rest : (start b key : ℕ) (low high : List ℕ) → start ≤ b → AreApart b low high
    → (key < start) ⊎ (has key (low ++ high) ≡ true) → (key < b) ⊎ (has key high ≡ true)
in_rest start b key low high le cut (inl less) = inl (omega arith)
in_rest start b key low high le cut (inr there) = elim (cases_lt key b) [
  | inl less ↦ inl less
  | inr more ↦ inr (sym (has_high key b low high more cut.down) ∙ there)
]

from_further : (start b : ℕ) (set : List ℕ) → start ≤ b → from b (from start set) ≡ from b set
from_further start b set le = filter_both (λ k. not (nat_lt k b)) (λ k. not (nat_lt k start)) set
    ∙ filter_where (λ k. not (nat_lt k start) && not (nat_lt k b)) (λ k. not (nat_lt k b)) set (each_of (λ k. (not (nat_lt k start) && not (nat_lt k b)) ≡ not (nat_lt k b)) (λ k. not_less_further start b k le) set)

calls_further : (start b : ℕ) (calls : List Call) → start ≤ b
    → calls_from b (calls_from start calls) ≡ calls_from b calls
calls_further start b calls le = filter_both (λ call. not (nat_lt (key_of call) b)) (λ call. not (nat_lt (key_of call) start)) calls
    ∙ filter_where (λ call. not (nat_lt (key_of call) start) && not (nat_lt (key_of call) b)) (λ call. not (nat_lt (key_of call) b)) calls (each_of (λ (call : Call). (not (nat_lt (key_of call) start) && not (nat_lt (key_of call) b)) ≡ not (nat_lt (key_of call) b)) (λ call. not_less_further start b (key_of call) le) calls)

-- the two descriptions of a piece: cut off from the remainder, and selected from the whole
last_keys : (start : ℕ) (set : List ℕ) → from start set ≡ filter (is_in start None) set
last_keys start set = filter_where (λ k. not (nat_lt k start)) (is_in start None) set (each_of (λ k. not (nat_lt k start) ≡ nat_le start k) (λ k. not_less k start) set)

last_calls : (start : ℕ) (keys : List ℕ) (calls : List Call) → AllByRecursion (λ k. start ≤ k) keys
    → AreAsked start keys calls
    → calls_from start calls ≡ filter (λ call. has (key_of call) keys) calls
last_calls start keys calls up asked = filter_where (λ call. not (nat_lt (key_of call) start)) (λ call. has (key_of call) keys) calls
    (all_map (λ (call : Call). (key_of call < start) ⊎ (has (key_of call) keys ≡ true)) (λ call. not (nat_lt (key_of call) start) ≡ has (key_of call) keys) (λ call known. in_last start (key_of call) keys up known) calls asked)

first_keys : (start b : ℕ) (set : List ℕ)
    → below b (from start set) ≡ filter (is_in start (Some b)) set
first_keys start b set = filter_both (λ k. nat_lt k b) (λ k. not (nat_lt k start)) set
    ∙ filter_where (λ k. not (nat_lt k start) && nat_lt k b) (is_in start (Some b)) set (each_of (λ k. (not (nat_lt k start) && nat_lt k b) ≡ (nat_le start k && nat_lt k b)) (λ k. ap (λ t. t && nat_lt k b) (not_less k start)) set)

first_calls : (start b : ℕ) (low high : List ℕ) (calls : List Call)
    → AllByRecursion (λ k. start ≤ k) low → AllByRecursion (λ k. start ≤ k) (low ++ high)
    → AreApart b low high → AreAsked start (low ++ high) calls
    → calls_below b (calls_from start calls) ≡ filter (λ call. has (key_of call) low) calls
first_calls start b low high calls up both cut asked = filter_both (λ call. nat_lt (key_of call) b) (λ call. not (nat_lt (key_of call) start)) calls
    ∙ filter_where (λ call. not (nat_lt (key_of call) start) && nat_lt (key_of call) b) (λ call. has (key_of call) low) calls
    (all_map (λ (call : Call). (key_of call < start) ⊎ (has (key_of call) (low ++ high) ≡ true)) (λ call. (not (nat_lt (key_of call) start) && nat_lt (key_of call) b) ≡ has (key_of call) low) (λ call known. in_first start b (key_of call) low high up both cut known) calls asked)

first_beyond : (start b : ℕ) (set : List ℕ) → start ≤ b
    → slice_get (from b (from start set)) 0 ≡ least_beyond (Some b) set
first_beyond start b set le = ap (λ keys. slice_get keys 0) (from_further start b set le) ∙ first_found (λ k. not (nat_lt k b)) set ∙ find_where (λ k. not (nat_lt k b)) (λ k. nat_le b k) (λ k. not_less k b) set

-- the facts known while some groups are still to be cut off
record IsAt (start : ℕ) (keys : List ℕ) (calls : List Call) : Type 0 where
  some : 0 < length keys
  ascends : StrictlyAscends keys
  least : AllByRecursion (λ k. start ≤ k) keys
  asked : AreAsked start keys calls

record IsStep (start b : ℕ) (low high : List ℕ) (set : List ℕ) (calls : List Call) : Type 0 where
  keys : below b (from start set) ≡ filter (is_in start (Some b)) set
  own : calls_below b (calls_from start calls) ≡ filter (λ call. has (key_of call) low) calls
  beyond : slice_get (from b (from start set)) 0 ≡ least_beyond (Some b) set
  others : from b (from start set) ≡ from b set
  later : calls_from b (calls_from start calls) ≡ calls_from b calls
  next : IsAt b high calls

step_at : (size start b : ℕ) (keys set : List ℕ) (calls : List Call) → slice_get keys size ≡ Some b
    → IsAt start keys calls → IsStep start b (take size keys) (drop size keys) set calls
step_at size start b keys set calls is at =
    let low = take size keys in
    let high = drop size keys in
    let le : start ≤ b = all_get (λ k. start ≤ k) keys size b at.least is in
    let cut = apart size b keys at.ascends is in
    let whole : low ++ high ≡ keys = take_drop size keys in
    let least : AllByRecursion (λ k. start ≤ k) (low ++ high) = rw whole at.least in
    let asked : AreAsked start (low ++ high) calls = rw whole at.asked in
    let less : size < length keys = get_less keys size b is in
    record {
      keys = first_keys start b set;
      own = first_calls start b low high calls (all_take (λ k. start ≤ k) size keys at.least) least cut asked;
      beyond = first_beyond start b set le;
      others = from_further start b set le;
      later = calls_further start b calls le;
      next = record {
        some = grind (arith, common_steps);
        ascends = cut.ascends;
        least = cut.up;
        asked = all_map (λ (call : Call). (key_of call < start) ⊎ (has (key_of call) (low ++ high) ≡ true)) (λ call. (key_of call < b) ⊎ (has (key_of call) high ≡ true)) (λ call known. in_rest start b (key_of call) low high le cut known) calls asked;
      };
    }

-- from cut pieces to the pieces of the groups
parts_are : (size : ℕ) (starts keys : List ℕ) (start : ℕ) (set : List ℕ) (calls : List Call) (pieces : List Piece)
    → 0 < size → AreStarts size keys starts → IsAt start keys calls
    → AreCutPieces (from start set) (calls_from start calls) starts pieces → ArePieces set calls start (groups_by size keys starts) pieces
parts_are size [] keys start set calls [] some are at are_pieces = absurd are_pieces
parts_are size (b ∷ starts) keys start set calls [] some are at are_pieces = absurd are_pieces
parts_are size [] keys start set calls (piece ∷ pieces) some are at are_pieces =
    let is = are_pieces.0 in
    (record { keys_are = is.keys_are ∙ last_keys start set; calls_are = is.calls_are ∙ last_calls start keys calls at.least at.asked; beyond_is = is.beyond_is }, are_pieces.1)
parts_are size (b ∷ starts) keys start set calls (piece ∷ pieces) some are at are_pieces =
    let is = are_pieces.0 in
    let s = step_at size start b keys set calls are.0 at in
    let own : IsPiece set calls (take size keys) start (Some b) piece = record { keys_are = is.keys_are ∙ s.keys; calls_are = is.calls_are ∙ s.own; beyond_is = is.beyond_is ∙ s.beyond } in
    let next : least_of (groups_by size (drop size keys) starts) ≡ Some b = least_is size b (drop size keys) starts some (get_drop size keys ∙ are.0) in
    let others : AreCutPieces (from b set) (calls_from b calls) starts pieces = rw (s.others, s.later) at are_pieces.1 in
    rw next (own, parts_are size starts (drop size keys) b set calls pieces some are.1 s.next others)

-- and the converse
pieces_are : (size : ℕ) (groups : List (List ℕ)) (keys : List ℕ) (start : ℕ) (set : List ℕ) (calls : List Call) (pieces : List Piece)
    → 0 < size → AreGroups size keys groups → IsAt start keys calls
    → ArePieces set calls start groups pieces → AreCutPieces (from start set) (calls_from start calls) (starts_of groups) pieces
pieces_are size [] keys start set calls pieces some are at each =
    let none : length keys ≡ 0 = rw are refl in
    absurd (omega (arith, at.some, none))
pieces_are size (group ∷ []) keys start set calls [] some are at each = absurd each
pieces_are size (group ∷ next ∷ groups) keys start set calls [] some are at each = absurd each
pieces_are size (group ∷ []) keys start set calls (piece ∷ pieces) some are at each =
    let is = each.0 in
    let none : drop size keys ≡ [] = are.2 in
    let whole : group ≡ keys = last_whole size keys group are.1 none in
    let calls_are = rw whole at is.calls_are in
    (record { keys_are = is.keys_are ∙ sym (last_keys start set); calls_are = calls_are ∙ sym (last_calls start keys calls at.least at.asked); beyond_is = is.beyond_is }, each.1)
pieces_are size (group ∷ next ∷ groups) keys start set calls (piece ∷ pieces) some are at each =
    let b = get_or next 0 0 in
    let begins = next_start size keys next some are.2.0 are.2.1 in
    let s = step_at size start b keys set calls begins.1 at in
    let is : IsPiece set calls group start (Some b) piece = rw begins.0 at each.0 in
    let calls_are = rw are.1 at is.calls_are in
    let own : IsCutPiece (below b (from start set)) (calls_below b (calls_from start calls)) (slice_get (from b (from start set)) 0) piece = record { keys_are = is.keys_are ∙ sym s.keys; calls_are = calls_are ∙ sym s.own; beyond_is = is.beyond_is ∙ sym s.beyond } in
    let begin_is : unwrap_or (slice_get next 0) 0 ≡ b = ap (λ (first : Option ℕ). unwrap_or first 0) begins.0 in
    let each_rest : ArePieces set calls b (next ∷ groups) pieces = subst (λ first. ArePieces set calls first (next ∷ groups) pieces) begin_is each.1 in
    let rest = pieces_are size (next ∷ groups) (drop size keys) b set calls pieces some are.2 s.next each_rest in
    (own, rw (s.others, s.later) rest)

not_below_0 : (k : ℕ) → not (nat_lt k 0) ≡ true
not_below_0 k = not_less k 0 ∙ let test : nat_le 0 k ≡ true = grind (arith, nat_tests) in test

at_all : (calls : List Call) → 0 < length (distinct_keys calls) → IsAt 0 (distinct_keys calls) calls
at_all calls some = record { some = some; ascends = distinct_ascends (keys_of calls); least = all_from_0 (distinct_keys calls); asked = all_asked 0 calls }

from_0 : (set : List ℕ) → from 0 set ≡ set
from_0 set = filter_all (λ k. not (nat_lt k 0)) not_below_0 set

calls_from_0 : (calls : List Call) → calls_from 0 calls ≡ calls
calls_from_0 calls = filter_all (λ call. not (nat_lt (key_of call) 0)) (λ call. not_below_0 (key_of call)) calls

-- cut pieces are the pieces of the groups, and conversely
pub pieces_cut : (set : List ℕ) (calls : List Call) (starts : List ℕ) (pieces : List Piece)
    → 0 < length (distinct_keys calls)
    → AreStarts (group_size (length (distinct_keys calls))) (distinct_keys calls) starts → AreCutPieces set calls starts pieces → (cut : Cut set calls pieces) × (starts_of cut.groups ≡ starts)
pieces_cut set calls starts pieces some are are_pieces =
    let keys = distinct_keys calls in
    let size = group_size (length keys) in
    let are_pieces' : AreCutPieces (from 0 set) (calls_from 0 calls) starts pieces = rw (from_0 set, calls_from_0 calls) are_pieces in (
      record {
        groups = groups_by size keys starts;
        groups_are = groups_are size keys starts some are;
        pieces = parts_are size starts keys 0 set calls pieces (omega arith) are (at_all calls some) are_pieces';
      },
      starts_again size keys starts (omega arith) are,
    )

pub cut_pieces : (set : List ℕ) (calls : List Call) (pieces : List Piece)
    → 0 < length (distinct_keys calls) → (cut : Cut set calls pieces)
    → AreCutPieces set calls (starts_of cut.groups) pieces
cut_pieces set calls pieces some cut =
    let keys = distinct_keys calls in
    let are_pieces = pieces_are (group_size (length keys)) cut.groups keys 0 set calls pieces (omega arith) cut.groups_are (at_all calls some) cut.pieces in
    rw (from_0 set, calls_from_0 calls) at are_pieces

pub starts_ascend : (calls : List Call) (keys starts : List ℕ) → 0 < length calls
    → keys ≡ distinct_keys calls → AreStarts (group_size (length keys)) keys starts
    → StrictlyAscends starts
starts_ascend calls keys starts some is are =
    let are' = rw is at are in
    let some' = some_key calls some in
    starts_up (group_size (length (distinct_keys calls))) (distinct_keys calls) starts (omega arith) (distinct_ascends (keys_of calls)) are'

-- the context of a batch, from what the code establishes
pub remembered : (set : List ℕ) (calls : List Call) (keys starts : List ℕ) (pieces : List Piece) (rest : Rest)
    → StrictlyAscends set → AreOneBatch calls → AreOf Tree calls → keys ≡ distinct_keys calls
    → AreStarts (group_size (length keys)) keys starts → AreCutPieces set calls starts pieces → rest.groups.items ≡ map (λ call. group_of (key_of call) starts) calls
    → IsContextOf rest (record { before = set; calls = calls; ins = pieces })
remembered set calls keys starts pieces rest up batch tree is are are_pieces groups =
    let are' = rw is at are in
    let cut = pieces_cut set calls starts pieces (some_key calls batch.some) are' are_pieces in
    record { ascends = up; batch = batch; may = tree; cut = cut.0; groups = rw cut.1 groups }

-- each group has a piece
pub piece_each : (set : List ℕ) (calls : List Call) (start : ℕ) (groups : List (List ℕ)) (pieces : List Piece)
    → ArePieces set calls start groups pieces → length pieces ≡ length groups
piece_each set calls start [] pieces are = rw are refl
piece_each set calls start (group ∷ groups) [] are = absurd are
piece_each set calls start (group ∷ groups) (piece ∷ pieces) are =
    ap suc (piece_each set calls (unwrap_or (least_of groups) 0) groups pieces are.1)
