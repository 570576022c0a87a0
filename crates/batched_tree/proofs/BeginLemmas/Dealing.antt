-- Adding one more call to the piece of its group.
use Rattle.std.proofs.Common.{◌≡◌, ℕ, zero, suc, ◌+◌, ◌<◌, ◌≤◌, inl, inr, true, false, nat_lt, List, [], ◌∷◌, ◌++◌, map, length, get_or, take, ap, ◌∙◌, append-nil, arith}
use Rattle.std.proofs.Math.ListN.{set}
use Rattle.std.specs.List.{AllByRecursion}
use Rattle.std.specs.declared.option.Option.{Option}
use Rattle.std.proofs.lemmas.Bool.Decides.{nat_tests}
use Rattle.std.proofs.lemmas.List.{get_or-map, take_more}
use Rattle.std.proofs.lemmas.List.Elements.{filter-append}
use Rattle.key_sets.specs.Groups.{group_of}
use Rattle.std.proofs.lemmas.Bool.{cases_lt}
use Rattle.key_sets.proofs.GroupLemmas.Counting.{group_within}
use Rattle.seq_objects.specs.declared.call.Call.{Call}
use Rattle.seq_objects.specs.Objects.{argument_of}
use Rattle.batched_tree.specs.declared.piece.Piece.{Piece}
use Rattle.batched_tree.specs.Calls.{key_of}
use Rattle.batched_tree.specs.Code.Sides.{calls_below, calls_from}
use Rattle.batched_tree.specs.Code.Begin.{IsCutPiece, AreCutPieces}

-- each group has a piece
pub groups_within : (n : ℕ) (starts : List ℕ) (calls : List Call) → length starts < n
    → AllByRecursion (λ group. group < n) (map (λ call. group_of (key_of call) starts) calls)
groups_within n starts [] less = tt
groups_within n starts (call ∷ calls) less = (omega (arith, group_within (key_of call) starts), groups_within n starts calls less)

group_at : (starts : List ℕ) (calls : List Call) (i : ℕ) → i < length calls
    → get_or (map (λ call. group_of (key_of call) starts) calls) i 0 ≤ length starts
group_at starts [] i less = absurd (omega arith)
group_at starts (call ∷ calls) zero less = group_within (key_of call) starts
group_at starts (call ∷ calls) (suc i) less = group_at starts calls i (omega arith)

pub group_less : (starts : List ℕ) (calls : List Call) (groups : List ℕ) (i : ℕ)
    → groups ≡ map (λ call. group_of (key_of call) starts) calls → i < length calls
    → get_or groups i 0 < length starts + 1
group_less starts calls groups i are less = rw are (omega (arith, group_at starts calls i less))

-- a piece with one more call
pub record HasMore (call : Call) (old new : Piece) : Type 0 where
  pub forest : new.forest.keys ≡ old.forest.keys
  pub calls : new.calls.items ≡ old.calls.items ++ call ∷ []
  pub beyond : new.beyond ≡ old.beyond

piece_more : (keys : List ℕ) (calls : List Call) (beyond : Option ℕ) (call : Call) (old new : Piece)
    → IsCutPiece keys calls beyond old → HasMore call old new
    → IsCutPiece keys (calls ++ call ∷ []) beyond new
piece_more keys calls beyond call old new is more = record {
  keys_are = more.forest ∙ is.keys_are;
  calls_are = more.calls ∙ ap (λ before. before ++ call ∷ []) is.calls_are;
  beyond_is = more.beyond ∙ is.beyond_is;
}

-- the call is on one side of a start
more_below : (b : ℕ) (calls : List Call) (call : Call) → nat_lt (argument_of call.op) b ≡ true
    → (calls_below b (calls ++ call ∷ []) ≡ calls_below b calls ++ call ∷ []) × (calls_from b (calls ++ call ∷ []) ≡ calls_from b calls)
more_below b calls call test =
    let low : calls_below b (calls ++ call ∷ []) ≡ calls_below b calls ++ calls_below b (call ∷ []) = filter-append _ calls (call ∷ []) in
    let high : calls_from b (calls ++ call ∷ []) ≡ calls_from b calls ++ calls_from b (call ∷ []) = filter-append _ calls (call ∷ []) in
    let low' = rw test at low in
    let high' = rw test at high in
    (low', high' ∙ append-nil (calls_from b calls))

more_from : (b : ℕ) (calls : List Call) (call : Call) → nat_lt (argument_of call.op) b ≡ false
    → (calls_below b (calls ++ call ∷ []) ≡ calls_below b calls) × (calls_from b (calls ++ call ∷ []) ≡ calls_from b calls ++ call ∷ [])
more_from b calls call test =
    let low : calls_below b (calls ++ call ∷ []) ≡ calls_below b calls ++ calls_below b (call ∷ []) = filter-append _ calls (call ∷ []) in
    let high : calls_from b (calls ++ call ∷ []) ≡ calls_from b calls ++ calls_from b (call ∷ []) = filter-append _ calls (call ∷ []) in
    let low' = rw test at low in
    let high' = rw test at high in
    (low' ∙ append-nil (calls_below b calls), high')

dealt : (starts keys : List ℕ) (calls : List Call) (call : Call) (pieces : List Piece) (old new : Piece)
    → AreCutPieces keys calls starts pieces
    → old ≡ get_or pieces (group_of (key_of call) starts) old → HasMore call old new
    → AreCutPieces keys (calls ++ call ∷ []) starts (set pieces (group_of (key_of call) starts) new)
dealt [] keys calls call [] old new are_pieces is more = absurd are_pieces
dealt (b ∷ starts) keys calls call [] old new are_pieces is more = absurd are_pieces
dealt [] keys calls call (piece ∷ pieces) old new are_pieces is more = (piece_more _ _ _ call old new (rw is are_pieces.0) more, are_pieces.1)
dealt (b ∷ starts) keys calls call (piece ∷ pieces) old new are_pieces is more = elim (cases_lt (key_of call) b) [
  | inl less ↦
      let test : nat_lt (argument_of call.op) b ≡ true = grind (arith, nat_tests) in
      let sides = more_below b calls call test in
      let is' : old ≡ piece = rw test at is in
      rw (test, sides.0, sides.1) (piece_more _ _ _ call old new (rw is' are_pieces.0) more, are_pieces.1)
  | inr le ↦
      let test : nat_lt (argument_of call.op) b ≡ false = grind (arith, nat_tests) in
      let sides = more_from b calls call test in
      let is' = rw test at is in
      rw (test, sides.0, sides.1) (are_pieces.0, dealt starts _ (calls_from b calls) call pieces old new are_pieces.1 is' more)
]

pub dealt_more : (starts keys : List ℕ) (calls : List Call) (groups : List ℕ) (i : ℕ) (d : Call) (pieces : List Piece) (old new : Piece)
    → i < length calls → groups ≡ map (λ call. group_of (key_of call) starts) calls
    → AreCutPieces keys (take i calls) starts pieces → old ≡ get_or pieces (get_or groups i 0) old → HasMore (get_or calls i d) old new → AreCutPieces keys (take (i + 1) calls) starts (set pieces (get_or groups i 0) new)
dealt_more starts keys calls groups i d pieces old new less are are_pieces is more =
    let call = get_or calls i d in
    let group : get_or groups i 0 ≡ group_of (key_of call) starts = rw are (get_or-map (λ call. group_of (key_of call) starts) calls i d 0 less) in
    let is' = rw group at is in
    rw (group, take_more calls i d less) (dealt starts keys (take i calls) call pieces old new are_pieces is' more)
