-- The outs of the pieces, in their order.
use Rattle.std.proofs.Common.{◌≡◌, ℕ, zero, suc, ◌<◌, List, [], ◌∷◌, length, get_or, refl, ap, ap₂, ◌∙◌, arith}
use Rattle.seq_objects.specs.Pieces.{AllMeet}
use Rattle.keyed_pieces.specs.Ranges.{after_by_range}
use Rattle.rank_nodes.specs.declared.entry.Entry.{Entry}
use Rattle.batched_map.specs.declared.call.MapOp.{MapOp}
use Rattle.batched_map.specs.declared.piece.Piece.{Piece}
use Rattle.batched_map.specs.declared.piece.Served.{Served}
use Rattle.batched_map.specs.Maps.{after, map_after}
use Rattle.batched_map.specs.Code.Ranges.{replies_in, replies_in_each}
use Rattle.batched_map.specs.Code.Pieces.{Meets, trees, befores, ranges_in, operations_in, trees_left, replies_left}

pub trees_come : (pieces : List Piece) (outs : List Served) → AllMeet Meets pieces outs
    → trees_left outs ≡ after_by_range after (trees (ranges_in pieces)) (operations_in pieces)
trees_come [] [] met = refl
trees_come [] (out ∷ outs) met = absurd met
trees_come (piece ∷ pieces) [] met = absurd met
trees_come (piece ∷ pieces) (out ∷ outs) met = ap₂ (λ tree rest. tree ∷ rest) met.0.tree (trees_come pieces outs met.1)

pub replies_come : (pieces : List Piece) (outs : List Served) → AllMeet Meets pieces outs
    → replies_left outs ≡ replies_in_each (befores (ranges_in pieces)) (trees (ranges_in pieces)) (operations_in pieces)
replies_come [] [] met = refl
replies_come [] (out ∷ outs) met = absurd met
replies_come (piece ∷ pieces) [] met = absurd met
replies_come (piece ∷ pieces) (out ∷ outs) met = ap₂ (λ first rest. first ∷ rest) met.0.replies (replies_come pieces outs met.1)

-- what each range replies
pub each_reply : (sizes : List ℕ) (entries : List (List Entry)) (dealt : List (List MapOp)) (g : ℕ)
    → g < length sizes → g < length entries → g < length dealt
    → get_or (replies_in_each sizes entries dealt) g [] ≡ replies_in (get_or sizes g 0) (get_or entries g []) (get_or dealt g [])
each_reply [] entries dealt g less less' less'' = absurd (omega (arith, less))
each_reply (before ∷ sizes) [] dealt g less less' less'' = absurd (omega (arith, less'))
each_reply (before ∷ sizes) (range ∷ entries) [] g less less' less'' = absurd (omega (arith, less''))
each_reply (before ∷ sizes) (range ∷ entries) (ops ∷ dealt) zero less less' less'' = refl
each_reply (before ∷ sizes) (range ∷ entries) (ops ∷ dealt) (suc g) less less' less'' = each_reply sizes entries dealt g (omega (arith, less)) (omega (arith, less')) (omega (arith, less''))

pub count_replies : (sizes : List ℕ) (entries : List (List Entry)) (dealt : List (List MapOp)) (n : ℕ)
    → length sizes ≡ n → length entries ≡ n → length dealt ≡ n → length (replies_in_each sizes entries dealt) ≡ n
count_replies [] entries dealt n is is' is'' = is
count_replies (before ∷ sizes) [] dealt n is is' is'' = is'
count_replies (before ∷ sizes) (range ∷ entries) [] n is is' is'' = is''
count_replies (before ∷ sizes) (range ∷ entries) (ops ∷ dealt) n is is' is'' =
    let rest = count_replies sizes entries dealt (length sizes) refl (omega (arith, is, is')) (omega (arith, is, is'')) in
    let one : suc (length sizes) ≡ n = is in
    ap suc rest ∙ one

-- operations that do the same to each range leave the same
pub same_left : (entries : List (List Entry)) (some others : List (List MapOp)) → length some ≡ length others
    → ((g : ℕ) → g < length some → (range : List Entry) → map_after range (get_or some g []) ≡ map_after range (get_or others g []))
    → after_by_range after entries some ≡ after_by_range after entries others
same_left [] some others count same = refl
same_left (range ∷ entries) [] [] count same = refl
same_left (range ∷ entries) [] (ops ∷ others) count same = absurd (omega (arith, count))
same_left (range ∷ entries) (ops ∷ some) [] count same = absurd (omega (arith, count))
same_left (range ∷ entries) (ops ∷ some) (ops' ∷ others) count same =
    ap₂ (λ first rest. first ∷ rest) (same 0 (omega arith) range)
    (same_left entries some others (omega (arith, count)) (λ g less range. same (suc g) (omega (arith, less)) range))
