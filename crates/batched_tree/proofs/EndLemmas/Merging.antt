-- One more call has the next reply of its piece.
use Rattle.std.proofs.Common.{◌≡◌, ℕ, ◌+◌, ◌<◌, List, [], ◌∷◌, ◌++◌, length, get_or, drop, slice_get, refl, ◌∙◌, append_assoc, add-one, drop-cons}
use Rattle.std.proofs.Math.ListN.{set}
use Rattle.std.specs.List.{AllByRecursion}
use Rattle.std.specs.Option.{unwrap_or}
use Rattle.std.proofs.lemmas.List.{get_or_default, length-set}
use Rattle.seq_objects.specs.declared.reply.Reply.{Reply}
use Rattle.seq_objects.specs.declared.reply.Reply.TheVariants.{Empty}
use Rattle.batched_tree.specs.Code.End.{merged_replies}

pub first_or_empty : (replies : List Reply)
    → unwrap_or (slice_get replies 0) Empty ≡ get_or replies 0 Empty
first_or_empty [] = refl
first_or_empty (reply ∷ replies) = refl

pub drop_here : (groups : List ℕ) (i : ℕ) → i < length groups
    → drop i groups ≡ get_or groups i 0 ∷ drop (i + 1) groups
drop_here groups i less = rw (add-one, drop-cons groups i 0)

pub merged_more : (groups : List ℕ) (i : ℕ) (left : List (List Reply)) (before all own : List Reply)
    → i < length groups → AllByRecursion (λ group. group < length left) (drop i groups)
    → own ≡ get_or left (get_or groups i 0) own → before ++ merged_replies (drop i groups) left ≡ all
    → (before ++ get_or own 0 Empty ∷ []) ++ merged_replies (drop (i + 1) groups) (set left (get_or groups i 0) (drop 1 own)) ≡ all
merged_more groups i left before all own less within is told =
    let here = drop_here groups i less in
    let each = rw here at within in
    let piece : own ≡ get_or left (get_or groups i 0) [] = is ∙ get_or_default left (get_or groups i 0) own [] each.0 in
    let told' = rw here at told in
    rw (append_assoc, piece) told'

pub within_more : (groups : List ℕ) (i : ℕ) (left : List (List Reply)) (piece : List Reply)
    → i < length groups → AllByRecursion (λ group. group < length left) (drop i groups)
    → AllByRecursion (λ group. group < length (set left (get_or groups i 0) piece)) (drop (i + 1) groups)
within_more groups i left piece less within =
    let here = drop_here groups i less in
    let each = rw here at within in
    rw (length-set left (get_or groups i 0) piece) each.1
