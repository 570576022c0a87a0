-- The outs of the pieces give the replies and the content of serving the calls one after another.
use Rattle.std.proofs.Common.{◌≡◌, ℕ, ◌+◌, ◌<◌, ◌≤◌, inl, inr, Bool, true, false, not, cond, nat_lt, List, [], ◌∷◌, ◌++◌, map, filter, length, get_or, drop, slice_get, None, refl, ap, sym, ◌∙◌, append-nil, arith}
use Rattle.std.proofs.Math.ListN.{set}
use Rattle.std.specs.List.{AllByRecursion}
use Rattle.std.specs.declared.option.Option.{Option}
use Rattle.std.proofs.lemmas.Bool.Decides.{nat_tests}
use Rattle.key_sets.specs.Keys.{StrictlyAscends, AllBelow}
use Rattle.key_sets.specs.Splits.{below, from}
use Rattle.key_sets.specs.Groups.{starts_of, group_of}
use Rattle.key_sets.proofs.Filters.{all_filter, all_passed}
use Rattle.key_sets.proofs.KeyLemmas.Ascending.{all_map}
use Rattle.key_sets.proofs.KeyLemmas.Sides.{is_less, is_not_less, all_below, all_from, both_sides, ascends_from}
use Rattle.seq_objects.specs.declared.op.Op.{Op}
use Rattle.batched_tree.specs.Code.Sides.{calls_below, calls_from}
use Rattle.seq_objects.specs.declared.op.Op.TheVariants.{TreeNext}
use Rattle.seq_objects.specs.declared.call.Call.{Call}
use Rattle.seq_objects.specs.declared.reply.Reply.{Reply}
use Rattle.seq_objects.specs.declared.reply.Reply.TheVariants.{Number, Unit as Done, Empty, Yes, No}
use Rattle.seq_objects.specs.Objects.{Objects, after, reply_to, argument_of}
use Rattle.seq_objects.specs.BatchOrder.{ComesFirst}
use Rattle.seq_objects.specs.Pairs.{AllPairsByRecursion}
use Rattle.seq_objects.specs.declared.kind.Kind.TheVariants.{Tree}
use Rattle.seq_objects.specs.Batches.{AreInBatchOrder, AreOf, kind_of}
use Rattle.seq_objects.specs.Serial.{of_set, after_all, replies_to_all}
use Rattle.seq_objects.specs.Pieces.{AllMeet, BatchContext}
use Rattle.batched_tree.specs.declared.piece.Piece.{Piece}
use Rattle.batched_tree.specs.declared.piece.Served.{Served}
use Rattle.batched_tree.specs.declared.piece.Rest.{Rest}
use Rattle.batched_tree.specs.Calls.{key_of}
use Rattle.batched_tree.specs.Replies.{or_beyond, reply_within, replies_within}
use Rattle.batched_tree.specs.Pieces.{Meets, IsContextOf}
use Rattle.batched_tree.specs.Code.Begin.{IsCutPiece, AreCutPieces}
use Rattle.batched_tree.specs.Code.End.{merged_replies, replies_of, joined_keys, CanJoin}
use Rattle.batched_tree.proofs.BeginLemmas.Cuts.{some_key}
use Rattle.batched_tree.proofs.BeginLemmas.Dealing.{groups_within}
use Rattle.batched_tree.proofs.BeginLemmas.Ranges.{cut_pieces}
use Rattle.batched_tree.proofs.ServeLemmas.Halves.{shared, halves_replies, halves_after, set_after, kept}
use Rattle.std.proofs.lemmas.Bool.{cases_lt}

-- the first piece has the calls below the first start, and the other pieces have the remaining calls
merged_split : (b : ℕ) (starts : List ℕ) (calls : List Call) (q : List Reply) (qs : List (List Reply))
    → merged_replies (map (λ call. group_of (key_of call) (b ∷ starts)) calls) (q ∷ qs) ≡ shared b calls q (merged_replies (map (λ call. group_of (key_of call) starts) (calls_from b calls)) qs)
merged_split b starts [] q qs = refl
merged_split b starts (call ∷ calls) q qs = elim (cases_lt (key_of call) b) [
  | inl less ↦
      let test : nat_lt (argument_of call.op) b ≡ true = grind (arith, nat_tests) in
      rw test (ap (λ rs. get_or q 0 Empty ∷ rs) (merged_split b starts calls (drop 1 q) qs))
  | inr le ↦
      let test : nat_lt (argument_of call.op) b ≡ false = grind (arith, nat_tests) in
      let group = group_of (key_of call) starts in
      rw test (ap (λ rs. get_or (get_or qs group []) 0 Empty ∷ rs) (merged_split b starts calls q (set qs group (drop 1 (get_or qs group [])))))
]

merged_alone : (objects : Objects) (calls : List Call)
    → merged_replies (map (λ call. group_of (key_of call) []) calls) (replies_to_all objects calls ∷ []) ≡ replies_to_all objects calls
merged_alone objects [] = refl
merged_alone objects (call ∷ calls) = ap (λ rs. reply_to objects call.op ∷ rs) (merged_alone (after objects call.op) calls)

-- without a key beyond its range, a piece gives the serial replies
or_none : (reply : Reply) → or_beyond reply None ≡ reply
or_none (Number number) = refl
or_none Done = refl
or_none Empty = refl
or_none Yes = refl
or_none No = refl

within_none : (op : Op) (reply : Reply) → reply_within None op reply ≡ reply
within_none (TreeNext number key) reply = or_none reply
within_none _ reply = refl

replies_none : (objects : Objects) (calls : List Call)
    → replies_within None objects calls ≡ replies_to_all objects calls
replies_none objects [] = refl
replies_none objects (call ∷ calls) = rw (within_none call.op (reply_to objects call.op), replies_none (after objects call.op) calls) refl

-- filtering calls keeps the order of the others
pairs_filter : (R : Call → Call → Type 0) (test : Call → Bool) (calls : List Call)
    → AllPairsByRecursion R calls → AllPairsByRecursion R (filter test calls)
pairs_filter R test [] each = tt
pairs_filter R test (call ∷ calls) each = step (test call) (pairs_filter R test calls each.1) where
  step : (t : Bool) → AllPairsByRecursion R (filter test calls)
      → AllPairsByRecursion R (cond t (call ∷ filter test calls) (filter test calls))
  step true rest = (all_filter (λ later. R call later) test calls each.0, rest)
  step false rest = rest

order_from : (b : ℕ) (calls : List Call) → AreInBatchOrder calls
    → AreInBatchOrder (calls_from b calls)
order_from b calls order = pairs_filter (λ first second. ComesFirst first.op first.worker second.op second.worker) (λ call. not (nat_lt (key_of call) b)) calls order

tree_below : (b : ℕ) (calls : List Call) → AreOf Tree calls → AreOf Tree (calls_below b calls)
tree_below b calls tree = all_filter (λ call. kind_of call.op ≡ Tree) (λ call. nat_lt (key_of call) b) calls tree

tree_from : (b : ℕ) (calls : List Call) → AreOf Tree calls → AreOf Tree (calls_from b calls)
tree_from b calls tree = all_filter (λ call. kind_of call.op ≡ Tree) (λ call. not (nat_lt (key_of call) b)) calls tree

-- the out that a piece owes, in terms of the whole set and all calls
no_more : (ins : List Piece) (outs : List Served) → ins ≡ [] → AllMeet Meets ins outs → outs ≡ []
no_more [] [] none meet = refl
no_more [] (out ∷ outs) none meet = absurd meet
no_more (piece ∷ ins) outs none meet = absurd (cc)

owed_replies : (set : List ℕ) (calls : List Call) (beyond : Option ℕ) (piece : Piece) (out : Served)
    → IsCutPiece set calls beyond piece → Meets piece out
    → out.replies.items ≡ replies_within beyond (of_set set) calls
owed_replies set calls beyond piece out is meet = rw (is.keys_are, is.calls_are, is.beyond_is) at meet.replies

owed_keys : (set : List ℕ) (calls : List Call) (beyond : Option ℕ) (piece : Piece) (out : Served)
    → IsCutPiece set calls beyond piece → Meets piece out
    → out.forest.keys ≡ (after_all (of_set set) calls).set
owed_keys set calls beyond piece out is meet = rw (is.keys_are, is.calls_are) at meet.keys

pieces_replies : (starts set : List ℕ) (calls : List Call) (ins : List Piece) (outs : List Served)
    → StrictlyAscends set → AreOf Tree calls → AreInBatchOrder calls
    → AreCutPieces set calls starts ins → AllMeet Meets ins outs → merged_replies (map (λ call. group_of (key_of call) starts) calls) (replies_of outs) ≡ replies_to_all (of_set set) calls
pieces_replies [] set calls [] outs up tree order pieces meet = absurd pieces
pieces_replies (b ∷ starts) set calls [] outs up tree order pieces meet = absurd pieces
pieces_replies [] set calls (piece ∷ ins) [] up tree order pieces meet = absurd meet
pieces_replies (b ∷ starts) set calls (piece ∷ ins) [] up tree order pieces meet = absurd meet
pieces_replies [] set calls (piece ∷ ins) (out ∷ outs) up tree order pieces meet =
    let none : outs ≡ [] = no_more ins outs pieces.1 meet.1 in
    let own : out.replies.items ≡ replies_to_all (of_set set) calls = owed_replies set calls None piece out pieces.0 meet.0 ∙ replies_none (of_set set) calls in
    rw (own, none) (merged_alone (of_set set) calls)
pieces_replies (b ∷ starts) set calls (piece ∷ ins) (out ∷ outs) up tree order pieces meet =
    let low = below b set in
    let high = from b set in
    let own : out.replies.items ≡ replies_within (slice_get high 0) (of_set low) (calls_below b calls) = owed_replies low (calls_below b calls) (slice_get high 0) piece out pieces.0 meet.0 in
    let rest = pieces_replies starts high (calls_from b calls) ins outs (ascends_from b set up) (tree_from b calls tree) (order_from b calls order) pieces.1 meet.1 in
    let law = halves_replies b calls low high (slice_get high 0) tree order (all_below b set) (all_from b set) (inl refl) in
    let both : replies_to_all (of_set set) calls ≡ replies_to_all (of_set (low ++ high)) calls = ap (λ keys. replies_to_all (of_set keys) calls) (both_sides b set up) in
    let split = merged_split b starts calls out.replies.items (replies_of outs) in
    let joined_law : shared b calls out.replies.items (merged_replies (map (λ call. group_of (key_of call) starts) (calls_from b calls)) (replies_of outs)) ≡ replies_to_all (of_set (low ++ high)) calls = rw (own, rest) (sym law) in
    split ∙ joined_law ∙ sym both

pieces_after : (starts set : List ℕ) (calls : List Call) (ins : List Piece) (outs : List Served)
    → StrictlyAscends set → AreOf Tree calls
    → AreCutPieces set calls starts ins → AllMeet Meets ins outs → after_all (of_set set) calls ≡ of_set (joined_keys outs)
pieces_after [] set calls [] outs up tree pieces meet = absurd pieces
pieces_after (b ∷ starts) set calls [] outs up tree pieces meet = absurd pieces
pieces_after [] set calls (piece ∷ ins) [] up tree pieces meet = absurd meet
pieces_after (b ∷ starts) set calls (piece ∷ ins) [] up tree pieces meet = absurd meet
pieces_after [] set calls (piece ∷ ins) (out ∷ outs) up tree pieces meet =
    let none : outs ≡ [] = no_more ins outs pieces.1 meet.1 in
    let own = owed_keys set calls None piece out pieces.0 meet.0 in
    let whole : joined_keys (out ∷ outs) ≡ (after_all (of_set set) calls).set = rw none (append-nil out.forest.keys ∙ own) in
    set_after set calls tree ∙ ap of_set (sym whole)
pieces_after (b ∷ starts) set calls (piece ∷ ins) (out ∷ outs) up tree pieces meet =
    let low = below b set in
    let high = from b set in
    let own = owed_keys low (calls_below b calls) (slice_get high 0) piece out pieces.0 meet.0 in
    let rest = pieces_after starts high (calls_from b calls) ins outs (ascends_from b set up) (tree_from b calls tree) pieces.1 meet.1 in
    let law = halves_after b calls low high tree (all_below b set) (all_from b set) in
    let both : after_all (of_set set) calls ≡ after_all (of_set (low ++ high)) calls = ap (λ keys. after_all (of_set keys) calls) (both_sides b set up) in
    let keys : (after_all (of_set high) (calls_from b calls)).set ≡ joined_keys outs = ap (λ (objects : Objects). objects.set) rest in
    both ∙ rw (own, ← keys) law

-- the keys of the pieces' forests ascend from piece to piece
abbrev IsAbove : List ℕ → ℕ → Type 0
IsAbove set k = AllByRecursion (λ x. x < k) set

all_both : {X : Type 0} (P Q R : X → Type 0) → ((x : X) → P x → Q x → R x) → (xs : List X)
    → AllByRecursion P xs → AllByRecursion Q xs → AllByRecursion R xs
all_both P Q R f [] each each' = tt
all_both P Q R f (x ∷ xs) each each' = (f x each.0 each'.0, all_both P Q R f xs each.1 each'.1)

turned : (low high : List ℕ) → AllByRecursion (IsAbove low) high → AllBelow low high
turned [] high each = tt
turned (k ∷ low) high each = (
  all_map (IsAbove (k ∷ low)) (λ j. k < j) (λ j above. above.0) high each,
  turned low high (all_map (IsAbove (k ∷ low)) (IsAbove low) (λ j above. above.1) high each),
)

above_both : (low t : List ℕ) (b k : ℕ) → IsAbove low k → AllByRecursion (λ x. x < b) t → b ≤ k
    → IsAbove (low ++ t) k
above_both [] [] b k above down le = tt
above_both [] (x ∷ t) b k above down le = (omega (arith, down.0, le), above_both [] t b k above down.1 le)
above_both (x ∷ low) t b k above down le = (above.0, above_both low t b k above.1 down le)

can_join : (starts set low : List ℕ) (calls : List Call) (ins : List Piece) (outs : List Served)
    → AreOf Tree calls → AllByRecursion (IsAbove low) set
    → AllByRecursion (λ call. IsAbove low (key_of call)) calls
    → AreCutPieces set calls starts ins → AllMeet Meets ins outs → CanJoin low outs
can_join [] set low calls [] outs tree above keys pieces meet = absurd pieces
can_join (b ∷ starts) set low calls [] outs tree above keys pieces meet = absurd pieces
can_join [] set low calls (piece ∷ ins) [] tree above keys pieces meet = absurd meet
can_join (b ∷ starts) set low calls (piece ∷ ins) [] tree above keys pieces meet = absurd meet
can_join [] set low calls (piece ∷ ins) (out ∷ outs) tree above keys pieces meet =
    let none : outs ≡ [] = no_more ins outs pieces.1 meet.1 in
    let own = owed_keys set calls None piece out pieces.0 meet.0 in
    rw (own, none) (turned low (after_all (of_set set) calls).set (kept (IsAbove low) set calls tree keys above), tt)
can_join (b ∷ starts) set low calls (piece ∷ ins) (out ∷ outs) tree above keys pieces meet =
    let own = owed_keys (below b set) (calls_below b calls) (slice_get (from b set) 0) piece out pieces.0 meet.0 in
    let mine = tree_below b calls tree in
    let all = kept (IsAbove low) (below b set) (calls_below b calls) mine (all_filter (λ call. IsAbove low (key_of call)) (λ call. nat_lt (key_of call) b) calls keys) (all_filter (IsAbove low) (λ k. nat_lt k b) set above) in
    let keys_down = all_passed (λ call. key_of call < b) (λ call. nat_lt (key_of call) b) (λ call is. is_less (key_of call) b is) calls in
    let down = kept (λ k. k < b) (below b set) (calls_below b calls) mine keys_down (all_below b set) in
    let keys_up = all_passed (λ call. b ≤ key_of call) (λ call. not (nat_lt (key_of call) b)) (λ call is. is_not_less (key_of call) b is) calls in
    let t = (after_all (of_set (below b set)) (calls_below b calls)).set in
    let above' = all_both (IsAbove low) (λ k. b ≤ k) (IsAbove (low ++ t)) (λ k a le. above_both low t b k a down le) (from b set) (all_filter (IsAbove low) (λ k. not (nat_lt k b)) set above) (all_from b set) in
    let keys' = all_both (λ (call : Call). IsAbove low (key_of call)) (λ call. b ≤ key_of call) (λ call. IsAbove (low ++ t) (key_of call)) (λ call a le. above_both low t b (key_of call) a down le) (calls_from b calls) (all_filter (λ call. IsAbove low (key_of call)) (λ call. not (nat_lt (key_of call) b)) calls keys) keys_up in
    rw own (turned low t all, can_join starts (from b set) (low ++ t) (calls_from b calls) ins outs (tree_from b calls tree) above' keys' pieces.1 meet.1)

-- each call has a piece
length_parts : (starts set : List ℕ) (calls : List Call) (ins : List Piece)
    → AreCutPieces set calls starts ins → length ins ≡ length starts + 1
length_parts [] set calls [] pieces = absurd pieces
length_parts (b ∷ starts) set calls [] pieces = absurd pieces
length_parts [] set calls (piece ∷ ins) pieces = rw pieces.1 (omega arith)
length_parts (b ∷ starts) set calls (piece ∷ ins) pieces = omega (arith, length_parts starts (from b set) (calls_from b calls) ins pieces.1)

length_outs : (ins : List Piece) (outs : List Served) → AllMeet Meets ins outs
    → length (replies_of outs) ≡ length ins
length_outs [] [] meet = refl
length_outs [] (out ∷ outs) meet = absurd meet
length_outs (piece ∷ ins) [] meet = absurd meet
length_outs (piece ∷ ins) (out ∷ outs) meet = omega (arith, length_outs ins outs meet.1)

-- the facts that the end relies on
pieces_of : (rest : Rest) (o : BatchContext (List ℕ) Piece) (r : IsContextOf rest o)
    → AreCutPieces o.before o.calls (starts_of r.cut.groups) o.ins
pieces_of rest o r = cut_pieces o.before o.calls o.ins (some_key o.calls r.batch.some) r.cut

pub law_replies : (rest : Rest) (o : BatchContext (List ℕ) Piece) (outs : List Served)
    → IsContextOf rest o → AllMeet Meets o.ins outs
    → merged_replies rest.groups.items (replies_of outs) ≡ replies_to_all (of_set o.before) o.calls
law_replies rest o outs r meet = rw r.groups (pieces_replies (starts_of r.cut.groups) o.before o.calls o.ins outs r.ascends r.may r.batch.order (pieces_of rest o r) meet)

-- the only piece has the replies to all calls
single_replies : (starts set : List ℕ) (calls : List Call) (ins : List Piece) (out : Served)
    → AreCutPieces set calls starts ins → AllMeet Meets ins (out ∷ []) → out.replies.items ≡ replies_to_all (of_set set) calls
single_replies [] set calls [] out pieces meet = absurd pieces
single_replies (b ∷ starts) set calls [] out pieces meet = absurd pieces
single_replies [] set calls (piece ∷ ins) out pieces meet =
    owed_replies set calls None piece out pieces.0 meet.0 ∙ replies_none (of_set set) calls
single_replies (b ∷ starts) set calls (piece ∷ []) out pieces meet = absurd pieces.1
single_replies (b ∷ starts) set calls (piece ∷ other ∷ ins) out pieces meet = absurd meet.1

pub law_single : (rest : Rest) (o : BatchContext (List ℕ) Piece) (outs : List Served)
    → IsContextOf rest o → AllMeet Meets o.ins outs → (out : Served) → outs ≡ out ∷ []
    → out.replies.items ≡ merged_replies rest.groups.items (replies_of outs)
law_single rest o outs r meet out is =
    single_replies (starts_of r.cut.groups) o.before o.calls o.ins out (pieces_of rest o r) (rw is at meet) ∙ sym (law_replies rest o outs r meet)

pub law_content : (rest : Rest) (o : BatchContext (List ℕ) Piece) (outs : List Served)
    → IsContextOf rest o → AllMeet Meets o.ins outs
    → of_set (joined_keys outs) ≡ after_all (of_set o.before) o.calls
law_content rest o outs r meet = sym (pieces_after (starts_of r.cut.groups) o.before o.calls o.ins outs r.ascends r.may (pieces_of rest o r) meet)

above_none : (set : List ℕ) → AllByRecursion (IsAbove []) set
above_none [] = tt
above_none (k ∷ set) = (tt, above_none set)

keys_above_none : (calls : List Call) → AllByRecursion (λ call. IsAbove [] (key_of call)) calls
keys_above_none [] = tt
keys_above_none (call ∷ calls) = (tt, keys_above_none calls)

pub law_can_join : (rest : Rest) (o : BatchContext (List ℕ) Piece) (outs : List Served)
    → IsContextOf rest o → AllMeet Meets o.ins outs → CanJoin [] outs
law_can_join rest o outs r meet = can_join (starts_of r.cut.groups) o.before [] o.calls o.ins outs r.may (above_none o.before) (keys_above_none o.calls) (pieces_of rest o r) meet

pub law_groups : (rest : Rest) (o : BatchContext (List ℕ) Piece) (outs : List Served)
    → IsContextOf rest o → AllMeet Meets o.ins outs
    → AllByRecursion (λ group. group < length (replies_of outs)) rest.groups.items
law_groups rest o outs r meet =
    let starts = starts_of r.cut.groups in
    let less : length starts < length (replies_of outs) = omega (arith, length_parts starts o.before o.calls o.ins (pieces_of rest o r), length_outs o.ins outs meet) in
    rw r.groups (groups_within (length (replies_of outs)) starts o.calls less)
