-- The law of batches: after the pieces, the shards form the bag with all inserts, and each can give as many items as
-- there are takes.
use Rattle.std.proofs.Common.{◌≡◌, ℕ, ◌+◌, List, [], ◌∷◌, ◌++◌, length, refl, ap, sym, subst, arith}
use Rattle.seq_objects.specs.Orders.{Ascends, copies}
use Rattle.seq_objects.specs.Pieces.{AllMeet, BatchContext}
use Rattle.seq_objects.specs.Serial.{of_bag, after_all, replies_to_all}
use Rattle.batched_pq.specs.declared.piece.Piece.{Piece}
use Rattle.batched_pq.specs.declared.piece.Rest.{Rest}
use Rattle.batched_pq.specs.Code.Bags.{with_items}
use Rattle.batched_pq.specs.Shards.{ShardView, all_of, items_of, bag_of}
use Rattle.batched_pq.specs.Code.End.{CanGive, AllCanGive}
use Rattle.batched_pq.specs.Calls.{inserts_of, takes_of}
use Rattle.batched_pq.specs.Code.End.{take_replies, after_takes, insert_replies}
use Rattle.batched_pq.specs.Pieces.{ArePieces, shards_in, Meets, IsContextOf}
use Rattle.seq_objects.proofs.Bags.{same_bag}
use Rattle.batched_pq.proofs.Bags.{copies_append, copies_in_order, copies_with_items, ascends_in_order, ascends_with_items}
use Rattle.batched_pq.proofs.BeginLemmas.Dealing.{inserts_in, copies_dealt, pieces_count}
use Rattle.batched_pq.proofs.Serial.{serial_replies, serial_after}

copies_met : (n : ℕ) (ins : List Piece) (outs : List ShardView) → AllMeet Meets ins outs
    → copies n (items_of outs) ≡ copies n (items_of (shards_in ins)) + copies n (inserts_in ins)
copies_met n [] [] met = refl
copies_met n [] (out ∷ outs) met = absurd met
copies_met n (piece ∷ ins) [] met = absurd met
copies_met n (piece ∷ ins) (out ∷ outs) met =
    omega (arith, met.0.items n, copies_met n ins outs met.1, copies_append n (all_of out) (items_of outs), copies_append n (all_of piece.shard) (items_of (shards_in ins)), copies_append n piece.inserts.items (inserts_in ins), copies_append n (all_of piece.shard) piece.inserts.items)

able_met : (shard : ℕ) (inserts : List ℕ) (takes : ℕ) (ins : List Piece) (outs : List ShardView)
    → ArePieces shard inserts takes ins → AllMeet Meets ins outs → AllCanGive takes outs
able_met shard inserts takes [] [] dealt met = tt
able_met shard inserts takes [] (out ∷ outs) dealt met = absurd met
able_met shard inserts takes (piece ∷ ins) [] dealt met = absurd met
able_met shard inserts takes (piece ∷ ins) (out ∷ outs) dealt met =
    (record { ascends = met.0.ascends; least = met.0.least; enough = rw dealt.1 at met.0.enough }, able_met (shard + 1) inserts takes ins outs dealt.2 met.1)

pub able : (rest : Rest) (o : BatchContext (List ℕ) Piece) (outs : List ShardView)
    → IsContextOf rest o → AllMeet Meets o.ins outs → AllCanGive rest.takes outs
able rest o outs kept met = rw kept.takes (able_met 0 (inserts_of o.calls) (takes_of o.calls) o.ins outs kept.cut.pieces met)

same_length : (ins : List Piece) (outs : List ShardView) → AllMeet Meets ins outs
    → length outs ≡ length ins
same_length [] [] met = refl
same_length [] (out ∷ outs) met = absurd met
same_length (piece ∷ ins) [] met = absurd met
same_length (piece ∷ ins) (out ∷ outs) met = omega (arith, same_length ins outs met.1)

pub eight : (rest : Rest) (o : BatchContext (List ℕ) Piece) (outs : List ShardView)
    → IsContextOf rest o → AllMeet Meets o.ins outs → length outs ≡ 8
eight rest o outs kept met = omega (arith, same_length o.ins outs met, pieces_count 0 (inserts_of o.calls) (takes_of o.calls) o.ins kept.cut.pieces)

-- after the pieces, the shards form the bag with all inserts
pub whole : (rest : Rest) (o : BatchContext (List ℕ) Piece) (outs : List ShardView)
    → IsContextOf rest o → AllMeet Meets o.ins outs
    → bag_of outs ≡ with_items (inserts_of o.calls) o.before
whole rest o outs kept met =
    same_bag (bag_of outs) (with_items (inserts_of o.calls) o.before) (ascends_in_order (items_of outs))
    (ascends_with_items (inserts_of o.calls) o.before (subst (λ (bag : List ℕ). Ascends bag) kept.cut.holds (ascends_in_order (items_of (shards_in o.ins)))))
    (λ n. omega (arith, copies_in_order n (items_of outs), copies_met n o.ins outs met, copies_dealt n (inserts_of o.calls) (takes_of o.calls) o.ins kept.cut.pieces, copies_with_items n (inserts_of o.calls) o.before, copies_in_order n (items_of (shards_in o.ins)), ap (λ (bag : List ℕ). copies n bag) kept.cut.holds))

pub law_replies : (rest : Rest) (o : BatchContext (List ℕ) Piece) (outs : List ShardView)
    → IsContextOf rest o → AllMeet Meets o.ins outs
    → insert_replies rest.inserts ++ take_replies rest.takes (bag_of outs) ≡ replies_to_all (of_bag o.before) o.calls
law_replies rest o outs kept met =
    rw (kept.inserts, kept.takes, whole rest o outs kept met) (sym (serial_replies o.before o.calls kept.may kept.batch.order))

pub law_content : (rest : Rest) (o : BatchContext (List ℕ) Piece) (outs : List ShardView)
    → IsContextOf rest o → AllMeet Meets o.ins outs
    → of_bag (after_takes rest.takes (bag_of outs)) ≡ after_all (of_bag o.before) o.calls
law_content rest o outs kept met =
    rw (kept.takes, whole rest o outs kept met) (sym (serial_after o.before o.calls kept.may kept.batch.order))

-- a prepared shard meets its piece
pub prepared : (piece : Piece) (out : ShardView) → Ascends (all_of piece.shard)
    → all_of out ≡ with_items piece.inserts.items (all_of piece.shard) → CanGive piece.takes out
    → Meets piece out
prepared piece out up whole ready = record {
  items = λ n. omega (arith, ap (λ (xs : List ℕ). copies n xs) whole, copies_with_items n piece.inserts.items (all_of piece.shard), copies_append n (all_of piece.shard) piece.inserts.items);
  ascends = ready.ascends;
  least = ready.least;
  enough = ready.enough;
}
