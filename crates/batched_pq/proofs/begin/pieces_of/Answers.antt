use Rattle.std.proofs.Common.{◌≡◌, List, [], ◌∷◌, ◌++◌, length, refl, ap, ◌∙◌, arith, append_assoc, append-nil}
use Rattle.std.proofs.lemmas.Grind.{common_steps}
use Rattle.batched_pq.specs.declared.piece.Piece.{Piece}
use Rattle.batched_pq.specs.Shards.{ShardView}
use Rattle.batched_pq.proofs.BeginLemmas.Dealing.{shards_push}
use Rattle.batched_pq.proofs.begin.pieces_of.Goals as goal

pub loop-shard-preserved : goal.loop-shard-preserved
loop-shard-preserved c =
    let i = c.loop-shard.invariant in
    let piece : Piece = record { shard = c.in-Some.shard; inserts = c.in_ok-own.own; takes = c.args.takes } in
    record {
      all = grind (arith, common_steps, c.in-Some.ensures.steps, i.all);
      number = grind (arith, common_steps, i.number);
      shards = rw c.in_ok-push.ensures.items (shards_push c.loop-shard.pieces.items piece ∙ ap (λ (shards : List ShardView). shards ++ c.in-Some.shard ∷ []) i.shards);
      pieces = λ more dealt. rw (c.in_ok-push.ensures.items, append_assoc) (i.pieces (piece ∷ more) (c.in_ok-own.ensures, refl, dealt));
    }

pub returns-clause-pieces : goal.returns-clause-pieces
returns-clause-pieces c =
    let i = c.loop-shard.invariant in
    let all : c.loop-shard.yielded ≡ c.args.shards.items = grind (arith, common_steps, c.in-None.ensures.steps, i.all, c.into_iter-shard-iterator.ensures.into_iter_gives) in
    rw append-nil at (i.pieces [] (omega (arith, i.number, c.requires, ap (λ (shards : List ShardView). length shards) all)))
