use Rattle.std.proofs.Common.{◌≡◌, ◌+◌, ◌++◌, length, take}
use Rattle.job_syntax.specs.Grammar.{items_words}
use Rattle.job_syntax.specs.Views.{items_of, item_of}
use Rattle.job_lang.proofs.Weights.{weight}
use Rattle.leaf_places.specs.Code.Walk.{places_from}
use Rattle.leaf_places.proofs.walk.+walking.Given as goal

abbrev pub invariant-push_items-loop-item : goal.invariant-push_items-loop-item
invariant-push_items-loop-item l = record {
  begin : l.begin ≡ l.first + length (items_words (items_of (take l.item-index l.items)));
  made : l.places.items ≡ l.initial.places.items ++ places_from l.lines l.first (items_of (take l.item-index l.items));
}

abbrev pub decreases-push_items : goal.decreases-push_items
decreases-push_items l = weight (items_of l.items.now) + 1

abbrev pub decreases-push_item : goal.decreases-push_item
decreases-push_item l = weight (item_of l.item.now)

abbrev pub decreases-push_block : goal.decreases-push_block
decreases-push_block l = weight (items_of l.inside.now) + 3

abbrev pub decreases-push_loop : goal.decreases-push_loop
decreases-push_loop l = weight (items_of l.items.now) + 2
