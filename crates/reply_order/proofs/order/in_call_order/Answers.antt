use Rattle.std.proofs.Common.{◌≡◌, ℕ, map}
use Rattle.std.specs.List.Sorted.{IsPermutation}
use Rattle.std.specs.Prelude.{zip}
use Rattle.std.proofs.Common.{rules}
use Rattle.std.proofs.lemmas.Result.{IfOk-weaker}
use Rattle.std.proofs.lemmas.List.Sorted.{IsNonDecreasingBy-from_sort_by_key}
use Rattle.reply_order.proofs.Placing.{are_in_order}
use Rattle.reply_order.specs.Order.{AreInOrder}
use Rattle.reply_order.proofs.order.in_call_order.Goals as goal

pub returns : goal.returns
returns g c =
    let places = c.args.places.now in
    let replies = c.args.replies.items in
    let pairs = c.sort_unstable_by_key.new.self.items in
    let up = IsNonDecreasingBy-from_sort_by_key (λ (p : ℕ × g.row.R.Denot). p.0) pairs c.sort_unstable_by_key.ensures.sorted (λ a r q k. search rules) in
    let mixed : IsPermutation (zip places replies) pairs = rw c.in_ok-pairs.ensures at c.sort_unstable_by_key.ensures.permutation in
    IfOk-weaker c.without_places.result (λ r. r.items ≡ map (λ (p : ℕ × g.row.R.Denot). p.1) pairs) (λ r. AreInOrder places replies r.items)
    (λ r is. are_in_order places replies pairs r.items c.requires.places c.requires.count mixed up is) c.without_places.ensures
