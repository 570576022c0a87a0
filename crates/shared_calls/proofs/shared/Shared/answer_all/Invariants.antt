use Rattle.std.proofs.Common.{◌≡◌, List, [], ◌∷◌, ◌++◌, map, drop}
use Rattle.shared_calls.specs.declared.view.Entry.{Entry}
use Rattle.shared_calls.specs.Callers.{in_hand, owing}
use Rattle.shared_calls.proofs.shared.Shared.answer_all.Given as goal

abbrev pub invariant-loop-reply : goal.invariant-loop-reply
invariant-loop-reply g l = record {
  table : l.seat.table_id ≡ l.fn.seat.table_id;
  left : List (Entry g.row.T-Op.Denot g.row.T-Reply.Denot);
  callers : map (λ e. e.caller) left ≡ drop l.i l.fn.callers.items;
  replies : map (λ e. e.reply) left ≡ l.reply-iterator.rest.items;
  owed : l.seat.me.0 ≡ owing l.fn.seat.me.0 left;
  slots : (slot : _) → l.fn.seat.me.1 ≡ in_hand l.fn.callers.items ++ slot ∷ [] → l.seat.me.1 ≡ in_hand (map (λ e. e.caller) left) ++ slot ∷ [];
}
