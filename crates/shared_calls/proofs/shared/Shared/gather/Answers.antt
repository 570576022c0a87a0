use Rattle.std.proofs.Common.{◌≡◌, sym, ap, ◌∙◌, subst, ℕ, ◌++◌, ◌∷◌, [], length, append_assoc, arith}
use Rattle.std.proofs.lemmas.List.{length_push}
use Rattle.shared_calls.specs.Plays.{gathering}
use Rattle.shared_calls.specs.Closing.{AreFrom}
use Rattle.shared_calls.proofs.Closings.{from_all, gathers_first, gathers_next, joins_next}
use Rattle.shared_calls.proofs.shared.Shared.gather.Goals as goal

pub loop-caller-init : goal.loop-caller-init
loop-caller-init g c =
    let s = c.args.self.now in
    let first = c.in-Some.first in
    let all : c.args.callers.items ≡ first ∷ c.into_iter-caller-iterator.result.rest.items = sym c.into_iter-rest.ensures.rest ∙ (c.in-Some.ensures.items ∙ ap (λ i. first ∷ i.rest.items) (sym c.into_iter-caller-iterator.ensures.into_iter_gives)) in
    let from = subst (AreFrom s 0) all (from_all s c.args.callers.items c.requires.callers) in record {
      table = c.retire-seat.ensures.table;
      done = first ∷ [];
      are = sym all;
      some = omega arith;
      left = from.2;
      gathers = gathers_first first c.retire-seat.result.me.0 (ap (λ m. m.0) c.retire-seat.ensures.retired) from.1 c.retire-seat.ensures.idle;
    }

pub join_seat-requires : goal.join_seat-requires
join_seat-requires g c =
    let s = c.args.self.now in
    let sized = s.sized.0 in
    let i = c.loop-caller.invariant in
    let left = subst (AreFrom s (length i.done)) c.in-Some-caller.ensures.steps.0 i.left in (
      i.table,
      c.retire-next.ensures.table,
      ap (λ m. m.1) c.retire-next.ensures.retired,
      omega (arith, sized),
      joins_next g.T.Combined.object g.T.Combined.content g.T.Combined.fails s.table.shared.key _ _ i.done c.in-Some-caller.caller c.loop-caller.seat.me.0 c.retire-next.result.me.0 i.gathers (ap (λ m. m.0) c.retire-next.ensures.retired) c.retire-next.ensures.idle left.1 i.some,
    )

pub loop-caller-preserved : goal.loop-caller-preserved
loop-caller-preserved g c =
    let s = c.args.self.now in
    let i = c.loop-caller.invariant in
    let caller = c.in-Some-caller.caller in
    let rest = c.next-in-loop-caller.new.self.rest.items in
    let left = subst (AreFrom s (length i.done)) c.in-Some-caller.ensures.steps.0 i.left in
    let some = i.some in
    let long = length_push i.done caller in record {
      table = c.join_seat.ensures.0 ∙ i.table;
      done = i.done ++ caller ∷ [];
      are = append_assoc i.done (caller ∷ []) rest ∙ (ap (λ l. i.done ++ l) (sym c.in-Some-caller.ensures.steps.0) ∙ i.are);
      some = omega (arith, some, long);
      left = subst (λ (n : ℕ). AreFrom s n rest) (omega (arith, long)) left.2;
      gathers = gathers_next i.done caller c.loop-caller.seat.me.0 c.join_seat.new.seat.me.0 i.gathers
          (ap (λ m. m.0) c.join_seat.ensures.2 ∙ ap (λ m. gathering c.loop-caller.seat.me.0 m.0) c.retire-next.ensures.retired) left.1;
    }
