use Rattle.std.proofs.Common.{◌∙◌, Option as Maybe, ap, length, arith}
use Rattle.sp_order.specs.Jobs.{job_tree}
use Rattle.sp_order.specs.Preorder.{nodes_of}
use Rattle.std.proofs.Common.{inl}
use Rattle.core_model.specs.Operations.{Place, or_else, place_in}
use Rattle.core_model.proofs.BookLemmas.CallsIn.{call_within}
use Rattle.core_model.specs.Settings.{job_with}
use Rattle.table_rule.proofs.laws.laws_hold.Goals as goal

pub returns : goal.returns
returns c work key few leaves short sources =
    let job = job_with work key in
    let stands = c.plan_stands_for_tree.ensures (job_tree key.job) in
    let plan = c.plan_has_sides.ensures (nodes_of (job_tree key.job)) (job_tree key.job) stands in
    let root = (c.plan_has_root.ensures (nodes_of (job_tree key.job)) (job_tree key.job) stands).0 in record {
      plan = plan;
      keeps = λ old new worker event parts happens. c.event_keeps_parts.ensures.event job old new worker event plan parts happens;
      waits = λ old new worker event waiter since parts happens trapped waits. c.event_keeps_waits.ensures job old new worker event waiter since plan parts happens trapped waits;
      now = λ s waiter parts trapped. c.trapped_waits_from_now.ensures job s waiter parts trapped;
      ticks = λ s parts. c.tick_is_at_most_two_a_node.ensures job s plan parts;
      few = few;
      mark = λ s w p l r n parts task kind side. c.mark_before_arrival_is_below_two.ensures job s w p l r n plan parts task kind side;
      batches = λ s parts. c.calls_have_room.ensures.batches job s parts;
      room = λ s workers parts distinct unserved. (c.calls_have_room.ensures.tree work key.job key.workers s workers leaves parts distinct unserved).0;
      untaken = λ old new worker parts happens. c.publish_adds_the_taken_call.ensures.untaken job old new worker plan parts happens;
      taken = λ old new worker parts happens. c.publish_adds_the_taken_call.ensures.taken job old new worker plan parts happens;
      receipt = λ s worker node leaf op receipt parts served started is. c.receipt_is_of_the_own_entry.ensures job s worker node leaf op receipt parts (inl served) started is;
      sources = sources;
      source = λ s worker node leaf source parts started from. c.started_leaf_has_its_source.ensures job s worker node leaf source sources parts started from;
      values = λ book batch leaf value is. c.operations_stay.ensures.values job book batch leaf value is;
      operations = λ book batch leaf op is. c.operations_stay.ensures.longer job book batch leaf op is;
      places = λ book batch leaf place at. c.entries_are_found_at_their_places.ensures.longer book batch leaf ∙ ap (λ (o : Maybe Place). or_else o (place_in (length book) 0 batch leaf)) at;
      low = λ leaf call. let within = call_within key.job.acts leaf call in omega (arith, within, short);
      ended = λ s parts done. (c.done_root_ends_all.ensures job (job_tree key.job) s stands parts done).3;
      opening = c.opening_has_parts.ensures job plan root;
      root = plan.within 0 root;
      second = λ n p after. c.moves_tell_sides.ensures.second job.plan n p plan after;
      parent = λ n p after. c.moves_tell_sides.ensures.parent job.plan n p plan after;
      arrive = λ n p after. c.moves_tell_sides.ensures.arrive job.plan n p plan after;
    }
