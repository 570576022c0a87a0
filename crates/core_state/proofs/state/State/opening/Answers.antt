use Rattle.std.proofs.Common.{length, refl, ap, ◌∙◌}
use Rattle.std.proofs.lemmas.List.{length-replicate}
use Rattle.core_model.specs.State.{opening_state}
use Rattle.core_state.specs.Abstraction.{state_of, ready_of}
use Rattle.ready_lists.proofs.PlaceLemmas.Copies.{copied}
use Rattle.core_state.proofs.state.State.opening.Goals as goal

pub returns-clause-sizes : goal.returns-clause-sizes
returns-clause-sizes c = record {
  nodes_len = c.in_ok-opening_nodes.ensures.len;
  marks_len = ap length c.in_ok-copies.ensures ∙ length-replicate c.args.nodes _;
  values_len = ap length c.in_ok-copies-2.ensures ∙ length-replicate c.args.nodes _;
  tasks_len = ap length c.in_ok-copies-3.ensures ∙ length-replicate c.args.workers _;
  statuses_len = ap length c.in_ok-copies-4.ensures ∙ length-replicate c.args.workers _;
  calls_len = ap length c.in_ok-copies-5.ensures ∙ length-replicate c.args.workers _;
  ready_len = c.in_ok-opening.ensures.len;
}

pub returns-clause-state : goal.returns-clause-state
unfolding state_of opening_state
returns-clause-state c =
    let marks = copied _ c.args.nodes _ c.in_ok-copies.ensures in
    let values = copied _ c.args.nodes _ c.in_ok-copies-2.ensures in
    let tasks = copied _ c.args.workers _ c.in_ok-copies-3.ensures in
    let statuses = copied _ c.args.workers _ c.in_ok-copies-4.ensures in
    let calls = copied _ c.args.workers _ c.in_ok-copies-5.ensures in
    rw (c.in_ok-opening_nodes.ensures.items, marks, values, tasks, statuses, calls, c.in_ok-new.ensures) refl

pub returns-clause-lists : goal.returns-clause-lists
unfolding ready_of
returns-clause-lists c = c.in_ok-opening.ensures.lists
