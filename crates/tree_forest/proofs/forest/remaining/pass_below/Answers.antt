use Rattle.std.proofs.Common.{refl, ap, ◌∙◌}
use Rattle.tree23.specs.declared.trees.Trees.{Trees}
use Rattle.tree_forest.proofs.ForestLemmas.Passing.{pass_none, pass_one, pass_all, pass_keys}
use Rattle.tree_forest.proofs.forest.remaining.pass_below.Goals as goal

pub loop-entry-init : goal.loop-entry-init
loop-entry-init c =
    pass_none c.args.key c.args.sides.now.high c.replace-rooted.result
    (record { front = c.empty.result; entries = c.in_ok-take_entries.field-0 })
    (record { front = c.replace-rooted.new.dest; entries = c.args.sides.now.high.entries })
    c.requires.trees c.replace-rooted.ensures.value c.empty.ensures.rooted c.empty.ensures.keys c.in_ok-take_entries.ensures
    (rw c.replace-rooted.ensures.after c.empty-2.ensures.rooted) (ap (λ p. p.tree) c.replace-rooted.ensures.after ∙ c.empty-2.ensures.keys) refl

pub loop-entry-preserved : goal.loop-entry-preserved
loop-entry-preserved c =
    let l = c.loop-entry in
    let done = c.in_ok-put_low.ensures in
    pass_one _ _ l.rooted l.sides c.put_low.new.self c.in-Some.entry (record { front = l.sides.high.front; entries = c.pop_below.new.entries })
    c.requires.set l.invariant refl c.in-Some.ensures.taken c.in-Some.ensures.below done.trees done.keys done.before done.high

pub returns : goal.returns
returns c =
    let l = c.loop-entry in
    let left : Trees = record { front = l.sides.high.front; entries = c.pop_below.new.entries } in
    record {
      sides = pass_all _ _ l.rooted l.sides left c.requires.set l.invariant refl c.in_default.ensures.taken (λ e others is. c.pop_below.ensures.stays e others c.in_default.is is);
      keys = pass_keys _ _ l.rooted l.sides left l.invariant refl c.in_default.ensures.taken;
      rooted = l.invariant.part_is;
    }
