use Rattle.std.proofs.Common.{ℕ, ◌+◌, [], ◌∷◌, get_or, sym, ap, ◌∙◌, arith, refl}
use Rattle.std.specs.Mem.Slots.{slots_items}
use Rattle.sp_order.specs.Jobs.{job_tree}
use Rattle.sp_order.specs.Preorder.{nodes_of}
use Rattle.batch_history.specs.declared.row.Row.{Row}
use Rattle.seq_objects.proofs.Elements.{each_append}
use Rattle.table_rule.proofs.ListLemmas.Rows.{next_row}
use Rattle.table_rule.specs.Words.{node_at, value_at, worker_in, start_in, end_in}
use Rattle.core_table.specs.Closing.{RowInWords}
use Rattle.core_table.proofs.CloseLemmas.Closes.{at_word}
use Rattle.core_table.proofs.CloseLemmas.LastRows.{leaf_in}
use Rattle.core_table.proofs.close.read_rows.Goals as goal

pub word-requires : goal.word-requires
word-requires c =
    let tree = job_tree c.args.job.now in let plan = nodes_of tree in let leaf = c.loop-leaf.leaf in
    let stands = c.plan_stands_for_tree.ensures tree in
    let below = leaf_in plan leaf (c.plan_has_sides.ensures plan tree stands) ((c.leaf_has_one_node.ensures plan tree stands leaf (plan.node_of leaf) (omega (arith, c.loop-leaf-test.true, c.requires.plan.1))).1 refl) in
    (omega (arith, c.requires.words.1, below, c.node.ensures, c.node_of-node.ensures, c.requires.plan.0), c.requires.words.0)

pub word-value-requires : goal.word-value-requires
word-value-requires c =
    let tree = job_tree c.args.job.now in let plan = nodes_of tree in let leaf = c.loop-leaf.leaf in
    let stands = c.plan_stands_for_tree.ensures tree in
    let below = leaf_in plan leaf (c.plan_has_sides.ensures plan tree stands) ((c.leaf_has_one_node.ensures plan tree stands leaf (plan.node_of leaf) (omega (arith, c.loop-leaf-test.true, c.requires.plan.1))).1 refl) in
    (omega (arith, c.requires.words.1, below, c.value.ensures, c.node_of-node.ensures, c.requires.plan.0), c.requires.words.0)

pub loop-leaf-preserved : goal.loop-leaf-preserved
loop-leaf-preserved c =
    let i = c.loop-leaf.invariant in let leaf = c.loop-leaf.leaf in let workers = c.args.layout.workers in let nodes = c.args.layout.nodes in
    let node_of = (nodes_of (job_tree c.args.job.now)).node_of in let ws = slots_items c.args.closed.now.words in
    let word = sym (at_word ws c.node.result c.word.result c.word.ensures) ∙ ap (λ (i : ℕ). get_or ws i 0) (c.node.ensures ∙ ap (λ (n : ℕ). node_at workers n) c.node_of-node.ensures) in
    let value = sym (at_word ws c.value.result c.word-value.result c.word-value.ensures) ∙ ap (λ (i : ℕ). get_or ws i 0) (c.value.ensures ∙ ap (λ (n : ℕ). value_at workers nodes n) c.node_of-node.ensures) in
    let ran = c.decode-ran.result in
    let row : Row = record { leaf = leaf; worker = ran.worker; start = ran.start; end = ran.end; value = c.word-value.result } in record {
      leaves = rw c.push_reserved.ensures.items (next_row c.loop-leaf.rows.items row leaf i.leaves refl);
      told = rw c.push_reserved.ensures.items (each_append (RowInWords workers nodes c.args.leaf_total node_of ws) c.loop-leaf.rows.items (row ∷ []) i.told (
        record {
          low = c.loop-leaf-test.true;
          worker = c.decode-ran.ensures.worker ∙ ap worker_in word;
          start = c.decode-ran.ensures.start ∙ ap start_in word;
          end = c.decode-ran.ensures.end ∙ ap end_in word;
          value = value;
        },
        tt,
      ));
      len = c.push_reserved.ensures.len ∙ ap (λ (n : ℕ). n + 1) i.len;
      room = omega (arith, i.room, c.push_reserved.ensures.capacity);
    }
