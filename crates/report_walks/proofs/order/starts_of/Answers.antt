use Rattle.std.proofs.Common.{Some, get_or, arith, ◌∙◌}
use Rattle.std.proofs.lemmas.List.{length-set}
use Rattle.std.proofs.lemmas.Option.{slice_get_within, slice_get-get_or}
use Rattle.report_walks.specs.Code.Spans.{IsRow}
use Rattle.report_walks.proofs.Starts.{each_more, only_more}
use Rattle.report_walks.proofs.Walks.{no_row}
use Rattle.report_walks.proofs.order.starts_of.Goals as goal

pub loop-leaf-preserved : goal.loop-leaf-preserved
loop-leaf-preserved c =
    let at = get_or c.args.rows.now c.loop-leaf.leaf no_row in
    let is_at : IsRow c.args.rows.now c.loop-leaf.leaf at = slice_get-get_or c.args.rows.now c.loop-leaf.leaf no_row c.loop-leaf-test.true in
    record {
      long = length-set c.loop-leaf.starts.items at.start (Some c.loop-leaf.leaf) ∙ c.loop-leaf.invariant.long;
      each = each_more c.args.rows.now c.loop-leaf.starts.items c.loop-leaf.leaf at c.requires c.loop-leaf.invariant.long is_at c.loop-leaf.invariant.each;
      only = only_more c.args.rows.now c.loop-leaf.starts.items c.loop-leaf.leaf at c.requires c.loop-leaf.invariant.long is_at c.loop-leaf.invariant.only;
    }

pub returns : goal.returns
returns c = record {
  each = λ u row is. c.loop-leaf.invariant.each u row (omega (arith, slice_get_within c.args.rows.now u row is, c.loop-leaf-test.false)) is;
  only = c.loop-leaf.invariant.only;
}
