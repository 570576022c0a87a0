use Rattle.std.proofs.Common.{◌∙◌, sym, ap, true, false, ◌≡◌}
use Rattle.decimals.proofs.Runs.{run_within}
use Rattle.report_reader.specs.Code.Objects.{is_mark, is_no_blank}
use Rattle.report_reader.proofs.Marks.{run_read, run_written}
use Rattle.report_reader.proofs.object.read_mark.Goals as goal

pub split_at-requires : goal.split_at-requires
split_at-requires c = run_within is_no_blank c.until_blank.result c.args.text.now c.until_blank.ensures

pub returns-then-not-is_mark-clause-none : goal.returns-then-not-is_mark-clause-none
returns-then-not-is_mark-clause-none c mark rest is =
    let same = c.split_at.ensures.front ∙ run_written c.until_blank.result c.args.text.now mark rest c.until_blank.ensures is in
    let wrong : false ≡ true = sym c.if-not-is_mark.true ∙ c.is_mark.ensures ∙ ap is_mark same ∙ is.marked in
    cc (wrong)

pub returns-clause-some : goal.returns-clause-some
returns-clause-some c = run_read c.until_blank.result c.args.text.now c.split_at.result.0.now c.split_at.result.1.now c.until_blank.ensures c.split_at.ensures.front c.split_at.ensures.back (sym c.is_mark.ensures ∙ c.if-not-is_mark.false)
