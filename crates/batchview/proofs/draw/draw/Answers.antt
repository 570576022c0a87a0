use Rattle.std.proofs.Common.{arith}
use Rattle.report_reader.specs.Texts.{named_in}
use Rattle.batchview.proofs.Counting.{few_calls, few_rows}
use Rattle.batchview.proofs.draw.draw.Goals as goal

pub picture-requires-clause-few : goal.picture-requires-clause-few
picture-requires-clause-few c = record {
  rows = omega (arith, c.requires, few_rows c.args.text.now (named_in c.in-Ok.read) c.in-Ok.ensures);
  calls = omega (arith, c.requires, few_calls c.args.text.now (named_in c.in-Ok.read) c.in-Ok.ensures);
}

pub picture-requires-clause-numbers : goal.picture-requires-clause-numbers
picture-requires-clause-numbers c = rw c.as_slice.ensures.value c.in-Ok.ensures.numbers

pub picture-requires-clause-spelled : goal.picture-requires-clause-spelled
picture-requires-clause-spelled c = rw c.as_slice.ensures.value c.in-Ok.ensures.spelled
