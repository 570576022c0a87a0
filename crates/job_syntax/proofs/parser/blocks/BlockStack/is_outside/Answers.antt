use Rattle.job_syntax.proofs.ParserLemmas.OpenStacks.{outside_now}
use Rattle.job_syntax.proofs.parser.blocks.BlockStack.is_outside.Goals as goal

pub returns : goal.returns
returns c = outside_now c.args.self.now.blocks c.is_empty.result c.is_empty.ensures
