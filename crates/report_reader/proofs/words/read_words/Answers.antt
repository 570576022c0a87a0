use Rattle.report_reader.proofs.Fields.{stripped}
use Rattle.report_reader.proofs.words.read_words.Goals as goal

pub returns-clause-some : goal.returns-clause-some
returns-clause-some c = (stripped c.args.text.now c.args.words.now c.strip_prefix.result c.strip_prefix.ensures.cases).0

pub returns-clause-none : goal.returns-clause-none
returns-clause-none c = (stripped c.args.text.now c.args.words.now c.strip_prefix.result c.strip_prefix.ensures.cases).1
