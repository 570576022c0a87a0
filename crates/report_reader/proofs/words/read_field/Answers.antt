use Rattle.report_reader.proofs.Fields.{if_none, no_field}
use Rattle.report_reader.proofs.words.read_field.Goals as goal

pub returns-clause-none : goal.returns-clause-none
returns-clause-none c = if_none c.read_decimal.result _ _ (no_field c.args.words.now c.args.most c.args.text.now c.in_ok-rest.rest.now c.in_ok-rest.ensures.some) c.read_decimal.ensures.none
