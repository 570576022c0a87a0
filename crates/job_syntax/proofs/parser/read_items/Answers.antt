use Rattle.job_syntax.specs.Text.{last_line}
use Rattle.job_syntax.specs.Words.{words_on_lines}
use Rattle.job_syntax.specs.Views.{items_of}
use Rattle.job_syntax.proofs.ParserLemmas.ReadingLaws.{given_items, given_fault}
use Rattle.job_syntax.proofs.parser.read_items.Goals as goal

pub returns-clause-items : goal.returns-clause-items
returns-clause-items c =
    given_items (last_line c.args.text.now) (words_on_lines c.args.text.now) (λ items. items_of items.items) c.read_all.result
    (rw (c.new.ensures, c.last_line.ensures) at c.read_all.ensures)

pub returns-clause-fault : goal.returns-clause-fault
returns-clause-fault c =
    given_fault (last_line c.args.text.now) (words_on_lines c.args.text.now) (λ items. items_of items.items) c.read_all.result
    (rw (c.new.ensures, c.last_line.ensures) at c.read_all.ensures)
