use Rattle.std.proofs.Common.{◌∙◌, ap, sym}
use Rattle.batch_script.specs.Code.Lines.{lines_in}
use Rattle.batch_script.proofs.WordLemmas.{more_lines, last_line}
use Rattle.batch_script.proofs.line.LinesLeft.next.Goals as goal

pub returns-then-len-text : goal.returns-then-len-text
returns-then-len-text c = sym c.self.view_is ∙ ap lines_in c.in_ok-text.was ∙ more_lines c.line_len-len.result c.in_ok-text.text.now c.line_len-len.ensures c.if-len-text.true

pub returns-else-len-text : goal.returns-else-len-text
returns-else-len-text c = sym c.self.view_is ∙ ap lines_in c.in_ok-text.was ∙ last_line c.line_len-len.result c.in_ok-text.text.now c.line_len-len.ensures c.if-len-text.false
