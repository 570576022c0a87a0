-- The view of a scanner: the tokens that are left to it, and their words.
use Rattle.std.specs.Prelude.{List, map, false}
use Rattle.job_syntax.specs.declared.lexer.scanner.Scanner.{Scanner}
use Rattle.job_syntax.specs.declared.lexer.word.WordOnLine.{WordOnLine}
use Rattle.job_syntax.specs.Text.{Token, tokens_from, bare}
use Rattle.job_syntax.specs.Words.{word_on_line}

abbrev pub tokens_left : Scanner → List Token
tokens_left scanner = tokens_from scanner.line (bare false scanner.text.now)

abbrev pub words_left : Scanner → List WordOnLine
words_left scanner = map word_on_line (tokens_left scanner)
