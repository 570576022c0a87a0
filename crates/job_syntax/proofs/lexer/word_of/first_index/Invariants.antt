use Rattle.std.proofs.Common.{◌≡◌, ◌++◌, take, drop}
use Rattle.job_syntax.specs.Words.{before_first, behind_first}
use Rattle.job_syntax.proofs.lexer.word_of.first_index.Given as goal

abbrev pub invariant-loop-index : goal.invariant-loop-index
invariant-loop-index l = record {
  before : before_first l.mark l.text ≡ take l.index l.text ++ before_first l.mark (drop l.index l.text);
  behind : behind_first l.mark l.text ≡ behind_first l.mark (drop l.index l.text);
}
