use Rattle.job_syntax.proofs.LexerLemmas.KindWords.{kind_takes_names}
use Rattle.job_syntax.proofs.laws.kind_words_take_names.Goals as goal

pub returns : goal.returns
returns c = kind_takes_names c.args.kind
