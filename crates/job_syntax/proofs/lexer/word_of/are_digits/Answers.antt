use Rattle.std.proofs.Common.{◌≡◌, rules, tests, sym, ◌∙◌}
use Rattle.std.specs.List.{list_all}
use Rattle.std.proofs.lemmas.Iterator.{YieldsList-from_slice}
use Rattle.std.proofs.lemmas.Iterator.Search.{all_from_yields_List}
use Rattle.job_syntax.specs.Words.{is_digit}
use Rattle.job_syntax.proofs.LexerLemmas.Numbers.{some_digits}
use Rattle.job_syntax.proofs.lexer.word_of.are_digits.Goals as goal

pub returns-then-not-is_empty : goal.returns-then-not-is_empty
returns-then-not-is_empty c =
    let each : c.all.result ≡ list_all is_digit c.args.text.now =
    all_from_yields_List is_digit _ _ c.all.result c.all.ensures.ran (YieldsList-from_slice c.args.text.now cc) (λ x b q k. search (rules, tests)) in
    each ∙ sym (some_digits c.args.text.now (cc))
