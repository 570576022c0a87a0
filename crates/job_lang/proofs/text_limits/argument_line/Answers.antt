use Rattle.std.proofs.Common.{sym, ap, ◌∙◌}
use Rattle.job_syntax.specs.Words.{words_on_lines}
use Rattle.job_lang.specs.Limits.{argument_line, range_flags}
use Rattle.job_lang.specs.Code.Searches.{dependents}
use Rattle.job_syntax.specs.Views.{items_of}
use Rattle.job_lang.proofs.LimitLemmas.ArgumentRanges.{found_line, none_set}
use Rattle.job_lang.proofs.text_limits.argument_line.Goals as goal

pub returns-then-not-any_out_of_range : goal.returns-then-not-any_out_of_range
returns-then-not-any_out_of_range c =
    sym (none_set (range_flags 0 (items_of c.args.items.now)) (dependents (words_on_lines c.args.text.now)) (sym c.any_out_of_range.ensures ∙ c.if-not-any_out_of_range.true))

pub returns : goal.returns
returns c =
    found_line (items_of c.args.items.now) c.new-words.result c.out_of_range_in_items.new.words c.out_of_range_in_items.result c.out_of_range_in_items.ensures
    ∙ ap (λ words. argument_line words (items_of c.args.items.now)) c.new-words.ensures
