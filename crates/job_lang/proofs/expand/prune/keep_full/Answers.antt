use Rattle.std.proofs.Common.{rules, ap, ◌∙◌}
use Rattle.std.proofs.lemmas.Fn.{filter_same}
use Rattle.job_syntax.specs.Views.{items_of}
use Rattle.job_lang.proofs.ExpandLemmas.Pruning.{is_full, full_items}
use Rattle.job_lang.proofs.expand.prune.keep_full.Goals as goal

pub returns : goal.returns
returns c =
    ap items_of (filter_same _ is_full _ (λ x b f' k. search rules) _ _ c.retain.ensures.filtered)
    ∙ full_items c.args.items.now.items
