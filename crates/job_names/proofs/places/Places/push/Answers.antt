use Rattle.std.proofs.Common.{rules, ◌≡◌, ◌∙◌, ap, []}
use Rattle.std.specs.Option.{option_map_or}
use Rattle.indexmap.specs.IndexMap.{get}
use Rattle.job_names.specs.Names.{same_name}
use Rattle.job_names.proofs.places.Places.push.Goals as goal

pub returns-in_ok-insert-in-None-clause-others : goal.returns-in_ok-insert-in-None-clause-others
returns-in_ok-insert-in-None-clause-others c = λ other ne.
    ap (λ r. option_map_or (λ list. list.items) r []) (c.in_ok-insert-in-None.ensures.updates.2 other ne)
    ∙ (let same : c.get_mut.follows.lender-at-none ≡ c.args.self.now.lists = search rules in ap (λ m. option_map_or (λ list. list.items) (get same_name m other) []) same)
