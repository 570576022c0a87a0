use Rattle.std.proofs.Common.{◌∙◌, ◌∷◌, [], ap, sym}
use Rattle.job_names.specs.Scopes.{with_lets}
use Rattle.job_syntax.specs.Grammar.{nothing, leaf_then, ◌then◌, bound}
use Rattle.job_syntax.specs.Views.{items_of, leaf_of}
use Rattle.job_syntax.specs.Code.Machine.{at, an_item, given_leaf}
use Rattle.job_syntax.specs.Code.OpenBlocks.{blocks_on}
use Rattle.job_syntax.specs.Code.Shown.{scope_at}
use Rattle.job_syntax.proofs.ParserLemmas.OpenStacks.{leaf_added, let_added, plain_leaf}
use Rattle.job_syntax.proofs.ParserLemmas.ShownSteps.{scope_with_plain, scope_with_leaf}
use Rattle.job_syntax.proofs.parser.blocks.BlockStack.add.Goals as goal

pub returns-in_ok-bind-in-Some-clause-view : goal.returns-in_ok-bind-in-Some-clause-view
returns-in_ok-bind-in-Some-clause-view c =
    let items = c.args.self.now.items.items in
    ap (λ all. at (blocks_on [] c.args.self.now.blocks.items) all an_item)
    (ap items_of c.in_ok-push-in-Some.ensures.items ∙ let_added items c.in-Some.name c.args.leaf
    ∙ ap (λ given. items_of items then leaf_then (given_leaf given (leaf_of c.args.leaf)) nothing) (sym c.in-Some.is))

pub returns-in_ok-bind-in-Some-clause-shows : goal.returns-in_ok-bind-in-Some-clause-shows
returns-in_ok-bind-in-Some-clause-shows c =
    let blocks = blocks_on [] c.args.self.now.blocks.items in
    let items = c.args.self.now.items.items in
    record {
      kept = c.in_ok-bind-in-Some.ensures.kept;
      shows = c.in_ok-bind-in-Some.ensures.view
          ∙ ap (λ scope. with_lets scope (record { name = c.in-Some.name; number = 0 } ∷ [])) c.requires.shows
          ∙ scope_with_leaf blocks (items_of items) (bound c.in-Some.name (leaf_of c.args.leaf))
          ∙ ap (scope_at blocks) (sym (let_added items c.in-Some.name c.args.leaf))
          ∙ ap (λ all. scope_at blocks (items_of all)) (sym c.in_ok-push-in-Some.ensures.items);
    }

pub returns-in_ok-push-in-None-clause-view : goal.returns-in_ok-push-in-None-clause-view
returns-in_ok-push-in-None-clause-view c =
    let items = c.args.self.now.items.items in
    ap (λ all. at (blocks_on [] c.args.self.now.blocks.items) all an_item)
    (ap items_of c.in_ok-push-in-None.ensures.items ∙ leaf_added items c.args.leaf
    ∙ ap (λ given. items_of items then leaf_then (given_leaf given (leaf_of c.args.leaf)) nothing) (sym c.in-None.is))

pub returns-in_ok-push-in-None-clause-shows : goal.returns-in_ok-push-in-None-clause-shows
returns-in_ok-push-in-None-clause-shows c =
    let blocks = blocks_on [] c.args.self.now.blocks.items in
    let items = c.args.self.now.items.items in
    record {
      kept = c.requires.kept;
      shows = c.requires.shows
          ∙ scope_with_plain blocks (items_of items) (leaf_of c.args.leaf) (plain_leaf c.args.leaf)
          ∙ ap (scope_at blocks) (sym (leaf_added items c.args.leaf))
          ∙ ap (λ all. scope_at blocks (items_of all)) (sym c.in_ok-push-in-None.ensures.items);
    }
