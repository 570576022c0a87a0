use Rattle.std.proofs.Common.{◌≡◌, ◌∙◌, [], ◌∷◌, ap, sym}
use Rattle.job_names.specs.Scopes.{closed}
use Rattle.job_syntax.specs.Views.{items_of}
use Rattle.job_syntax.specs.Code.Machine.{after_close}
use Rattle.job_syntax.specs.Code.OpenBlocks.{blocks_on, block_view}
use Rattle.job_syntax.specs.Code.Shown.{scope_at}
use Rattle.job_syntax.proofs.ParserLemmas.OpenStacks.{blocks_on_push, closing, closed_items}
use Rattle.job_syntax.proofs.ParserLemmas.ShownSteps.{scope_closed}
use Rattle.job_syntax.proofs.parser.blocks.BlockStack.close.Goals as goal

pub returns-in_ok-push-clause-view : goal.returns-in_ok-push-clause-view
returns-in_ok-push-clause-view c =
    let value = c.replace-body.ensures.value in
    let after = c.replace-body.ensures.after in
    let kept = c.shrink_to_fit.ensures.items in
    let pushed = c.in_ok-push.ensures.items in
    let body = c.shrink_to_fit.new.self in
    let same : c.args.self.now.items.items ≡ body.items = cc (value, kept) in
    ap (λ items. after_close (blocks_on [] c.args.self.now.blocks.items) (items_of items)) same
    ∙ closing c.args.self.now.blocks.items c.pop.new.self.items c.in-Some.field-0 body c.push.new.self.items c.in-Some.ensures.items (cc (pushed, after))

pub returns-in_ok-push-clause-shows : goal.returns-in_ok-push-clause-shows
returns-in_ok-push-clause-shows c =
    let value = c.replace-body.ensures.value in
    let after = c.replace-body.ensures.after in
    let kept = c.shrink_to_fit.ensures.items in
    let pushed = c.in_ok-push.ensures.items in
    let block = c.in-Some.field-0 in
    let rest = c.pop.new.self.items in
    let items = c.args.self.now.items.items in
    let body = c.shrink_to_fit.new.self in
    let same : items ≡ body.items = cc (value, kept) in
    record {
      kept = c.close.ensures.kept;
      shows = c.close.ensures.view
          ∙ ap closed (c.requires.shows.shows
          ∙ ap (λ blocks. scope_at (blocks_on [] blocks) (items_of items)) c.in-Some.ensures.items
          ∙ ap (λ blocks. scope_at blocks (items_of items)) (blocks_on_push [] rest block)
          ∙ ap (λ items. scope_at (block_view block ∷ blocks_on [] rest) (items_of items)) same)
          ∙ scope_closed (blocks_on [] rest) (block_view block) (items_of body.items)
          ∙ ap (scope_at (blocks_on [] rest)) (sym (closed_items block body c.push.new.self.items (cc (pushed, after))));
    }
