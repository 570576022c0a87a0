use Rattle.std.proofs.Common.{◌≡◌, ◌∙◌, ◌∷◌, ap, sym, subst, length, reverse}
use Rattle.job_names.specs.Code.Kept.{AreStarts, scope_of}
use Rattle.job_names.specs.Scopes.{closed}
use Rattle.job_names.proofs.ScopeLemmas.{rev_push, closed_loop, closed_other, starts_grow}
use Rattle.job_names.proofs.scopes.Scopes.close.Goals as goal

pub returns-then-is_loop-clause-view : goal.returns-then-is_loop-clause-view
returns-then-is_loop-clause-view c =
    let rev : reverse c.args.self.now.blocks.items ≡ c.in-Some.block ∷ reverse c.pop.new.self.items = ap reverse c.in-Some.ensures.items ∙ rev_push c.pop.new.self.items c.in-Some.block in
    ap (λ v. scope_of (reverse v.items) c.forget.new.self.lets.items) c.forget.ensures.blocks
    ∙ ap (scope_of (reverse c.pop.new.self.items)) c.forget.ensures.lets
    ∙ sym (closed_loop c.in-Some.block (reverse c.pop.new.self.items) c.args.self.now.lets.items (sym c.is_loop.ensures ∙ c.if-is_loop.true))
    ∙ ap (λ bs. closed (scope_of bs c.args.self.now.lets.items)) (sym rev)

pub returns-else-is_loop-clause-kept : goal.returns-else-is_loop-clause-kept
returns-else-is_loop-clause-kept c =
    let rev : reverse c.args.self.now.blocks.items ≡ c.in-Some.block ∷ reverse c.pop.new.self.items = ap reverse c.in-Some.ensures.items ∙ rev_push c.pop.new.self.items c.in-Some.block in
    let starts : AreStarts (c.in-Some.block ∷ reverse c.pop.new.self.items) (length c.args.self.now.lets.items) = subst (λ bs. AreStarts bs (length c.args.self.now.lets.items)) rev c.requires.starts in
    record {
      starts = starts_grow (reverse c.pop.new.self.items) c.in-Some.block.first (length c.args.self.now.lets.items) starts.1 starts.0;
      placed = c.requires.placed;
    }

pub returns-else-is_loop-clause-view : goal.returns-else-is_loop-clause-view
returns-else-is_loop-clause-view c =
    let rev : reverse c.args.self.now.blocks.items ≡ c.in-Some.block ∷ reverse c.pop.new.self.items = ap reverse c.in-Some.ensures.items ∙ rev_push c.pop.new.self.items c.in-Some.block in
    let starts : AreStarts (c.in-Some.block ∷ reverse c.pop.new.self.items) (length c.args.self.now.lets.items) = subst (λ bs. AreStarts bs (length c.args.self.now.lets.items)) rev c.requires.starts in
    sym (closed_other c.in-Some.block (reverse c.pop.new.self.items) c.args.self.now.lets.items starts (sym c.is_loop.ensures ∙ c.if-is_loop.false))
    ∙ ap (λ bs. closed (scope_of bs c.args.self.now.lets.items)) (sym rev)
