use Rattle.std.proofs.Common.{refl, sym, subst, ◌∙◌, ◌+◌, set, replicate}
use Rattle.atomic_table.specs.Table.{opening}
use Rattle.shared_calls.specs.Rule.{Keeps, first_view}
use Rattle.shared_calls.proofs.Openings.{starts}
use Rattle.shared_calls.proofs.shared.Shared.share.Goals as goal

pub new-requires : goal.new-requires
new-requires g c =
    let p = c.args.callers in
    let object = g.T.Combined.object in
    let content = g.T.Combined.content in
    let fails = g.T.Combined.fails in
    let slots = c.in_ok-slots.ensures in
    let words = c.deref.ensures.value ∙ c.in_ok-words.ensures in
    subst (λ ws. Keeps object content fails p (opening ws c.in_ok-slots.slots.items (first_view p))) (sym words)
    (subst (λ xs. Keeps object content fails p (opening (set (replicate (p + 1) 3) p 0) xs (first_view p))) (sym slots.1)
    (starts object content fails p (p + 1) c.args.structure slots.0 refl c.requires.opening))
