use Rattle.std.proofs.Common.{◌≡◌, ◌++◌, ◌∷◌, [], length, sym, ap, subst, ◌∙◌, arith, length-append}
use Rattle.seq_objects.specs.Pieces.{AllMeet}
use Rattle.object_rows.proofs.ListLemmas.{no_members}
use Rattle.object_rows.proofs.Closing.{only_open, only_served}
use Rattle.object_rows.proofs.close.close_only.Goals as goal

pub close_one-requires-after_bounds : goal.close_one-requires-after_bounds
close_one-requires-after_bounds g c = λ lifetimes bounds.
    let given = c.requires.met in
    let o = given.0 in
    let called = c.in-Some.called in
    let popped = c.in-Some.ensures.items in
    let none : c.pop.new.self.items ≡ [] = no_members c.pop.new.self.items (λ some. let one = sym c.requires.one ∙ ap length popped ∙ length-append c.pop.new.self.items (called ∷ []) in omega (arith, one, some)) in
    let only : c.args.row.now.called.items ≡ called ∷ [] = popped ∙ ap (λ l. l ++ called ∷ []) none in
    let own = only_open g.T.Batched.content g.T.Batched.is_context_of g.T.Batched.meets o c.args.row.now c.args.outs.items given.1 given.2 called only in
    (o.before, o.calls, own.0, own.1, subst (AllMeet g.T.Batched.meets own.0) (sym c.in_ok-own.ensures) own.2)

pub returns : goal.returns
returns g c = λ o r met.
    let called = c.in-Some.called in
    let popped = c.in-Some.ensures.items in
    let none : c.pop.new.self.items ≡ [] = no_members c.pop.new.self.items (λ some. let one = sym c.requires.one ∙ ap length popped ∙ length-append c.pop.new.self.items (called ∷ []) in omega (arith, one, some)) in
    let only : c.args.row.now.called.items ≡ called ∷ [] = popped ∙ ap (λ l. l ++ called ∷ []) none in
    let own = only_open g.T.Batched.content g.T.Batched.is_context_of g.T.Batched.meets o c.args.row.now c.args.outs.items r met called only in
    let closes = c.in_ok-told.ensures o.before o.calls own.0 own.1 (subst (AllMeet g.T.Batched.meets own.0) (sym c.in_ok-own.ensures) own.2) in
    only_served g.T.Batched.content g.T.Batched.is_context_of g.T.Batched.meets o c.args.row.now c.args.outs.items r met called only
    (record { closed = c.close_one.new.closed; called = c.pop.new.self }) c.in_ok-told.told.items none closes
