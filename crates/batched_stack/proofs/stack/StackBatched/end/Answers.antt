use Rattle.std.proofs.Common.{◌≡◌, ◌+◌, ℕ, map, replicate, [], ◌∙◌, sym, ap, subst}
use Rattle.seq_objects.specs.Serial.{of_stack}
use Rattle.batched_stack.specs.declared.piece.Served.{Served}
use Rattle.batched_stack.specs.Stripes.{items_of}
use Rattle.batched_stack.specs.Lists.{lists, rooms_in}
use Rattle.batched_stack.specs.Code.End.{HavePopped, with_outs, stack_replies}
use Rattle.batched_stack.specs.Code.Invariant.{StackInvariant}
use Rattle.batched_stack.specs.Rooms.{AreNext}
use Rattle.batched_stack.proofs.Law.{popped_long, whole, content_is, rooms_are, replies_are}
use Rattle.batched_stack.proofs.StripeLemmas.Whole.{length_items_of}
use Rattle.batched_stack.proofs.stack.StackBatched.end.Goals as goal

pub replies_of-requires-clause-popped : goal.replies_of-requires-clause-popped
replies_of-requires-clause-popped c =
    let popped = map (λ v. v.items) c.deref-2.result.now in
    let is : popped ≡ with_outs (λ (out : Served). out.popped.items) (replicate 16 []) c.args.outs.items = ap (map (λ v. v.items)) c.deref-2.ensures.value ∙ c.in_ok-stripes.ensures.popped in
    subst (λ (n : ℕ). HavePopped popped (c.args.rest.count + c.args.rest.pushes) n) (sym c.saturating_sub-left.ensures) (popped_long c.args.rest c.requires.0 c.args.outs.items c.requires.1 c.requires.2 popped is)

pub invariant_of-stack : goal.invariant_of-stack
invariant_of-stack c =
    let stripes = c.in_ok-stripes.stripes.items in
    let rooms = c.in_ok-rooms.rooms.items in
    let made = c.in_ok-stripes.ensures in
    subst (λ (n : ℕ). StackInvariant stripes rooms n) (sym c.saturating_sub-left.ensures) (whole c.args.rest c.requires.0 c.args.outs.items c.requires.1 c.requires.2 stripes rooms made.sixteen made.lists made.rooms (c.in_ok-rooms.ensures ∙ ap rooms_in c.deref.ensures.value))

pub returns-clause-replies : goal.returns-clause-replies
returns-clause-replies c = λ o r m.
    let popped = map (λ v. v.items) c.deref-2.result.now in
    let is : popped ≡ with_outs (λ (out : Served). out.popped.items) (replicate 16 []) c.args.outs.items = ap (map (λ v. v.items)) c.deref-2.ensures.value ∙ c.in_ok-stripes.ensures.popped in
    c.in_ok-replies.ensures
    ∙ ap (λ n. stack_replies popped (c.args.rest.count + c.args.rest.pushes) n c.args.rest.pushes c.args.rest.pops) c.saturating_sub-left.ensures
    ∙ replies_are c.args.rest o c.args.outs.items r m popped is

pub returns-clause-content : goal.returns-clause-content
returns-clause-content c = λ o r m.
    let stripes = lists c.in_ok-stripes.stripes.items in
    ap (λ n. of_stack (items_of stripes n)) c.saturating_sub-left.ensures ∙ content_is c.args.rest o c.args.outs.items r m stripes c.in_ok-stripes.ensures.lists

pub returns-clause-rooms : goal.returns-clause-rooms
returns-clause-rooms c = λ o r m.
    let stripes = lists c.in_ok-stripes.stripes.items in
    let rooms = c.in_ok-rooms.rooms.items in
    let is = c.in_ok-rooms.ensures ∙ ap rooms_in c.deref.ensures.value ∙ c.in_ok-stripes.ensures.rooms in
    subst (λ (n : ℕ). AreNext o.before.rooms n rooms) (sym (length_items_of stripes c.saturating_sub-left.result ∙ c.saturating_sub-left.ensures)) (rooms_are c.args.rest o c.args.outs.items r m rooms is)
