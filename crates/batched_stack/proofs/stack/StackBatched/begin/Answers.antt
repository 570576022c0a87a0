use Rattle.std.proofs.Common.{◌≡◌, ◌+◌, ◌<◌, ◌^◌, ℕ, List, length, ◌∙◌, ap, subst, rules}
use Rattle.std.specs.List.{AllByRecursion}
use Rattle.batched_stack.specs.Stripes.{StackView}
use Rattle.batched_stack.specs.declared.piece.Rest.{Rest}
use Rattle.batched_stack.specs.Calls.{pushes_of, pops_of}
use Rattle.batched_stack.specs.Pieces.{IsContextOf, piece_numbers, numbers_in}
use Rattle.batched_stack.specs.Code.Begin.{IsCutOf}
use Rattle.batched_stack.proofs.BeginLemmas.Context.{piece_count, remembered}
use Rattle.batched_stack.proofs.stack.StackBatched.begin.Goals as goal

pub returns-clause-count : goal.returns-clause-count
returns-clause-count c = piece_count c.self.inside.count c.deref.result.now c.pops_of-pops.result c.in_ok-stripes.pieces.items c.in_ok-stripes.ensures.numbers

pub returns-clause-remembers : goal.returns-clause-remembers
returns-clause-remembers c =
    let calls = c.args.calls.now in
    let count = c.self.inside.count in
    let stripes = c.self.inside.stripes.items in
    let pieces = c.in_ok-stripes.pieces.items in
    let puts : c.deref.result.now ≡ pushes_of calls = c.deref.ensures.value ∙ c.in_ok-items.ensures in
    let takes : c.pops_of-pops.result ≡ pops_of calls = c.pops_of-pops.ensures in
    let numbers : numbers_in pieces ≡ piece_numbers count (pushes_of calls) (pops_of calls) = c.in_ok-stripes.ensures.numbers ∙ ap (λ p. piece_numbers count p c.pops_of-pops.result) puts ∙ ap (λ k. piece_numbers count (pushes_of calls) k) takes in
    let each : AllByRecursion (IsCutOf stripes count (pushes_of calls) (pops_of calls)) pieces = subst (λ (k : ℕ). AllByRecursion (IsCutOf stripes count (pushes_of calls) k) pieces) takes (subst (λ (p : List ℕ). AllByRecursion (IsCutOf stripes count p c.pops_of-pops.result) pieces) puts c.in_ok-stripes.ensures.each) in
    let pushes : c.len-2.result ≡ length c.in_ok-items.items.items = search rules in
    let rest : Rest = record { stripes = c.in_ok-stripes.stripes; rooms = c.self.inside.rooms; popped = c.self.inside.popped; count = count; pushes = c.len-2.result; pops = c.pops_of-pops.result } in
    let fits : count + c.len-2.result < 2 ^ 63 = search rules in
    subst (λ (v : StackView). IsContextOf rest (record { before = v; calls = calls; ins = pieces })) c.self.view_is
    (remembered stripes c.self.inside.rooms.items rest calls pieces c.self.invariant c.requires.batch c.requires.may numbers each (pushes ∙ ap length c.in_ok-items.ensures) takes fits c.in_ok-stripes.ensures.sixteen c.in_ok-stripes.ensures.kept)

pub returns-clause-cut : goal.returns-clause-cut
returns-clause-cut c = (returns-clause-remembers c).cut
