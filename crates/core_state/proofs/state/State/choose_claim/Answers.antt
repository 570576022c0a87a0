use Rattle.std.proofs.Common.{refl, sym, ◌∙◌, ap, arith}
use Rattle.std.specs.Option.{option_copied}
use Rattle.core_state.specs.Abstraction.{ready_of}
use Rattle.core_state.proofs.ChoiceLemmas.Steals.{newest_claim, no_newest, none_to_claim, found, passed, nothing}
use Rattle.core_state.proofs.state.State.choose_claim.Goals as goal

pub returns-then-are_empty : goal.returns-then-are_empty
unfolding ready_of
returns-then-are_empty c = none_to_claim (ready_of c.args.self.now) c.args.workers c.args.worker (c.are_empty.ensures c.if-are_empty.true)

pub returns-in-Some : goal.returns-in-Some
unfolding ready_of
returns-in-Some c =
    let last = sym c.last.ensures.value ∙ ap option_copied c.in-Some.is in
    newest_claim c.args.workers (ready_of c.args.self.now) c.args.worker c.in-Some.node.now (ready_of c.args.self.now c.args.worker) (rw c.of.ensures at last)

pub loop-k-init : goal.loop-k-init
unfolding ready_of
loop-k-init c =
    let last = sym c.last.ensures.value ∙ ap option_copied c.in_default.is in record {
      so_far = refl;
      own = no_newest (ready_of c.args.self.now c.args.worker) (rw c.of.ensures at last);
    }

pub returns-in-Some-first : goal.returns-in-Some-first
unfolding ready_of
returns-in-Some-first c =
    let first = sym c.first.ensures.value ∙ ap option_copied c.in-Some-first.is in
    found (ready_of c.args.self.now) c.args.worker c.args.workers c.loop-k.k c.in-Some-first.node.now c.loop-k.invariant.own c.loop-k.invariant.so_far c.loop-k-test.true
    (rw c.of-in-loop-k.ensures at first)

pub loop-k-preserved : goal.loop-k-preserved
unfolding ready_of
loop-k-preserved c =
    let first = sym c.first.ensures.value ∙ ap option_copied c.in_default-first.is in record {
      so_far = passed (ready_of c.args.self.now) c.args.worker c.args.workers c.loop-k.k c.loop-k.invariant.so_far c.loop-k-test.true (rw c.of-in-loop-k.ensures at first);
      own = c.loop-k.invariant.own;
    }

pub returns : goal.returns
returns c = nothing (ready_of c.args.self.now) c.args.worker c.args.workers c.loop-k.k c.loop-k.invariant.own c.loop-k.invariant.so_far (omega arith)
