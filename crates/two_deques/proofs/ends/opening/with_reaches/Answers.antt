use Rattle.std.proofs.Common.{◌<◌, ℕ, length, refl, ◌∙◌, subst, arith, ◌≡◌}
use Rattle.std.proofs.lemmas.List.{length-set}
use Rattle.two_deques.specs.Code.Opening.{AreMade}
use Rattle.two_deques.proofs.EndsLemmas.Making.{next_reached_by}
use Rattle.two_deques.proofs.ends.opening.with_reaches.Goals as goal

pub loop-worker-init : goal.loop-worker-init
loop-worker-init g c = record { count = c.requires; made = λ room begun. begun }

pub loop-worker-preserved : goal.loop-worker-preserved
loop-worker-preserved g c =
    let i = c.loop-worker.invariant in
    let inside : c.loop-worker.worker < length c.args.thieves.now = c.loop-worker-test.true in record {
      count = length-set _ _ _ ∙ i.count;
      made = λ room begun. next_reached_by _ _ _ _ _ _ _ _ (i.made room begun) inside c.index_mut.ensures.value refl refl
          refl c.in_ok-all.ensures.each c.in_ok-all.ensures.stolen c.in_ok-all.ensures.failed;
    }

pub returns : goal.returns
returns g c = λ room begun.
    let all : c.loop-worker.worker ≡ length c.args.thieves.now = omega (arith, c.loop-worker-test.false, c.loop-worker.auto.worker-end) in
    subst (λ (k : ℕ). AreMade k (length c.args.thieves.now) room c.args.thieves.now c.loop-worker.all.items) all
    (c.loop-worker.invariant.made room begun)
