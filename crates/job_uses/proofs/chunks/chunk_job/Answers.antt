use Rattle.std.proofs.Common.{◌≡◌, ℕ, length, map, Option, refl, sym, ap, ◌∙◌, subst, arith, rules}
use Rattle.std.specs.Prelude.{None}
use Rattle.std.specs.List.{AllByRecursion, range_with_len}
use Rattle.seq_objects.proofs.Elements.{each_push}
use Rattle.seq_objects.specs.declared.act.Act.TheVariants.{Work}
use Rattle.sp_order.specs.Jobs.{JobValue}
use Rattle.leaf_handles.specs.Handles.{HandleValue}
use Rattle.job_lang.specs.Objects.{NamedObject}
use Rattle.job_builder.specs.Drafts.{Draft, built, closed}
use Rattle.job_uses.proofs.ChunkSums.{built_acts, handle, more_acts, more_handles}
use Rattle.job_uses.proofs.chunks.chunk_job.Goals as goal

pub loop-chunk-preserved : goal.loop-chunk-preserved
loop-chunk-preserved c =
    let before = c.loop-chunk.invariant in
    let ok = c.in_ok-work.ensures.ok in
    let none : Option NamedObject = None in
    let source : Option ℕ = None in
    let count : length c.loop-chunk.job.acts ≡ c.loop-chunk.chunk = let more = before.grown.more in omega (arith, more) in
    record {
      grown = first_of (search rules, grind arith);
      number = ap (λ (draft : Draft). draft.job) ok ∙ before.number;
      acts = more_acts c.loop-chunk.chunk c.loop-chunk.job.acts c.work.new.self.acts before.acts (ap (λ (draft : Draft). draft.acts) ok);
      plain = rw (ap (λ (draft : Draft). draft.sources) ok) (each_push (λ source. source ≡ None) c.loop-chunk.job.sources source before.plain refl);
      unnamed = rw (ap (λ (draft : Draft). draft.objects) ok) (each_push (λ object. object ≡ None) c.loop-chunk.job.objects none before.unnamed refl);
      handles = more_handles c.loop-chunk.chunk c.loop-chunk.leaves.items c.push.new.self.items c.in_ok-work.field-0 before.handles c.in_ok-push.ensures.items
          (ap (λ (handle : HandleValue). handle.job) c.in_ok-work.ensures.handle ∙ before.number) (ap (λ (handle : HandleValue). handle.leaf) c.in_ok-work.ensures.handle ∙ count);
    }

pub returns-clause-job : goal.returns-clause-job
returns-clause-job c =
    let all : c.loop-chunk.chunk ≡ c.args.chunks = let end = c.loop-chunk.auto.chunk-end in let past = c.loop-chunk-test.false in omega (arith, end, past) in
    let before = c.loop-chunk.invariant in
    let job = c.in_ok-finish.ensures.ok ∙ ap built c.in_ok-close.ensures.ok in
    record { acts = ap (λ (job : JobValue). job.acts) job ∙ built_acts (closed c.loop-chunk.job) c.loop-chunk.chunk before.acts before.unnamed ∙ ap (λ n. map Work (range_with_len 0 n)) all; plain = subst (AllByRecursion (λ source. source ≡ None)) (sym (ap (λ (job : JobValue). job.sources) job)) before.plain; handles = before.handles ∙ ap (λ n. map handle (range_with_len 0 n)) all }
