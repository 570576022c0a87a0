use Rattle.std.proofs.Common.{◌≡◌, List, None, length, sym, ap, ◌∙◌, subst, arith}
use Rattle.seq_objects.specs.declared.act.Act.{Act}
use Rattle.sp_order.specs.Sources.{IsCallLeaf}
use Rattle.batch_history.specs.Book.{flat}
use Rattle.batch_history.specs.Places.{place_of}
use Rattle.job_results.proofs.Calls.{few_batches, few_calls, has_place}
use Rattle.job_results.proofs.ran.RanWith.place_of.Goals as goal

pub place_of-requires-clause-few_batches : goal.place_of-requires-clause-few_batches
place_of-requires-clause-few_batches g c =
    let f = c.self.inside in
    let batches = few_batches f.report.history c.self.invariant.batches in
    let calls = few_calls (g.W.LeafWork.meaning f.work.value) f.job f.report c.self.invariant.calls in
    let most = c.acts-acts.ensures.job.most in
    let same = ap length c.batches.ensures.batches in
    omega (arith, batches, calls, most, same)

pub place_of-requires-clause-few_entries : goal.place_of-requires-clause-few_entries
place_of-requires-clause-few_entries g c =
    let f = c.self.inside in
    let calls = few_calls (g.W.LeafWork.meaning f.work.value) f.job f.report c.self.invariant.calls in
    let most = c.acts-acts.ensures.job.most in
    let same = ap (λ book. length (flat book)) c.batches.ensures.batches in
    omega (arith, calls, most, same)

pub unreachable-requires : goal.unreachable-requires
unreachable-requires g c =
    let f = c.self.inside in
    let call = subst (λ (acts : List Act). IsCallLeaf acts c.args.handle.leaf) (λ i. (sym c.self.view_is i).job.acts) c.requires in
    let none : place_of f.report.history c.args.handle.leaf ≡ None =
    sym (λ i. place_of (c.batches.ensures.batches i) (c.leaf.ensures i)) ∙ sym c.place_of.ensures ∙ c.in-None.is in
    has_place (g.W.LeafWork.meaning f.work.value) f.job f.report c.self.invariant.calls c.args.handle.leaf call none
