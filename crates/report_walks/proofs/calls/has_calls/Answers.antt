use Rattle.std.proofs.Common.{◌≡◌, ℕ, ◌<◌, List, length, refl, sym, subst, Option, Some, Vec, Global}
use Rattle.std.specs.Option.{IfSome}
use Rattle.std.specs.List.{AllByRecursion}
use Rattle.seq_objects.specs.declared.act.Act.{Act}
use Rattle.batch_history.specs.Book.{flat}
use Rattle.batch_history.specs.Lawful.{HasCalls}
use Rattle.batch_history.specs.declared.batch.Entry.{Entry}
use Rattle.report_walks.specs.Parts.{of_calls}
use Rattle.report_walks.specs.Code.Calls.{IsServed, AreValuesOf}
use Rattle.report_walks.proofs.Walks.{denied, holds, batch_each, batch_more, batch_done}
use Rattle.report_walks.proofs.CallWalk.{leaves_within, calls_of_served, served_of_calls}
use Rattle.report_walks.proofs.calls.has_calls.Goals as goal

known : (acts acts' : List Act) (entries : List Entry) (o : Option (Vec (Option ℕ) Global)) (values : Vec (Option ℕ) Global) → acts ≡ acts' → o ≡ Some values
    → IfSome o (λ values. AreValuesOf acts entries values.items) → AreValuesOf acts' entries values.items
known acts acts' entries o values same is h = subst (λ (a : List Act). AreValuesOf a entries values.items) same (rw is at h)

pub are_served-requires-clause-leaves : goal.are_served-requires-clause-leaves
are_served-requires-clause-leaves c =
    let are = known c.acts.result.now c.args.job.now.acts (flat c.args.book.now) c.in_ok-values.field-0 c.in-Some.values c.acts.ensures.acts c.in-Some.is c.in_ok-values.ensures.some in
    batch_each c.args.book.now c.loop-batch.batch-index c.batch-item.result c.entries.result.now c.loop-batch-test.true c.batch-item.is c.entries.ensures
    (λ (entry : Entry). entry.leaf < length c.args.job.now.acts) (leaves_within c.args.job.now.acts (flat c.args.book.now) are.once)

pub returns-then-not-are_served : goal.returns-then-not-are_served
returns-then-not-are_served c =
    let are = known c.acts.result.now c.args.job.now.acts (flat c.args.book.now) c.in_ok-values.field-0 c.in-Some.values c.acts.ensures.acts c.in-Some.is c.in_ok-values.ensures.some in
    denied (HasCalls c.args.job.now (of_calls c.args.book.now c.args.rows.now)) (λ has.
    c.if-not-are_served.ensures.1 (subst (λ (vs : List (Option ℕ)). AllByRecursion (IsServed c.args.job.now vs c.args.rows.now) c.entries.result.now) (sym c.as_slice.ensures.value)
    (batch_each c.args.book.now c.loop-batch.batch-index c.batch-item.result c.entries.result.now c.loop-batch-test.true c.batch-item.is c.entries.ensures
    (IsServed c.args.job.now c.in-Some.values.items c.args.rows.now) (served_of_calls c.args.job.now c.args.book.now c.args.rows.now c.in-Some.values.items c.requires.replies are has))))

pub loop-batch-preserved : goal.loop-batch-preserved
loop-batch-preserved c =
    batch_more c.args.book.now c.loop-batch.batch-index c.batch-item.result c.entries.result.now c.loop-batch-test.true c.batch-item.is c.entries.ensures
    (IsServed c.args.job.now c.in-Some.values.items c.args.rows.now) c.loop-batch.invariant
    (subst (λ (vs : List (Option ℕ)). AllByRecursion (IsServed c.args.job.now vs c.args.rows.now) c.entries.result.now) c.as_slice.ensures.value (c.if-not-are_served.ensures.0 refl))

pub returns : goal.returns
returns c =
    let are = known c.acts.result.now c.args.job.now.acts (flat c.args.book.now) c.in_ok-values.field-0 c.in-Some.values c.acts.ensures.acts c.in-Some.is c.in_ok-values.ensures.some in
    holds (HasCalls c.args.job.now (of_calls c.args.book.now c.args.rows.now))
    (calls_of_served c.args.job.now c.args.book.now c.args.rows.now c.in-Some.values.items c.requires.replies are
    (batch_done (IsServed c.args.job.now c.in-Some.values.items c.args.rows.now) c.args.book.now c.loop-batch.batch-index c.loop-batch.invariant c.loop-batch-test.false))
