use Rattle.std.proofs.Common.{◌≡◌, Some, None, List, ap, subst, ◌∙◌, arith}
use Rattle.std.proofs.lemmas.Option.{get_or_from_slice_get, slice_get_within}
use Rattle.seq_objects.specs.declared.act.Act.{Act}
use Rattle.seq_objects.specs.declared.act.Act.TheVariants.{Call}
use Rattle.batch_history.specs.Operations.{act_of, source_of}
use Rattle.report_walks.proofs.CallWalk.{op_plain, op_sourced}
use Rattle.report_walks.proofs.calls.op_of.Goals as goal

pub bounds-values-source : goal.bounds-values-source
bounds-values-source c =
    let is = c.acts.ensures.job.sources.each c.args.leaf c.in-Some.source c.in-Some.ensures in
    omega (arith, slice_get_within c.args.job.now.acts c.in-Some.source is.from is.stands, c.requires.values)

pub returns-in_err-values-in-Some : goal.returns-in_err-values-in-Some
returns-in_err-values-in-Some c =
    let act : act_of c.args.job.now.acts c.args.leaf ≡ Call c.in-Call.op = subst (λ (acts : List Act). act_of acts c.args.leaf ≡ Call c.in-Call.op) c.acts.ensures.acts c.in-Call.is in
    let source : source_of c.args.job.now c.args.leaf ≡ Some c.in-Some.source = get_or_from_slice_get c.args.job.now.sources c.args.leaf (Some c.in-Some.source) None c.in-Some.ensures in
    c.from_residual.ensures ∙ op_sourced (act_of c.args.job.now.acts c.args.leaf) (source_of c.args.job.now c.args.leaf) c.args.values.now c.in-Call.op c.in-Some.source None act source c.in_err-values-in-Some.was

pub returns-in-None : goal.returns-in-None
returns-in-None c =
    let act : act_of c.args.job.now.acts c.args.leaf ≡ Call c.in-Call.op = subst (λ (acts : List Act). act_of acts c.args.leaf ≡ Call c.in-Call.op) c.acts.ensures.acts c.in-Call.is in
    let source : source_of c.args.job.now c.args.leaf ≡ None = get_or_from_slice_get c.args.job.now.sources c.args.leaf None None c.in-None.ensures in
    op_plain (act_of c.args.job.now.acts c.args.leaf) (source_of c.args.job.now c.args.leaf) c.args.values.now c.in-Call.op act source

pub returns-in_ok-values-in-Some : goal.returns-in_ok-values-in-Some
returns-in_ok-values-in-Some c =
    let act : act_of c.args.job.now.acts c.args.leaf ≡ Call c.in-Call.op = subst (λ (acts : List Act). act_of acts c.args.leaf ≡ Call c.in-Call.op) c.acts.ensures.acts c.in-Call.is in
    let source : source_of c.args.job.now c.args.leaf ≡ Some c.in-Some.source = get_or_from_slice_get c.args.job.now.sources c.args.leaf (Some c.in-Some.source) None c.in-Some.ensures in
    ap Some c.with_value.ensures
    ∙ op_sourced (act_of c.args.job.now.acts c.args.leaf) (source_of c.args.job.now c.args.leaf) c.args.values.now c.in-Call.op c.in-Some.source (Some c.in_ok-values-in-Some.field-0) act source c.in_ok-values-in-Some.was
