use Rattle.std.proofs.Common.{ap, subst, string_bytes, take}
use Rattle.std.proofs.lemmas.Result.{on_ok_weaker}
use Rattle.sp_order.specs.Precedence.{tree_of, leaves}
use Rattle.job_writer.specs.Code.Writable.{texts_of}
use Rattle.job_writer.specs.Code.Smalls.{IsSmallLeaf, AreSmallLeaves}
use Rattle.job_writer.proofs.WriterLemmas.Fronts.{seq_text, par_text}
use Rattle.job_lang.proofs.EachOf.{each_of_both}
use Rattle.job_writer.proofs.writer.+shapes.Goals as goal

pub push_shape-returns-in_ok-push_str-in-Seq-clause-text : goal.push_shape-returns-in_ok-push_str-in-Seq-clause-text
push_shape-returns-in_ok-push_str-in-Seq-clause-text t c =
    on_ok_weaker c.push_sides.result
    (λ sides. seq_text (texts_of c.args.names.now) c.args.written.now (string_bytes c.args.text.now) (ap tree_of c.in-Seq.is) (ap tree_of c.deref.ensures) (ap tree_of c.deref-in-Seq.ensures) c.in_ok-push_str-in-Seq.ensures.bytes sides)
    c.push_sides.ensures.text

pub push_shape-returns-in_ok-push_str-in-Par-clause-text : goal.push_shape-returns-in_ok-push_str-in-Par-clause-text
push_shape-returns-in_ok-push_str-in-Par-clause-text t c =
    on_ok_weaker c.push_sides-in-Par.result
    (λ sides. par_text (texts_of c.args.names.now) c.args.written.now (string_bytes c.args.text.now) (ap tree_of c.in-Par.is) (ap tree_of c.deref-in-Par.ensures) (ap tree_of c.deref-in-Par-2.ensures) c.in_ok-push_str-in-Par.ensures.bytes sides)
    c.push_sides-in-Par.ensures.text

pub push_sides-returns-clause-small : goal.push_sides-returns-clause-small
push_sides-returns-clause-small t c =
    each_of_both IsSmallLeaf (leaves (tree_of c.args.left.now)) (leaves (tree_of c.args.right.now)) c.args.written.now
    c.in_ok-rest.ensures.small (subst (λ rest. AreSmallLeaves (take (leaves (tree_of c.args.right.now)) rest)) c.in_ok-rest.ensures.rest c.in_ok-rest-2.ensures.small)
