use Rattle.std.proofs.Common.{refl}
use Rattle.sp_order.specs.Precedence.{tree_of}
use Rattle.report_walks.proofs.Spans.{seq_spanned, par_spanned}
use Rattle.report_walks.proofs.order.+span_of.Goals as goal

pub returns-else-late-early-clause-some : goal.returns-else-late-early-clause-some
returns-else-late-early-clause-some t c =
    let early = c.in_ok-early-in-Seq.ensures.some in
    let late = c.in_ok-late-in-Seq.ensures.some in
    rw (c.in-Seq.is, c.joined.ensures) (seq_spanned c.args.rows.now c.args.first c.in_ok-early-in-Seq.early.next (tree_of c.in-Seq.left.value) (tree_of c.in-Seq.right.value) c.in_ok-early-in-Seq.early c.in_ok-late-in-Seq.late (rw c.deref.ensures at early.0) refl (rw c.deref-in-Seq.ensures at late.0) c.if-late-early.false (rw c.deref.ensures at early.1) (rw c.deref-in-Seq.ensures at late.1))

pub returns-in_ok-other-in-Par-clause-some : goal.returns-in_ok-other-in-Par-clause-some
returns-in_ok-other-in-Par-clause-some t c =
    let one = c.in_ok-one-in-Par.ensures.some in
    let other = c.in_ok-other-in-Par.ensures.some in
    rw (c.in-Par.is, c.joined-in-Par.ensures) (par_spanned c.args.rows.now c.args.first c.in_ok-one-in-Par.one.next (tree_of c.in-Par.left.value) (tree_of c.in-Par.right.value) c.in_ok-one-in-Par.one c.in_ok-other-in-Par.other (rw c.deref-in-Par.ensures at one.0) refl (rw c.deref-in-Par-2.ensures at other.0) (rw c.deref-in-Par.ensures at one.1) (rw c.deref-in-Par-2.ensures at other.1))
