use Rattle.std.proofs.Common.{◌≡◌, ℕ, ◌+◌, true, false, Option, List, ◌++◌, length, drop, refl, sym, ap, subst, ◌∙◌}
use Rattle.std.proofs.lemmas.List.{at_drop_all}
use Rattle.batch_history.specs.Book.{flat}
use Rattle.report_walks.specs.Code.Calls.{all_noted, CanNoteAll, HaveValues}
use Rattle.report_walks.proofs.Walks.{flat_opened, flat_closed, begun}
use Rattle.report_walks.proofs.CallWalk.{noted_append, noted_long, can_both, can_first, can_of_once, have_of_once, values_of_noted}
use Rattle.report_walks.proofs.calls.values_of.Goals as goal

pub returns-then-not-note_batch-clause-none : goal.returns-then-not-note_batch-clause-none
returns-then-not-note_batch-clause-none c once =
    let all = c.loop-batch.invariant.can.1 (can_of_once c.args.acts.now (flat c.args.book.now) once) in
    let here = flat_opened c.args.book.now c.loop-batch.batch-index c.batch-item.result c.entries.result.now c.loop-batch-test.true c.batch-item.is c.entries.ensures (CanNoteAll c.args.acts.now c.loop-batch.values.items) all in
    c.if-not-note_batch.ensures.not refl (can_first c.args.acts.now c.loop-batch.values.items c.entries.result.now (flat (drop (c.loop-batch.batch-index + 1) c.args.book.now)) here).0

pub loop-batch-preserved : goal.loop-batch-preserved
loop-batch-preserved c =
    let acts = c.args.acts.now in
    let values = c.loop-batch.values.items in
    let entries = c.entries.result.now in
    let rest = flat (drop (c.loop-batch.batch-index + 1) c.args.book.now) in
    let noted = c.if-not-note_batch.ensures.can refl in
    record {
      long = ap length noted.1 ∙ noted_long values entries ∙ c.loop-batch.invariant.long;
      can = (
        λ more. c.loop-batch.invariant.can.0 (flat_closed c.args.book.now c.loop-batch.batch-index c.batch-item.result entries c.loop-batch-test.true c.batch-item.is c.entries.ensures (CanNoteAll acts values)
            (can_both acts values entries rest noted.0 (subst (λ (vs : List (Option ℕ)). CanNoteAll acts vs rest) noted.1 more))),
        λ all. subst (λ (vs : List (Option ℕ)). CanNoteAll acts vs rest) (sym noted.1)
            (can_first acts values entries rest (flat_opened c.args.book.now c.loop-batch.batch-index c.batch-item.result entries c.loop-batch-test.true c.batch-item.is c.entries.ensures (CanNoteAll acts values) (c.loop-batch.invariant.can.1 all))).1,
      );
      noted = ap (λ (vs : List (Option ℕ)). all_noted vs rest) noted.1 ∙ sym (noted_append values entries rest)
          ∙ flat_closed c.args.book.now c.loop-batch.batch-index c.batch-item.result entries c.loop-batch-test.true c.batch-item.is c.entries.ensures
          (λ es. all_noted values (entries ++ rest) ≡ all_noted values es) refl
          ∙ c.loop-batch.invariant.noted;
    }

pub returns-then-not-have_values-clause-none : goal.returns-then-not-have_values-clause-none
returns-then-not-have_values-clause-none c once =
    let is = sym (at_drop_all (λ b. all_noted c.loop-batch.values.items (flat b)) c.args.book.now c.loop-batch.batch-index c.loop-batch-test.false) ∙ c.loop-batch.invariant.noted in
    let have = have_of_once c.args.acts.now (flat c.args.book.now) c.loop-batch.values.items is once in
    let wrong : false ≡ true = c.if-not-have_values.ensures.1 (subst (HaveValues c.args.acts.now) (sym c.as_slice.ensures.value) have) in
    cc (wrong)

pub returns-clause-some : goal.returns-clause-some
returns-clause-some c =
    let is = sym (at_drop_all (λ b. all_noted c.loop-batch.values.items (flat b)) c.args.book.now c.loop-batch.batch-index c.loop-batch-test.false) ∙ c.loop-batch.invariant.noted in
    values_of_noted c.args.acts.now (flat c.args.book.now) c.loop-batch.values.items
    (c.loop-batch.invariant.can.0 (begun (λ b. CanNoteAll c.args.acts.now c.loop-batch.values.items (flat b)) c.args.book.now c.loop-batch.batch-index c.loop-batch-test.false tt))
    is (subst (HaveValues c.args.acts.now) c.as_slice.ensures.value (c.if-not-have_values.ensures.0 refl))
