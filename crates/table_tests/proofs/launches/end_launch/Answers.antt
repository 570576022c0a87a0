use Rattle.std.proofs.Common.{◌≡◌, List, ◌++◌, [], ◌∷◌, length, sym, ap, ◌∙◌, subst}
use Rattle.batch_history.specs.declared.batch.Entry.{Entry}
use Rattle.table_tests.specs.Launches.{Answers}
use Rattle.table_tests.proofs.LaunchLemmas.Flags.{flag_serves, flag_due, flag_published, all_answered}
use Rattle.table_tests.proofs.launches.end_launch.Goals as goal

pub serve_calls-requires : goal.serve_calls-requires
serve_calls-requires c = flag_serves c.args.table.now 2 c.args.shop c.args.calls.items c.args.pass.now c.requires.flag c.requires.some

pub publish-requires-clause-due : goal.publish-requires-clause-due
publish-requires-clause-due c =
    flag_due c.args.table.now 2 c.args.shop c.args.calls.items c.args.pass.now c.requires.flag c.in_ok-shop.batch c.requires.some c.in_ok-shop.ensures.batch
    (sym c.requires.two.0)

pub answer_all-requires : goal.answer_all-requires
answer_all-requires c =
    let t = c.args.table.now in
    let batch = c.in_ok-shop.batch in
    let all : c.as_slice.result.now ≡ batch =
    c.as_slice.ensures.value ∙ (c.in_ok-extend_from_slice.ensures.items ∙ (ap (λ (l : List Entry). l ++ c.entries.result.now) c.new-entries.ensures.items ∙ c.entries.ensures)) in
    let number = sym (ap (λ (l : List (List Entry)). length l) (c.batches-number.ensures.batches ∙ c.history.ensures)) in
    record {
      published = (
        c.args.shop,
        ap (λ (l : List Entry). c.args.shop ++ l ∷ []) all ∙ sym c.in_ok-shop.ensures.shop,
        number,
        subst (λ (l : List Entry). Answers t c.args.shop l 0 c.publish.new.pass) (sym all)
            (flag_published t 2 c.args.shop c.args.calls.items c.args.pass.now c.requires.flag c.publish.new.pass c.publish.ensures.pass batch c.requires.some
            c.in_ok-shop.ensures.batch (sym c.requires.two.0) c.publish.ensures.published),
      );
    }

pub release-requires-clause-due : goal.release-requires-clause-due
release-requires-clause-due c =
    let done = c.answer_all.ensures.answered in
    let due = all_answered c.args.table.now done.0 c.as_slice.result.now c.answer_all.new.pass done.2 in
    (due.0, due.1, due.2, sym done.1 ∙ due.3)
